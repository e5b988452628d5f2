use Rattle.ksm_pages.proofs.Names.{arith, IsUnder, same_page_eq, sym}
use Rattle.ksm_pages.proofs.Writing.{row_there}
use Rattle.ksm_pages.proofs.rows.Rows.at.Goals as goal

pub returns-in-Some : goal.returns-in-Some
returns-in-Some c =
    let there : IsUnder c.self.inside.entries c.args.spot.page c.args.spot.key = grind (arith, same_page_eq) in
    grind (arith, row_there c.self.inside c.self.invariant.0 there (sym c.in-Some.ensures))
