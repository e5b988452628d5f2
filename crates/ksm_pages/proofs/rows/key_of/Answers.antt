use Rattle.ksm_pages.proofs.Names.{arith, IsUnder, same_page_eq, sym}
use Rattle.ksm_pages.proofs.Filing.{named_under}
use Rattle.ksm_pages.proofs.rows.key_of.Goals as goal

pub returns-then-eq : goal.returns-then-eq
returns-then-eq c =
    let stands = sym c.in-Some.ensures in
    let here : IsUnder c.args.entries.now c.args.spot.page c.args.spot.key = grind (arith, same_page_eq) in
    grind (arith, named_under)
