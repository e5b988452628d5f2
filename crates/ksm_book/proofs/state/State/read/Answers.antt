use Rattle.ksm_book.proofs.Names.{arith, sym, ◌∙◌}
use Rattle.ksm_book.proofs.Singles.{may_read, row_known}
use Rattle.ksm_book.proofs.state.State.read.Goals as goal

pub load-requires : goal.load-requires
load-requires c =
    let row = row_known c.args.page c.self.inside.pages.rows c.in_ok-spot.ensures.1 in
    grind (arith, may_read c.self.invariant.1 _ row.0 row.1 _ (sym c.in_ok-spot.ensures.2 ∙ c.in-Some.is))

pub returns-in-Some-clause-bytes : goal.returns-in-Some-clause-bytes
returns-in-Some-clause-bytes c =
    let row = row_known c.args.page c.self.inside.pages.rows c.in_ok-spot.ensures.1 in
    grind (arith, may_read c.self.invariant.1 _ row.0 row.1 _ (sym c.in_ok-spot.ensures.2 ∙ c.in-Some.is))
