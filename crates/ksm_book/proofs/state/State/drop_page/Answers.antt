use Rattle.ksm_book.proofs.Singles.{drop_gone, drop_may, lawful, row_held}
use Rattle.ksm_book.proofs.state.State.drop_page.Goals as goal

pub release_if-requires-clause-may : goal.release_if-requires-clause-may
release_if-requires-clause-may c =
    drop_may c.self.invariant.1 c.self.invariant.0.rows_rise (row_held c.in-Some.ensures) c.remove-left.ensures.left

pub invariant_of-self : goal.invariant_of-self
invariant_of-self c =
    lawful c.self.invariant.0 (drop_gone c.self.invariant.1 c.self.invariant.0.rows_rise (row_held c.in-Some.ensures)
    c.remove-left.ensures.left c.remove-left.ensures.gone c.release_if.ensures)
