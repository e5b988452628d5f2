use Rattle.ksm_book.proofs.Names.{arith, sound_opening}
use Rattle.ksm_book.proofs.Laying.{first_laid}
use Rattle.ksm_book.proofs.state.State.open.Goals as goal

pub invariant_of-result : goal.invariant_of-result
invariant_of-result c = (
  grind (arith, c.in-Ok.ensures.opened, sound_opening),
  rw c.in-Ok.ensures.opened
      (rw c.in_ok-keeper.ensures.begun (first_laid c.requires.shape c.requires.same c.requires.new)),
)
