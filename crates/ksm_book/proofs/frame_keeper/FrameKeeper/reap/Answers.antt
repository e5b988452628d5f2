use Rattle.ksm_book.proofs.Names.{arith}
use Rattle.ksm_book.proofs.Made.{sets_reaped}
use Rattle.ksm_book.proofs.frame_keeper.FrameKeeper.reap.Goals as goal

pub invariant_of-self : goal.invariant_of-self
invariant_of-self c = grind (arith, sets_reaped _ _ c.self.invariant c.reap-alone.ensures.1)
