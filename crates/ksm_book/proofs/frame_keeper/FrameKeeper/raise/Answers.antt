use Rattle.ksm_book.proofs.Names.{arith}
use Rattle.ksm_book.proofs.Made.{sets_raised}
use Rattle.ksm_book.proofs.frame_keeper.FrameKeeper.raise.Goals as goal

pub invariant_of-self : goal.invariant_of-self
invariant_of-self c =
    sets_raised c.raise.ensures.step.0 c.args.frame c.self.invariant (grind arith) c.raise.ensures.step.1 c.raise.ensures.filling c.remove.ensures
