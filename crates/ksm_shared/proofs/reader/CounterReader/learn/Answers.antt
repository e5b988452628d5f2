use Rattle.ksm_shared.proofs.Showing.{either_row}
use Rattle.ksm_shared.proofs.reader.CounterReader.learn.Goals as goal

pub invariant_of-self : goal.invariant_of-self
invariant_of-self g c = (c.self.invariant.0, either_row _ _ _ _ c.rise.ensures.one c.self.invariant.1 c.answer.invariant)
