use Rattle.ksm_order.proofs.{arith, find_here}
use Rattle.ksm_order.proofs.leaf.LeafPart.find.Goals as goal

pub returns-in-Some : goal.returns-in-Some
returns-in-Some c = grind (arith, find_here c.self.invariant.ascending (rw c.as_slice-items.ensures.value at c.in-Some.ensures.here))
