use Rattle.ksm_order.proofs.{arith, counted_cut}
use Rattle.ksm_order.proofs.leaf.LeafPart.spill.Goals as goal

pub overflow_sub-self : goal.overflow_sub-self
overflow_sub-self c = grind (arith, c.in_ok-items.ensures.tail, counted_cut c.self.invariant c.if-index-key.at)

pub invariant_of-result : goal.invariant_of-result
invariant_of-result c = grind (arith, c.in_ok-items.ensures.tail, counted_cut c.self.invariant c.if-index-key.at)

pub invariant_of-self-2 : goal.invariant_of-self-2
invariant_of-self-2 c = grind (arith, c.in_ok-items.ensures, counted_cut c.self.invariant)
