use Rattle.ksm_order.proofs.{arith, items_cut, parts_cut}
use Rattle.ksm_order.proofs.node.NodePart.spill.Goals as goal

pub count_marked-count-requires : goal.count_marked-count-requires
count_marked-count-requires g c = grind (arith, c.in_ok-parts.ensures.tail, parts_cut c.self.invariant)

pub overflow_sub-self : goal.overflow_sub-self
overflow_sub-self g c = grind (arith, c.in_ok-parts.ensures.tail, parts_cut c.self.invariant)

pub invariant_of-result : goal.invariant_of-result
invariant_of-result g c = grind (arith, c.in_ok-parts.ensures.tail, parts_cut c.self.invariant)

pub invariant_of-self-2 : goal.invariant_of-self-2
invariant_of-self-2 g c = grind (arith, c.in_ok-parts.ensures, parts_cut c.self.invariant)

pub returns-clause-cut : goal.returns-clause-cut
returns-clause-cut g c = grind (arith, c.in_ok-parts.ensures, items_cut c.self.invariant)
