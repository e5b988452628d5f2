use Rattle.ksm_order.proofs.{arith, drop_all, from_in_next, from_in_part}
use Rattle.ksm_order.proofs.node.NodePart.first_from.Goals as goal

pub returns-in-Some : goal.returns-in-Some
returns-in-Some g c = grind (arith, from_in_part c.part_of-at.ensures c.index-parts-at.is)

pub returns-in-None : goal.returns-in-None
returns-in-None g c =
    grind (arith, from_in_part c.part_of-at.ensures c.index-parts-at.is, from_in_next c.part_of-at.ensures c.index-parts-at.is (rw c.as_slice-parts.ensures.value c.self.invariant.0) c.if-at-parts.true c.index-parts-at-in-None.is)

pub returns-in-None-2 : goal.returns-in-None-2
returns-in-None-2 g c = grind (arith, from_in_part c.part_of-at.ensures c.index-parts-at.is, drop_all)
