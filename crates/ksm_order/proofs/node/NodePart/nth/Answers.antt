use Rattle.ksm_order.proofs.{arith, nat_tests, nth_cut}
use Rattle.ksm_order.proofs.node.NodePart.nth.Goals as goal

pub loop-part-preserved : goal.loop-part-preserved
loop-part-preserved g c =
    grind (arith, nat_tests, nth_cut g.P.Part.items c.as_slice-parts.result.now _ (omega arith) c.part-item.is c.loop-part.left)
