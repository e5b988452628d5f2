use Rattle.ksm_order.proofs.{arith, flat_map, up_to_few, up_to_in_part}
use Rattle.ksm_order.proofs.node.up_to_in.Goals as goal

pub overflow_add-result : goal.overflow_add-result
overflow_add-result g c =
    omega (arith, up_to_in_part c.part_of-at.ensures c.index-parts-at.is, up_to_few c.args.key (flat_map g.P.Part.items c.args.parts.now))

pub returns : goal.returns
returns g c = omega (arith, up_to_in_part c.part_of-at.ensures c.index-parts-at.is)
