use Rattle.ksm_order.proofs.{arith, from_place, slice_get_past}
use Rattle.ksm_order.proofs.leaf.LeafPart.first_from.Goals as goal

pub returns-else-at-items : goal.returns-else-at-items
returns-else-at-items c = grind (arith, from_place c.place_by-at.ensures, slice_get_past)
