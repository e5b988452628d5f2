use Rattle.ksm_order.proofs.{all_in_front, arith, up_to_cut}
use Rattle.ksm_order.proofs.leaf.LeafPart.up_to.Goals as goal

pub returns-then-self-items : goal.returns-then-self-items
returns-then-self-items c = grind (arith, all_in_front c.self.inside.items.items, up_to_cut c.place_by-at.ensures)

pub returns : goal.returns
returns c = grind (arith, up_to_cut c.place_by-at.ensures)
