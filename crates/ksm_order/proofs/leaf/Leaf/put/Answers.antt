use Rattle.ksm_order.proofs.{arith, byte_of, find_none, insert_here, is_at, many_with, with_ascends, with_item, ◌≡◌}
use Rattle.ksm_order.proofs.leaf.Leaf.put.Goals as goal

-- the item is put in behind those before its key
added : (c : goal.After-self-2-1) → c.insert_at.new.items.items ≡ with_item c.args.item c.self.inside.items.items
added c =
    grind (arith, c.in_ok-insert_at.ensures.put, insert_here c.requires.place c.args.item (find_none (is_at c.args.item.key) _ (grind (arith, c.requires.absent))))

pub invariant_of-self-2 : goal.invariant_of-self-2
invariant_of-self-2 c =
    grind (arith, added c, with_ascends (λ y. y.key) c.args.item _ c.self.invariant.ascending, many_with c.args.item c.self.inside.items.items c.self.invariant.ascending, byte_of)

pub returns-clause-added : goal.returns-clause-added
returns-clause-added c = rw (← c.self.view_is) (added c)
