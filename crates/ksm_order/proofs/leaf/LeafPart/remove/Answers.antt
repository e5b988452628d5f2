use Rattle.ksm_order.proofs.{absent_kept, AllPairs-filter, arith, Item, numbers_ordered, remove_here, removed_counted, without, ◌<◌, ◌∙◌, ◌≡◌}
use Rattle.ksm_order.proofs.leaf.LeafPart.remove.Goals.{After-remove-gone}
use Rattle.ksm_order.proofs.leaf.LeafPart.remove.Goals as goal

-- the item is taken away
gone : (c : After-remove-gone) → c.remove-gone.new.self.items ≡ without c.args.key c.self.inside.items.items
gone c =
    c.remove-gone.ensures.items ∙ remove_here c.self.invariant.ascending (rw c.as_slice.ensures.value at c.in-Some.ensures.here) c.remove-gone.result

pub invariant_of-self : goal.invariant_of-self
invariant_of-self c =
    record {
      ascending = rw (gone (goal.at.invariant_of-self c).After-remove-gone) (AllPairs-filter (λ (x y : Item). x.key < y.key) _ _ c.self.invariant.ascending);
      counted = grind (arith, removed_counted c.self.invariant c.in-Some.at (grind arith) c.remove-gone.ensures.value);
    }

pub returns-in-Some : goal.returns-in-Some
returns-in-Some c = rw (← c.self.view_is) (gone (goal.at.returns-in-Some c).After-remove-gone)

pub returns-in_default : goal.returns-in_default
returns-in_default c =
    rw (← c.self.view_is) (absent_kept numbers_ordered (λ (x : Item). x.key) c.args.key c.self.inside.items.items (rw c.as_slice.ensures.value at c.in_default.ensures.missing))
