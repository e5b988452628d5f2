use Rattle.ksm_order.proofs.Names.{All-filter, AllPairs-filter, arith, length, refill, refl, same_page, ℕ, ◌<◌, ◌^◌, ◌≡◌}
use Rattle.ksm_order.proofs.Ordered.{absent_kept, none_found}
use Rattle.ksm_order.proofs.Places.{remove_here}
use Rattle.std.proofs.lemmas.List.Sums.{count_by-le-length, length-filter}
use Rattle.ksm_rmap.specs.Keys.{without_key}
use Rattle.ksm_rmap.proofs.Keys.{has_by_key, without_by_key}
use Rattle.ksm_rmap.proofs.Pages.{pages_ordered, refilled}
use Rattle.ksm_rmap.proofs.items.Items.remove.Goals as goal

-- the key at its place goes, so it is taken out
removed : (c : goal.After-truncate) → c.truncate.new.self.items ≡ without_key c.key_of-key.result c.self.inside.keys.items
removed c =
    let keys = c.self.inside.keys.items in
    let back : refill (length keys) keys c.move_down.new.items ≡ c.move_down.new.items = grind (arith, refilled keys c.move_down.new.items) in
    let gone = remove_here c.self.invariant.ascending (rw c.as_mut_slice-keys.ensures.value at (c.if-found.ensures.here refl)) 0 in
    grind (arith, back, gone, c.truncate.ensures.items, c.move_down.ensures.gone)

pub invariant_of-self : goal.invariant_of-self
invariant_of-self c = record {
  ascending = rw (removed c) (AllPairs-filter (λ (k l : ℕ). k < l) _ _ c.self.invariant.ascending);
  small = rw (removed c) (All-filter _ (λ (k : ℕ). k < 2 ^ 48) _ c.self.invariant.small);
  few = grind (arith, removed c, length-filter, count_by-le-length, c.self.invariant.few);
}

pub returns-then-found-clause-removed : goal.returns-then-found-clause-removed
returns-then-found-clause-removed c = grind (arith, removed c, without_by_key c.args.page c.key_of-key.ensures.few)

pub returns-else-found-clause-removed : goal.returns-else-found-clause-removed
returns-else-found-clause-removed c =
    let none = none_found (λ p. same_page p c.args.page) c.args.self.now (grind (arith, has_by_key c.args.page c.key_of-key.ensures.few)) in
    grind (arith, refilled c.self.inside.keys.items c.as_mut_slice-keys.result.now, absent_kept pages_ordered (λ p. p) c.args.page c.args.self.now none)
