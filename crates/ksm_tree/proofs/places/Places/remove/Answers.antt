use Rattle.ksm_tree.proofs.Names.{absent_kept, AllPairs-filter, arith, IsHere, none_found, numbers_ordered, refl, remove_here, without, ℕ, ◌<◌, ◌==◌, ◌∙◌, ◌≡◌}
use Rattle.ksm_tree.proofs.places.Places.remove.Goals.{After-remove}
use Rattle.ksm_tree.proofs.places.Places.remove.Goals as goal

taken : (c : After-remove) → c.remove.new.self.items ≡ without c.args.place c.args.self.now.list.items
taken c =
    let here : IsHere (λ p. p) c.args.place c.args.self.now.list.items c.place_near_end-at.result =
    rw (c.as_slice-places.ensures, c.from-key.ensures) at (c.if-stands_at.ensures.here refl) in
    c.remove.ensures.items ∙ remove_here c.args.self.now.ascending here 0

pub invariant_of-self : goal.invariant_of-self
invariant_of-self c = record {
  ascending = rw (taken (goal.at.invariant_of-self c).After-remove) (AllPairs-filter (λ (p q : ℕ). p < q) _ _ c.args.self.now.ascending);
}

pub returns-then-stands_at-clause-without : goal.returns-then-stands_at-clause-without
returns-then-stands_at-clause-without c = grind (arith, taken)

pub returns-else-stands_at-clause-without : goal.returns-else-stands_at-clause-without
returns-else-stands_at-clause-without c =
    absent_kept numbers_ordered (λ p. p) c.args.place _ (none_found (λ p. p == c.args.place) _ (grind arith))
