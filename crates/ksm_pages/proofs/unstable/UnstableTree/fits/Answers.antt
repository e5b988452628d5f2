use Rattle.ksm_pages.proofs.Names.{[], AreApart, arith, cases_Bool, get_or, get_or_default, inl, inr, length, List, nat_tests, nil_from_length, refl, rules, subst, sym, ℕ, ◌==◌, ◌∙◌, ◌≡◌}
use Rattle.ksm_pages.proofs.Leading.{led_joined, led_split}
use Rattle.ksm_pages.proofs.unstable.UnstableTree.fits.Goals as goal

pub loop-keys-preserved : goal.loop-keys-preserved
loop-keys-preserved c at d lt = elim (cases_Bool (at == c.loop-keys.keys-index)) [
  | inl last ↦
      let is : at ≡ c.loop-keys.keys-index = grind (arith, nat_tests) in
      let same : get_or c.deref-keys-items.result.now c.loop-keys.keys-index [] ≡ get_or c.args.self.now.places.items at d =
      get_or_default c.deref-keys-items.result.now c.loop-keys.keys-index [] d c.loop-keys-test.true
      ∙ (λ i. get_or (c.deref-keys-items.ensures.value i) (sym is i) d) in
      subst (λ (keys : List ℕ). AreApart c.args.entries.now keys (length keys)) same (c.if-not-are_apart.ensures refl)
  | inr other ↦ c.loop-keys.invariant at d (grind (arith, nat_tests, other, lt))
]

pub returns-then-by_node : goal.returns-then-by_node
returns-then-by_node c _ =
    rw c.if-by_node.true (led_split c.args.self.now (nil_from_length _ (search rules)) (rw c.if-by_node.true at c.requires))

pub returns : goal.returns
returns c _ =
    rw c.if-by_node.false
    (led_joined c.args.self.now (nil_from_length _ (search rules)) (λ k d lt. c.loop-keys.invariant k d (grind (arith, lt, c.deref-keys-items.ensures.value)))
    (rw c.if-by_node.false at c.requires))
