use Rattle.ksm_pages.proofs.Names.{Bool, drop, is_led, list_any, not, ℕ, ◌≡◌}
use Rattle.ksm_pages.proofs.unstable.free_in.Given as goal

-- one of the keys that are left is free exactly where one of all is
abbrev pub invariant-loop-at : goal.invariant-loop-at
invariant-loop-at l =
    let free : ℕ → Bool = λ key. not (is_led l.entries key) in
    list_any free (drop l.at l.keys) ≡ list_any free l.keys
