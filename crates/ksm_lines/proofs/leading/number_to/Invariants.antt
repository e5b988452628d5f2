use Rattle.ksm_lines.proofs.Names.{get_or, IsReadTo, ◌≡◌, ◌≤◌}
use Rattle.ksm_lines.proofs.leading.number_to.Given as goal

-- the first digits are read, and a first digit 0 is alone
abbrev pub invariant-loop-at : goal.invariant-loop-at
invariant-loop-at l = IsReadTo l.at l.text l.value × (get_or l.text 0 0 ≡ 48 → (l.value ≡ 0) × (l.at ≤ 1))
