use Rattle.ksm_lines.proofs.Names.{all_knobs, get_or, Knob, knob_name, List, ℕ, ◌++◌, ◌<◌, ◌≢◌}
use Rattle.ksm_lines.proofs.knob.knob_at.Given as goal

-- no earlier knob's name begins the text
abbrev pub invariant-loop-knob : goal.invariant-loop-knob
invariant-loop-knob l =
    (at : ℕ) → at < l.knob-index → (d : Knob) (left : List ℕ) → l.text ≢ knob_name (get_or all_knobs at d) ++ left
