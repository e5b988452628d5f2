use Rattle.ksm_lines.specs.Digits.{IsReadTo}
use Rattle.ksm_lines.proofs.field.number_in.Given as goal

abbrev pub invariant-loop-at : goal.invariant-loop-at
invariant-loop-at l = IsReadTo l.at l.word l.value
