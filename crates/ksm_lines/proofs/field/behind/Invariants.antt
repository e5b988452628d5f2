use Rattle.std.proofs.Common.{◌≡◌, take}
use Rattle.ksm_lines.proofs.field.behind.Given as goal

abbrev pub invariant-loop-i : goal.invariant-loop-i
invariant-loop-i l = take l.i l.text ≡ take l.i l.name
