use Rattle.ksm_script.proofs.Names.{Appends, length, take, ◌-◌, ◌≤◌}
use Rattle.ksm_script.proofs.output.write_parts.Given as goal

abbrev pub invariant-parts : goal.invariant-parts
invariant-parts g l = (l.at ≤ length l.text) × Appends (g.W.Write.contents l.fn.writer) (g.W.Write.contents l.writer) (take l.at l.text)

abbrev pub decreases-parts : goal.decreases-parts
decreases-parts g l = length l.text - l.at
