use Rattle.std.proofs.Common.{◌≡◌}
use Rattle.crowded_frame.proofs.reader.is_of_one_life.Given as goal

abbrev pub invariant-loop-i : goal.invariant-loop-i
invariant-loop-i l = l.held.table ≡ l.table
