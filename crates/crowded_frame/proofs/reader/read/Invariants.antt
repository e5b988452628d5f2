use Rattle.std.proofs.Common.{◌≡◌}
use Rattle.std.specs.Prelude.{None}
use Rattle.crowded_frame.proofs.reader.read.Given as goal

abbrev pub invariant-loop : goal.invariant-loop
invariant-loop l = record {
  own : l.pass.table ≡ l.table;
  slot : l.reader.pass ≡ None;
}
