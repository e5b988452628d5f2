use Rattle.std.proofs.Common.{◌≡◌}
use Rattle.book_trials.proofs.table.visit.Given as goal

abbrev pub invariant-loop : goal.invariant-loop
invariant-loop l = l.pass.table ≡ l.table
