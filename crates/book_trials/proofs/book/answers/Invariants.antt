use Rattle.std.proofs.Common.{◌≡◌}
use Rattle.book_trials.proofs.book.answers.Given as goal

abbrev pub invariant-commands : goal.invariant-commands
invariant-commands l = l.book.keeper.table ≡ l.table
