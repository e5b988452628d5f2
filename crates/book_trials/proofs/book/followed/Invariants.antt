use Rattle.std.proofs.Common.{◌≡◌}
use Rattle.book_trials.proofs.book.followed.Given as goal

abbrev pub invariant-rows : goal.invariant-rows
invariant-rows l = l.book.keeper.table ≡ l.table
