use Rattle.std.proofs.Common.{◌≡◌, length, Some}
use Rattle.frame_core.specs.declared.seat.Life.{Life}
use Rattle.frame_core.specs.Ledger.{named_at}
use Rattle.book_trials.proofs.table.spend.Given as goal

abbrev pub invariant-loop : goal.invariant-loop
invariant-loop l = record {
  own : l.keeper.table ≡ l.table;
  width : length l.keeper.ledger.frames ≡ 1;
  named : (life : Life) → named_at l.keeper.ledger 0 ≡ Some life → life.frame ≡ 0;
}
