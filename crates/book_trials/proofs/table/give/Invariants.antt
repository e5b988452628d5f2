use Rattle.std.proofs.Common.{◌≡◌, ◌+◌, length}
use Rattle.ksm_base.specs.Values.{frames_of}
use Rattle.frame_core.specs.declared.frame.Kind.TheVariants.{Filling}
use Rattle.frame_core.specs.Ledger.{frame_at}
use Rattle.book_trials.proofs.table.give.Given as goal

abbrev pub invariant-loop-i : goal.invariant-loop-i
invariant-loop-i l = record {
  own : l.keeper.table ≡ l.table;
  width : length l.keeper.ledger.frames ≡ frames_of l.table.shape;
  places : l.keeper.ledger.places ≡ l.fn.keeper.ledger.places;
  kind : (frame_at l.keeper.ledger l.frame).kind ≡ Filling;
  life : (frame_at l.keeper.ledger l.frame).generation ≡ (frame_at l.fn.keeper.ledger l.frame).generation + 1;
}
