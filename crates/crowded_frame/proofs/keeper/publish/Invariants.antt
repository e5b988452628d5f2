use Rattle.std.proofs.Common.{◌≡◌, length}
use Rattle.frame_core.specs.declared.frame.Kind.TheVariants.{Filling}
use Rattle.frame_core.specs.Ledger.{frame_at}
use Rattle.crowded_frame.proofs.keeper.publish.Given as goal

abbrev pub invariant-loop-i : goal.invariant-loop-i
invariant-loop-i l = record {
  own : l.keeper.table ≡ l.table;
  width : length l.keeper.ledger.frames ≡ 1;
  places : l.keeper.ledger.places ≡ l.fn.keeper.ledger.places;
  kind : (frame_at l.keeper.ledger 0).kind ≡ Filling;
}
