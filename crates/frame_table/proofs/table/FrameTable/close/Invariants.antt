use Rattle.std.proofs.Common.{◌≡◌, vec_len}
use Rattle.std.specs.Prelude.{All}
use Rattle.frame_table.proofs.Names.{PassView, keeps_ledger, order_in, tally_of}
use Rattle.frame_table.proofs.table.FrameTable.close.Given as goal

abbrev pub invariant-seats : goal.invariant-seats
invariant-seats l = record {
  own : l.seat.table_id ≡ l.self.id;
  keeper : l.seat.me ≡ keeps_ledger l.self.shape l.fn.keeper.ledger (tally_of 0 (vec_len l.passes)) l.fn.keeper.log (order_in l.seat.me);
  passes : All (λ (p : PassView). p.table ≡ l.self) l.passes.items;
}

abbrev pub decreases-seats : goal.decreases-seats
decreases-seats l = goal.left-seats l
