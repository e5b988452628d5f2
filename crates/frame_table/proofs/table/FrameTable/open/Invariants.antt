use Rattle.std.proofs.Common.{◌≡◌, ◌-◌, ◌≤◌, [], replicate, vec_capacity}
use Rattle.frame_core.specs.Ledger.{first_ledger}
use Rattle.frame_table.proofs.Names.{keeps_ledger, tally_of, new_pass}
use Rattle.frame_table.proofs.table.FrameTable.open.Given as goal

abbrev pub invariant-seats : goal.invariant-seats
invariant-seats l = record {
  own : l.seat.table_id ≡ l.table.id;
  shape : l.table.shape ≡ l.fn.shape;
  keeper : l.seat.me ≡ keeps_ledger l.fn.shape (first_ledger l.fn.shape) (tally_of (l.fn.shape.passes - l.i) l.i) [] [];
  made : l.passes.items ≡ replicate l.i (new_pass l.table);
  room : l.fn.shape.passes ≤ vec_capacity l.passes;
}
