use Rattle.std.proofs.Common.{◌≡◌, ◌-◌, ◌≤◌, Some, None, vec_capacity}
use Rattle.ksm_base.specs.Values.{frames_of}
use Rattle.frame_table.specs.Named.{PassView}
use Rattle.ksm_audit.specs.Working.{places_of, Keeps, MayStop, MakesLookups}
use Rattle.ksm_audit.proofs.work.work.Given as goal

abbrev pub invariant-places : goal.invariant-places
invariant-places g l = record {
  own : l.pass.table ≡ l.table;
  seat : l.seat.table_id ≡ l.claims.table_id;
  keeps : Keeps (frames_of l.table.shape) (places_of l.lines.items) l.refused l.seat.me;
  next : l.seat.me.0.next ≤ frames_of l.table.shape;
  deal : l.seat.me.0.deal.places ≡ frames_of l.table.shape;
  vain : l.seat.me.0.past ≡ 0;
  room : frames_of l.table.shape ≤ vec_capacity l.lines;
  stop : MayStop (g.G.Gate.may_refuse l.gate) (frames_of l.table.shape) l.refused;
  made : (v : PassView) × (l.fn.job.pass ≡ Some v) × MakesLookups v l.lines.items l.pass;
  empty : l.slot ≡ None;
}

abbrev pub decreases-places : goal.decreases-places
decreases-places g l = frames_of l.table.shape - l.seat.me.0.next
