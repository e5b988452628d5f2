use Rattle.std.proofs.Common.{◌≡◌, ℕ, ◌<◌, get_or}
use Rattle.frame_table.specs.Equal.{SameHold, IsRead}
use Rattle.frame_table.proofs.equal.compare.Given as goal

abbrev pub invariant-loop-i : goal.invariant-loop-i
invariant-loop-i l = record {
  own : l.held.table ≡ l.table;
  hold : SameHold l.fn.held l.held;
  equal : (k : ℕ) → k < l.i → IsRead l.held k (get_or l.page k 0);
}
