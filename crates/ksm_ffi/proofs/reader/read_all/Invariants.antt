use Rattle.std.proofs.Common.{◌≡◌, ℕ, ◌<◌, get_or, length}
use Rattle.ksm_base.specs.declared.page.TheConstants.{PAGE_WORDS}
use Rattle.frame_table.specs.Equal.{SameHold, IsRead}
use Rattle.ksm_ffi.proofs.reader.read_all.Given as goal

abbrev pub invariant-loads : goal.invariant-loads
invariant-loads l = record {
  own : l.held.table ≡ l.table;
  hold : SameHold l.fn.held l.held;
  read : (k : ℕ) → k < l.i → IsRead l.held k (get_or l.words k 0);
  count : length l.words ≡ PAGE_WORDS;
}
