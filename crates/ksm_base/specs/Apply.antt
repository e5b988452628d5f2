-- The state after a command and its answer: admin-guide/mm/ksm for the knobs, own for what each command does to the rows.
use Rattle.std.specs.Prelude.{ℕ, Bool, true, false, ◌&&◌, ◌==◌, List, map, slice_get, Option, Some, None, Ok, Err, bytes_eq, if◌then◌else◌}
use Rattle.ksm_base.specs.declared.page.GuestPage.{GuestPage}
use Rattle.ksm_base.specs.declared.row.PageState.TheVariants.{Private}
use Rattle.ksm_base.specs.declared.row.Row.{Row}
use Rattle.ksm_base.specs.declared.command.Command.{Command}
use Rattle.ksm_base.specs.declared.command.Command.TheVariants.{Register, Drop, Store, Scan, Prune, Unmerge, Mergeable, MovePage, SetRun, SetAcross, SetLimit}
use Rattle.ksm_base.specs.declared.reply.Reply.{Reply}
use Rattle.ksm_base.specs.declared.reply.Reply.TheVariants.{Scanned, Unmerged}
use Rattle.ksm_base.specs.declared.fault.Fault.{Fault}
use Rattle.ksm_base.specs.declared.knobs.Knob.{Knob}
use Rattle.ksm_base.specs.Knobs.{set_by, with_value}
use Rattle.ksm_base.specs.Rows.{comes_before, with_row, without_page, change_rows, change_row, shared_state}
use Rattle.ksm_base.specs.State.{BookState, without_stale, with_none_waiting}
use Rattle.ksm_base.specs.Visit.{visit_begun, visits}
use Rattle.ksm_base.specs.Refusals.{is_of}
use Rattle.ksm_base.specs.Answers.{Answer, shared_rows, every_row}
pub use Rattle.ksm_base.specs.Answers.{IsAnswerOrMemory}

-- a new row is mergeable, not unchanged, and has a frame of its own
abbrev pub fresh_row : GuestPage → ℕ → List ℕ → Row
fresh_row page node bytes =
    record { page = page; home = node; bytes = bytes; mergeable = true; unchanged = false; state = Private }

-- a row after a store: it has a frame of its own, and unchanged is kept exactly where the bytes are equal
abbrev pub stored : List ℕ → Row → Row
stored bytes r = record r { bytes = bytes; unchanged = r.unchanged && bytes_eq r.bytes bytes; state = Private }

-- a row after a move: to another node it has a frame of its own there, and keeps both flags; at its home it stays as it is
abbrev pub moved : ℕ → Row → Row
moved node r = if r.home == node then r else record r { home = node; state = Private }

-- a row after its guest was unmerged
abbrev pub let_go : Row → Row
let_go r = record r { mergeable = false; unchanged = false; state = Private }

-- a row after all sharing was undone, by a run of 2
abbrev pub unshared : Row → Row
unshared r = record r { unchanged = false; state = Private }

-- the row comes before the one at which an unmerging stopped, or it didn't stop
abbrev pub is_before : Option Row → Row → Bool
is_before None r = true
is_before (Some stop) r = comes_before r.page stop.page

-- after a scan: where it stopped for memory, one visit more has begun
abbrev pub scan_stopped : Option Fault → BookState → BookState
scan_stopped None b = b
scan_stopped (Some fault) b = visit_begun b

-- after a run of 2: all rows are unshared and the scan is at the start of a pass; or the first k merged and Zero rows alone, and run is 0
abbrev pub unshare_stopped : Option Fault → ℕ → BookState → BookState
unshare_stopped None k b =
    record b { rows = map unshared b.rows; cursor = None; knobs = record b.knobs { run = 2 } }
unshare_stopped (Some fault) k b =
    record b {
      rows = change_rows (λ r. shared_state r.state && is_before (slice_get (shared_rows every_row b) k) r) unshared b.rows;
      knobs = record b.knobs { run = 0 };
    }

-- the state with another value of a knob, where one is set
abbrev pub with_setting : Option (Knob × ℕ) → BookState → BookState
with_setting None b = b
with_setting (Some (knob, v)) b = record b { knobs = with_value knob v b.knobs }

-- the state after a command that is answered with a reply
abbrev pub effect : BookState → Command → Reply → BookState
effect b (Register page node bytes) reply = record b { rows = with_row (fresh_row page node bytes) b.rows }
effect b (Drop page) reply = record b { rows = without_page page b.rows }
effect b (Store page bytes) reply = record b { rows = change_row page (stored bytes) b.rows }
effect b (Scan n) (Scanned v stop) = scan_stopped stop (visits v b)
effect b Prune reply = without_stale b
effect b (Unmerge guest) (Unmerged k stop) =
    record b { rows = change_rows (λ r. is_of guest r && is_before (slice_get (shared_rows (is_of guest) b) k) r) let_go b.rows }
effect b (Mergeable guest) reply = record b { rows = change_rows (is_of guest) (λ r. record r { mergeable = true }) b.rows }
effect b (MovePage page node) reply = record b { rows = change_row page (moved node) b.rows }
effect b (SetRun v) (Unmerged k stop) = unshare_stopped stop k b
effect b (SetAcross v) reply =
    if v == b.knobs.merge_across_nodes then b
    else record (with_none_waiting (without_stale b)) { knobs = record b.knobs { merge_across_nodes = v } }
effect b (SetLimit v) reply =
    if v == b.knobs.max_page_sharing then b
    else record (without_stale b) { knobs = record b.knobs { max_page_sharing = v } }
-- a dup that moves to another frame stays as it is
effect b command reply = with_setting (set_by command) b

-- the state after a command and its answer: a refusal keeps the state
abbrev pub after : BookState → Command → Answer → BookState
after b command (Ok reply) = effect b command reply
after b command (Err fault) = b
