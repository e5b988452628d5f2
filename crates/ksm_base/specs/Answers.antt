-- What a command may answer. Each free choice shows in the answer: a frame that is missing or in use, and where a scan or an
-- unmerging stopped. Own.
use Rattle.std.specs.Prelude.{◌≡◌, ℕ, ◌<◌, Bool, true, ◌&&◌, ◌==◌, List, length, filter, count_by, slice_get, Option, Some, None, option_and_then, Result, Ok, Err, MatchBool, MatchOption}
use Rattle.std.specs.Prelude.{if◌then◌else◌}
use Rattle.std.specs.List.{list_any}
use Rattle.ksm_base.specs.declared.row.Row.{Row}
use Rattle.ksm_base.specs.declared.command.Command.{Command}
use Rattle.ksm_base.specs.declared.command.Command.TheVariants.{Register, Store, Scan, Prune, Unmerge, MovePage, MoveDup, SetRun}
use Rattle.ksm_base.specs.declared.reply.Reply.{Reply}
use Rattle.ksm_base.specs.declared.reply.Reply.TheVariants.{Done, Scanned, Pruned, Unmerged}
use Rattle.ksm_base.specs.declared.fault.Fault.{Fault}
use Rattle.ksm_base.specs.declared.fault.Fault.TheVariants.{Memory, NoFrame, InUse}
use Rattle.ksm_base.specs.Rows.{row_at, shared_state, is_stale}
use Rattle.ksm_base.specs.State.{BookState}
use Rattle.ksm_base.specs.Refusals.{is_of, refusal}

-- a command is answered with a reply, or refused with a fault
abbrev pub Answer : Type 0
Answer = Result Reply Fault

-- the node of which a command needs one frame, if it needs one
abbrev pub frame_needed : BookState → Command → Option ℕ
frame_needed b (Register page node bytes) = Some node
frame_needed b (Store page bytes) = option_and_then (λ r. if shared_state r.state then Some r.home else None) (row_at page b.rows)
frame_needed b (MovePage page node) = option_and_then (λ r. if r.home == node then None else Some node) (row_at page b.rows)
frame_needed b (MoveDup place node) = Some node
frame_needed b _ = None

-- a scan has a page to visit
abbrev pub any_mergeable : BookState → Bool
any_mergeable b = list_any (λ r. r.mergeable) b.rows

-- the merged and Zero rows that pass a test, in order
abbrev pub shared_rows : (Row → Bool) → BookState → List Row
shared_rows test b = filter (λ r. test r && shared_state r.state) b.rows

-- the test that every row passes
abbrev pub every_row : Row → Bool
every_row r = true

-- done; or, where a frame of a node is needed, that node has none
abbrev pub IsDoneOr : Option ℕ → Answer → Type 0
IsDoneOr needed (Ok Done) = Unit {0}
IsDoneOr (Some node) (Err (NoFrame n)) = n ≡ node
IsDoneOr _ _ = ⊥

-- a scan makes all its visits, or none where no row is mergeable, or stops for memory before one of them
abbrev pub IsScanned : BookState → ℕ → Answer → Type 0
IsScanned b n (Ok (Scanned v None)) = v ≡ (if any_mergeable b then n else 0)
IsScanned b n (Ok (Scanned v (Some Memory))) = (any_mergeable b ≡ true) × (v < n)
IsScanned b n _ = ⊥

-- an unmerging gives each of these rows a frame, or stops at one of whose home there is none
abbrev pub IsUnmerged : List Row → Answer → Type 0
IsUnmerged rows (Ok (Unmerged k None)) = k ≡ length rows
IsUnmerged rows (Ok (Unmerged k (Some (NoFrame n)))) = MatchOption (slice_get rows k) ⊥ (λ r. n ≡ r.home)
IsUnmerged rows _ = ⊥

-- what a command may answer that the state doesn't refuse; a dup whose frame is held may be in use
abbrev pub IsAccepted : BookState → Command → Answer → Type 0
IsAccepted b (Scan n) answer = IsScanned b n answer
IsAccepted b Prune answer = answer ≡ Ok (Pruned (count_by (is_stale b.rows) b.dups))
IsAccepted b (Unmerge guest) answer = IsUnmerged (shared_rows (is_of guest) b) answer
IsAccepted b (SetRun v) answer = MatchBool (v == 2) (IsUnmerged (shared_rows every_row b) answer) (answer ≡ Ok Done)
IsAccepted b (MoveDup place node) (Err InUse) = Unit {0}
IsAccepted b command answer = IsDoneOr (frame_needed b command) answer

-- the refusal, or where there is none what the command may answer
abbrev pub IsAnswerUnless : Option Fault → BookState → Command → Answer → Type 0
IsAnswerUnless (Some fault) b command answer = answer ≡ Err fault
IsAnswerUnless None b command answer = IsAccepted b command answer

-- what a command may answer, want of memory aside
abbrev pub IsAnswer : BookState → Command → Answer → Type 0
IsAnswer b command answer = IsAnswerUnless (refusal b command) b command answer

-- the answer is one that the state allows, or says that memory was refused
abbrev pub IsAnswerOrMemory : BookState → Command → Answer → Type 0
IsAnswerOrMemory b command (Err Memory) = Unit {0}
IsAnswerOrMemory b command answer = IsAnswer b command answer
