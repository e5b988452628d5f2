-- Why each answer is given: a line for each refusal, each want of a frame and each reply, in words of what rows
-- and dups there are.
-- Refusals and Answers say the same by tests in an order; that both agree, each way, is the law
-- `each_answer_has_its_reason`. Own.
use Rattle.std.specs.Prelude.{◌≡◌, ◌≢◌, ℕ, ◌+◌, ◌<◌, ◌≤◌, Bool, true, ◌&&◌, List, ◌∷◌, ◌++◌, length, count_by, Any, ◌⊎◌, Some, None, Ok, Err}
use Rattle.ksm_base.specs.declared.page.GuestPage.{GuestPage}
use Rattle.ksm_base.specs.declared.row.PageState.TheVariants.{Merged}
use Rattle.ksm_base.specs.declared.row.Row.{Row}
use Rattle.ksm_base.specs.declared.row.DupRow.{DupRow}
use Rattle.ksm_base.specs.declared.command.Command.{Command}
use Rattle.ksm_base.specs.declared.command.Command.TheVariants.{Register, Drop, Store, Scan, Prune, Unmerge, Mergeable, MovePage, MoveDup, SetRun}
use Rattle.ksm_base.specs.declared.reply.Reply.{Reply}
use Rattle.ksm_base.specs.declared.reply.Reply.TheVariants.{Done, Scanned, Pruned, Unmerged}
use Rattle.ksm_base.specs.declared.fault.Fault.{Fault}
use Rattle.ksm_base.specs.declared.fault.Fault.TheVariants.{Memory, UnknownPage, AlreadyRegistered, NoFrame, NotRunning, SharedPages, BadValue, InUse, CrossesNodes, UnknownPlace, BadNode}
use Rattle.ksm_base.specs.declared.knobs.Knob.{Knob}
use Rattle.ksm_base.specs.Knobs.{set_by, traits, value_in}
use Rattle.ksm_base.specs.Rows.{row_at, shared_state}
use Rattle.ksm_base.specs.State.{BookState}
use Rattle.ksm_base.specs.Counting.{shared_count}
use Rattle.ksm_base.specs.Refusals.{live_dup_at, is_of}
use Rattle.ksm_base.specs.Answers.{Answer}

-- the page has a row
abbrev pub HasRow : BookState → GuestPage → Type 0
HasRow b page = Any (λ r. r.page ≡ page) b.rows

-- the guest has a row
abbrev pub GuestHasRow : BookState → ℕ → Type 0
GuestHasRow b guest = Any (λ r. r.page.guest ≡ guest) b.rows

-- the dup has an item
abbrev pub HasItem : BookState → DupRow → Type 0
HasItem b d = Any (λ r. r.state ≡ Merged d.number) b.rows

-- a dup with an item stands at the place
abbrev pub LivesAt : BookState → ℕ → Type 0
LivesAt b place = Any (λ d. (d.place ≡ place) × HasItem b d) b.dups

-- some dup has an item
abbrev pub SharesPages : BookState → Type 0
SharesPages b = Any (HasItem b) b.dups

-- the scan has a page to visit
abbrev pub HasMergeable : BookState → Type 0
HasMergeable b = Any (λ r. r.mergeable ≡ true) b.rows

-- a value below or above a knob's range
abbrev pub IsOutside : Knob → ℕ → Type 0
IsOutside knob v = (v < (traits knob).least) ⊎ ((traits knob).most < v)

-- the page or the guest of a command has no row, where the node that it names is there
abbrev pub HasNoRow : BookState → Command → Type 0
HasNoRow b (Drop page) = ¬ (HasRow b page)
HasNoRow b (Store page bytes) = ¬ (HasRow b page)
HasNoRow b (Unmerge guest) = ¬ (GuestHasRow b guest)
HasNoRow b (Mergeable guest) = ¬ (GuestHasRow b guest)
HasNoRow b (MovePage page node) = (node < b.shape.nodes) × ¬ (HasRow b page)
HasNoRow b command = ⊥

-- each refusal that the state decides, with its reason: of the tests the first that fails refuses
pub data Refuses (b : BookState) : Command → Fault → Type 0 where
  register_on_no_node : {page : GuestPage} {node : ℕ} {bytes : List ℕ} → b.shape.nodes ≤ node
      → Refuses b (Register page node bytes) BadNode
  register_again : {page : GuestPage} {node : ℕ} {bytes : List ℕ} → node < b.shape.nodes → HasRow b page
      → Refuses b (Register page node bytes) AlreadyRegistered
  without_row : {c : Command} → HasNoRow b c → Refuses b c UnknownPage
  scan_stands : {n : ℕ} → b.knobs.run ≢ 1 → Refuses b (Scan n) NotRunning
  move_to_no_node : {page : GuestPage} {node : ℕ} → b.shape.nodes ≤ node → Refuses b (MovePage page node) BadNode
  move_dup_to_no_node : {place node : ℕ} → b.shape.nodes ≤ node → Refuses b (MoveDup place node) BadNode
  move_no_dup : {place node : ℕ} → node < b.shape.nodes → ¬ (LivesAt b place)
      → Refuses b (MoveDup place node) UnknownPlace
  move_dup_across : {place node : ℕ} {d : DupRow} → node < b.shape.nodes → live_dup_at b place ≡ Some d
      → b.knobs.merge_across_nodes ≡ 0 → d.tree ≢ node → Refuses b (MoveDup place node) CrossesNodes
  value_outside : {c : Command} {knob : Knob} {v : ℕ} → set_by c ≡ Some (knob, v) → IsOutside knob v
      → Refuses b c BadValue
  shared_pages_stay : {c : Command} {knob : Knob} {v : ℕ} → set_by c ≡ Some (knob, v) → ¬ (IsOutside knob v)
      → (traits knob).fixed_while_shared ≡ true → v ≢ value_in knob b.knobs → SharesPages b → Refuses b c SharedPages

-- each command that needs one frame, with the node of which it needs it
pub data Wants (b : BookState) : Command → ℕ → Type 0 where
  for_a_new_page : {page : GuestPage} {node : ℕ} {bytes : List ℕ} → Wants b (Register page node bytes) node
  for_a_shared_page : {page : GuestPage} {bytes : List ℕ} {r : Row} → row_at page b.rows ≡ Some r
      → shared_state r.state ≡ true
      → Wants b (Store page bytes) r.home
  elsewhere : {page : GuestPage} {node : ℕ} {r : Row} → row_at page b.rows ≡ Some r → r.home ≢ node
      → Wants b (MovePage page node) node
  for_a_dup : {place node : ℕ} → Wants b (MoveDup place node) node

-- an unmerging of the rows that pass a test stops at one of them, before which k of them stand, and whose home is n
pub record StopsAt (test : Row → Bool) (rows : List Row) (k n : ℕ) : Type 0 where
  pub before : List Row
  pub row : Row
  pub behind : List Row
  pub splits : rows ≡ before ++ row ∷ behind
  pub passes : test row ≡ true
  pub count : count_by test before ≡ k
  pub home : n ≡ row.home

-- nothing is counted of what the command does
abbrev pub IsDoneAlone : Command → Type 0
IsDoneAlone (Scan n) = ⊥
IsDoneAlone Prune = ⊥
IsDoneAlone (Unmerge guest) = ⊥
IsDoneAlone (SetRun v) = v ≢ 2
IsDoneAlone command = Unit {0}

-- each reply, where the state refuses nothing
pub data Replies (b : BookState) : Command → Reply → Type 0 where
  done : {c : Command} → IsDoneAlone c → Replies b c Done
  scanned : {n : ℕ} → HasMergeable b → Replies b (Scan n) (Scanned n None)
  nothing_to_scan : {n : ℕ} → ¬ (HasMergeable b) → Replies b (Scan n) (Scanned 0 None)
  scan_stopped : {n v : ℕ} → HasMergeable b → v < n → Replies b (Scan n) (Scanned v (Some Memory))
  pruned : {k : ℕ} → k + shared_count b.rows b.dups ≡ length b.dups → Replies b Prune (Pruned k)
  unmerged : {guest k : ℕ} → k ≡ count_by (λ r. is_of guest r && shared_state r.state) b.rows
      → Replies b (Unmerge guest) (Unmerged k None)
  unmerging_stopped : {guest k n : ℕ} → StopsAt (λ r. is_of guest r && shared_state r.state) b.rows k n
      → Replies b (Unmerge guest) (Unmerged k (Some (NoFrame n)))
  all_unshared : {v k : ℕ} → v ≡ 2 → k ≡ count_by (λ r. shared_state r.state) b.rows
      → Replies b (SetRun v) (Unmerged k None)
  unsharing_stopped : {v k n : ℕ} → v ≡ 2 → StopsAt (λ r. shared_state r.state) b.rows k n
      → Replies b (SetRun v) (Unmerged k (Some (NoFrame n)))

-- the state refuses nothing
abbrev pub IsTaken : BookState → Command → Type 0
IsTaken b command = (fault : Fault) → ¬ (Refuses b command fault)

-- each answer with its reason: a refusal of the state; else a reply, a frame that is missing, or a dup to move
-- whose frame is in use
pub data HasReason (b : BookState) : Command → Answer → Type 0 where
  refuses : {c : Command} {fault : Fault} → Refuses b c fault → HasReason b c (Err fault)
  replies : {c : Command} {reply : Reply} → IsTaken b c → Replies b c reply → HasReason b c (Ok reply)
  finds_no_frame : {c : Command} {node : ℕ} → IsTaken b c → Wants b c node → HasReason b c (Err (NoFrame node))
  finds_in_use : {place node : ℕ} → IsTaken b (MoveDup place node) → HasReason b (MoveDup place node) (Err InUse)
