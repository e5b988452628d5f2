-- What each command changes, and that all else stays: each row beside the one that stands in its place afterwards,
-- field by field.
-- Apply says the same as a function; that no command changes more is the law `each_command_changes_this_alone`. Own.
use Rattle.std.specs.Prelude.{◌≡◌, ◌≢◌, ◌↔◌, ◌⊎◌, ℕ, Bool, true, false, List, All, Contains, Option, Some, None}
use Rattle.std.specs.List.{AllZip}
use Rattle.ksm_base.specs.declared.page.GuestPage.{GuestPage}
use Rattle.ksm_base.specs.declared.row.PageState.TheVariants.{Private, Waiting}
use Rattle.ksm_base.specs.declared.row.Row.{Row}
use Rattle.ksm_base.specs.declared.command.Command.{Command}
use Rattle.ksm_base.specs.declared.command.Command.TheVariants.{Register, Drop, Store, Scan, Prune, Unmerge, Mergeable, MovePage, MoveDup, SetRun, SetAcross, SetLimit}
use Rattle.ksm_base.specs.declared.reply.Reply.{Reply}
use Rattle.ksm_base.specs.declared.reply.Reply.TheVariants.{Done, Scanned, Pruned, Unmerged}
use Rattle.ksm_base.specs.declared.knobs.Knob.{Knob}
use Rattle.ksm_base.specs.Knobs.{set_by, with_value}
use Rattle.ksm_base.specs.Rows.{row_at, shared_state}
use Rattle.ksm_base.specs.State.{BookState}
use Rattle.ksm_base.specs.Reasons.{HasItem}

-- each row of b with the one that stands in its place in c
abbrev pub RowByRow : (Row → Row → Type 0) → BookState → BookState → Type 0
RowByRow R b c = AllZip R b.rows c.rows

-- the rows that P holds of become others, as R says, all others stay
abbrev pub Where : (Row → Type 0) → (Row → Row → Type 0) → Row → Row → Type 0
Where P R r s = (P r → R r s) × (¬ (P r) → s ≡ r)

-- every other page has the row that it had, or has none as before
abbrev pub OthersStay : GuestPage → BookState → BookState → Type 0
OthersStay page b c = (other : GuestPage) → other ≢ page → row_at other c.rows ≡ row_at other b.rows

-- the stale dups are gone, the others stay
pub record StaleGone (b c : BookState) : Type 0 where
  pub stay : All (λ d. HasItem b d → Contains c.dups d) b.dups
  pub no_more : All (λ d. Contains b.dups d × HasItem b d) c.dups

-- a row that is stored to
pub record IsStored (stored : List ℕ) (r s : Row) : Type 0 where
  pub page : s.page ≡ r.page
  pub home : s.home ≡ r.home
  pub bytes : s.bytes ≡ stored
  pub mergeable : s.mergeable ≡ r.mergeable
  pub unchanged : s.unchanged ≡ true ↔ ((r.unchanged ≡ true) × (r.bytes ≡ stored))
  pub state : s.state ≡ Private

-- a row that moves to a node: at its home it stays
pub record IsMoved (node : ℕ) (r s : Row) : Type 0 where
  pub page : s.page ≡ r.page
  pub home : s.home ≡ node
  pub bytes : s.bytes ≡ r.bytes
  pub mergeable : s.mergeable ≡ r.mergeable
  pub unchanged : s.unchanged ≡ r.unchanged
  pub at_home : r.home ≡ node → s.state ≡ r.state
  pub elsewhere : r.home ≢ node → s.state ≡ Private

-- a row that has a frame of its own again, with these flags
pub record IsAlone (scanned stayed : Bool) (r s : Row) : Type 0 where
  pub page : s.page ≡ r.page
  pub home : s.home ≡ r.home
  pub bytes : s.bytes ≡ r.bytes
  pub mergeable : s.mergeable ≡ scanned
  pub unchanged : s.unchanged ≡ stayed
  pub state : s.state ≡ Private

-- a row of which the state alone may be another
pub record IsCalmed (r s : Row) : Type 0 where
  pub waits : r.state ≡ Waiting → s ≡ record r { state = Private }
  pub stays : r.state ≢ Waiting → s ≡ r

-- a row that the scan may have visited
pub record IsVisited (r s : Row) : Type 0 where
  pub page : s.page ≡ r.page
  pub home : s.home ≡ r.home
  pub bytes : s.bytes ≡ r.bytes
  pub mergeable : s.mergeable ≡ r.mergeable

-- the rows alone differ
abbrev pub RowsAlone : BookState → BookState → Type 0
RowsAlone b c = c ≡ record b { rows = c.rows }

-- a knob alone gets another value
abbrev pub SetsAlone : Option (Knob × ℕ) → BookState → BookState → Type 0
SetsAlone None b c = ⊥
SetsAlone (Some (knob, v)) b c = c ≡ record b { knobs = with_value knob v b.knobs }

-- what a command changes that is answered so; c is the state afterwards
abbrev pub Changes : Command → Reply → BookState → BookState → Type 0
Changes (Register page node bytes) Done b c =
    RowsAlone b c × OthersStay page b c
    × (row_at page c.rows ≡ Some (record { page = page; home = node; bytes = bytes; mergeable = true; unchanged = false; state = Private }))
Changes (Drop page) Done b c = RowsAlone b c × OthersStay page b c × (row_at page c.rows ≡ None)
Changes (Store page bytes) Done b c = RowsAlone b c × RowByRow (Where (λ r. r.page ≡ page) (IsStored bytes)) b c
Changes (Scan n) (Scanned v stop) b c =
    (c ≡ record b { rows = c.rows; dups = c.dups; cursor = c.cursor; passes = c.passes; next = c.next })
    × RowByRow IsVisited b c
Changes Prune (Pruned k) b c = (c ≡ record b { dups = c.dups }) × StaleGone b c
Changes (Unmerge guest) (Unmerged k None) b c = RowsAlone b c
    × RowByRow (Where (λ r. r.page.guest ≡ guest) (IsAlone false false)) b c
Changes (Unmerge guest) (Unmerged k (Some fault)) b c =
    RowsAlone b c × RowByRow (Where (λ r. r.page.guest ≡ guest) (λ r s. IsAlone false false r s ⊎ (s ≡ r))) b c
Changes (Mergeable guest) Done b c = RowsAlone b c
    × RowByRow (Where (λ r. r.page.guest ≡ guest) (λ r s. s ≡ record r { mergeable = true })) b c
Changes (MovePage page node) Done b c = RowsAlone b c × RowByRow (Where (λ r. r.page ≡ page) (IsMoved node)) b c
Changes (MoveDup place node) Done b c = c ≡ b
Changes (SetRun v) (Unmerged k None) b c =
    (c ≡ record b { rows = c.rows; cursor = None; knobs = record b.knobs { run = 2 } })
    × RowByRow (λ r s. IsAlone r.mergeable false r s) b c
Changes (SetRun v) (Unmerged k (Some fault)) b c =
    (c ≡ record b { rows = c.rows; knobs = record b.knobs { run = 0 } })
    × RowByRow (Where (λ r. shared_state r.state ≡ true) (λ r s. IsAlone r.mergeable false r s ⊎ (s ≡ r))) b c
Changes (SetAcross v) Done b c =
    (v ≡ b.knobs.merge_across_nodes → c ≡ b)
    × (v ≢ b.knobs.merge_across_nodes
    → (c ≡ record b { rows = c.rows; dups = c.dups; knobs = record b.knobs { merge_across_nodes = v } })
    × RowByRow IsCalmed b c × StaleGone b c)
Changes (SetLimit v) Done b c =
    (v ≡ b.knobs.max_page_sharing → c ≡ b)
    × (v ≢ b.knobs.max_page_sharing
    → (c ≡ record b { dups = c.dups; knobs = record b.knobs { max_page_sharing = v } }) × StaleGone b c)
Changes command Done b c = SetsAlone (set_by command) b c
Changes _ _ b c = ⊥
