-- What is true of every state of the book, whatever frames there are. (own)
use Rattle.std.specs.Prelude.{◌≡◌, ℕ, ◌<◌, ◌≤◌, ◌^◌, true, false, List, All, Some, None}
use Rattle.ksm_base.specs.declared.row.PageState.TheVariants.{Merged}
use Rattle.ksm_base.specs.declared.row.Row.{Row}
use Rattle.ksm_base.specs.declared.row.DupRow.{DupRow}
use Rattle.ksm_base.specs.declared.knobs.Knobs.{Knobs}
use Rattle.ksm_base.specs.Knobs.{AreKnobs}
use Rattle.ksm_base.specs.Values.{IsShape}
use Rattle.ksm_base.specs.Rows.{InPageOrder, InPlaceOrder, private_state, waiting_state, zero_state, all_zero, item_count, dup_numbered}
use Rattle.ksm_base.specs.State.{BookState, tree_of}
use Rattle.ksm_base.specs.Visit.{partner}

-- the dup of a row that is merged into a number: it stands among the dups, with the row's tree and bytes
pub record IsDupOf (knobs : Knobs) (dups : List DupRow) (row : Row) (number : ℕ) (dup : DupRow) : Type 0 where
  pub stands : dup_numbered number dups ≡ Some dup
  pub tree : dup.tree ≡ tree_of knobs row
  pub bytes : dup.bytes ≡ row.bytes

pub record IsSound (b : BookState) : Type 0 where
  -- the sizes of the shape are in their ranges
  pub shape : IsShape b.shape
  -- the knobs are in their ranges
  pub knobs : AreKnobs b.knobs
  -- the number of passes fits 64 bits
  pub passes : b.passes < 2 ^ 64
  -- the rows are in the order of their pages, each page once
  pub rows_rise : InPageOrder b.rows
  -- each row's home is one of the nodes
  pub homes : All (λ r. r.home < b.shape.nodes) b.rows
  -- a row that waits, is merged or is Zero is mergeable
  pub mergeable : All (λ r. private_state r.state ≡ false → r.mergeable ≡ true) b.rows
  -- a Zero row has only zeroes
  pub zero : All (λ r. zero_state r.state ≡ true → all_zero r.bytes ≡ true) b.rows
  -- a row that waits has no partner: at most one waits for each tree and bytes
  pub waiting : All (λ r. waiting_state r.state ≡ true → partner b.knobs b.rows r ≡ None) b.rows
  -- a merged row's dup stands among the dups, with the row's tree and bytes
  pub items : All (λ r. (number : ℕ) → r.state ≡ Merged number → (dup : DupRow) × IsDupOf b.knobs b.dups r number dup) b.rows
  -- the dups are in the order of their places, each place and each number once
  pub dups_rise : InPlaceOrder b.dups
  -- each dup's number has been given
  pub numbers : All (λ d. d.number < b.next) b.dups
  -- where pages merge across nodes each dup's tree is 0
  pub trees : All (λ d. b.knobs.merge_across_nodes ≡ 1 → d.tree ≡ 0) b.dups
  -- no dup has more items than the limit
  pub limit : All (λ d. item_count b.rows d ≤ b.knobs.max_page_sharing) b.dups
