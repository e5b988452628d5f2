-- What is promised of the book and its frames between any two calls (own).
use Rattle.std.specs.Prelude.{◌≡◌, ◌≢◌, ℕ, ◌*◌, ◌<◌, ◌≤◌, Bool, true, false, not, List, ◌++◌, map, filter, AllPairs, All, Contains, Some, None, MatchOption}
use Rattle.ksm_book.specs.Terms.{all_zero, BookState, DupRow, Filling, frame_at, Frames, frames_of, GuestPage, has_items, item_count, Kind, Ledger, Life, merged_into, MOST_FRAMES, MOST_LIVES}
use Rattle.ksm_book.specs.Terms.{named_at, new_place, place_count, Private, Row, row_at, Shape, shared_state, Stable, zero_state}
use Rattle.ksm_book.specs.Placement.{node_of, place_frame}
use Rattle.ksm_book.specs.Commands.{frame_number}

-- the frames of the rows with a frame of their own, in order
abbrev pub own_frames : List Row → Frames → List ℕ
own_frames rows frame = map (λ r. frame_number (frame r.page)) (filter (λ r. not (shared_state r.state)) rows)

-- the frames of the dups with items, as their places name them
abbrev pub dup_frames : BookState → Ledger → List ℕ
dup_frames b k = map (λ d. place_frame k d.place) (filter (has_items b.rows) b.dups)

-- a frame of this kind is in use: it is written, or one page's own, or shown at a place
abbrev pub is_in_use : Kind → Bool
is_in_use Filling = true
is_in_use Private = true
is_in_use Stable = true
is_in_use _ = false

-- a row with a frame of its own has it for itself, on its home and with its bytes
pub record HasItsOwn (shape : Shape) (k : Ledger) (row : Row) (frame : ℕ) : Type 0 where
  pub exists : frame < frames_of shape
  pub kind : (frame_at k frame).kind ≡ Private
  pub base : (frame_at k frame).base ≡ 1
  pub node : node_of shape frame ≡ row.home
  pub content : (frame_at k frame).content ≡ row.bytes

-- the place of a dup with items names its frame in its life: shown, with a reference for each item, and the bytes of
-- each; where pages don't merge across nodes the items have one home, the dup's tree, and the frame lies there
pub record StandsOn (b : BookState) (k : Ledger) (dup : DupRow) (frame : ℕ) : Type 0 where
  pub named : named_at k dup.place ≡ Some (record { frame = frame; generation = (frame_at k frame).generation })
  pub exists : frame < frames_of b.shape
  pub kind : (frame_at k frame).kind ≡ Stable
  pub base : (frame_at k frame).base ≡ item_count b.rows dup
  pub limit : item_count b.rows dup ≤ b.knobs.max_page_sharing
  pub content : (frame_at k frame).content ≡ dup.bytes
  pub bytes : All (λ r. merged_into dup.number r.state ≡ true → r.bytes ≡ dup.bytes) b.rows
  pub homes : b.knobs.merge_across_nodes ≡ 0
      → All (λ r. merged_into dup.number r.state ≡ true → r.home ≡ dup.tree) b.rows
  pub node : b.knobs.merge_across_nodes ≡ 0 → node_of b.shape frame ≡ dup.tree

-- the place names a frame that is not shown in the life named
pub record IsOutlived (k : Ledger) (place : ℕ) : Type 0 where
  pub life : Life
  pub named : named_at k place ≡ Some life
  pub over : (frame_at k life.frame).generation ≡ life.generation → (frame_at k life.frame).kind ≢ Stable

-- rows, each on the frame of its page if it has one, and dups lie lawfully in what the keeper knows
pub record LieOn (b : BookState) (frame : Frames) (k : Ledger) : Type 0 where
  -- a row that is neither merged nor Zero has its own
  pub own : All (λ r. shared_state r.state ≡ false → MatchOption (frame r.page) ⊥ (HasItsOwn b.shape k r)) b.rows
  -- a merged row lies on the frame that its dup's place names
  pub merged : All
      (λ r. All (λ d. merged_into d.number r.state ≡ true → frame r.page ≡ Some (place_frame k d.place)) b.dups) b.rows
  -- a Zero row has none, and reads zeroes alone
  pub zero : All (λ r. zero_state r.state ≡ true → (frame r.page ≡ None) × (all_zero r.bytes ≡ true)) b.rows
  -- a page without a row has none
  pub absent : (page : GuestPage) → row_at page b.rows ≡ None → frame page ≡ None
  -- a dup with items stands on that frame
  pub dups : All (λ d. has_items b.rows d ≡ true → StandsOn b k d (place_frame k d.place)) b.dups
  -- the frames of the rows and dups differ from one another, and no other frame is in use
  pub distinct : AllPairs (λ f g. f ≢ g) (own_frames b.rows frame ++ dup_frames b k)
  pub no_other : (f : ℕ) → is_in_use (frame_at k f).kind ≡ true → Contains (own_frames b.rows frame ++ dup_frames b k) f
  -- each dup stands at one of the places; that of a stale dup names a frame whose life is over, and one without a dup
  -- names none
  pub places : All (λ d. d.place < place_count b.shape) b.dups
  pub stale : All (λ d. has_items b.rows d ≡ false → IsOutlived k d.place) b.dups
  pub empty : (p : ℕ) → All (λ d. d.place ≢ p) b.dups → named_at k p ≡ None

-- beside a page with a frame of its own a new dup finds one of the places
abbrev pub FindsPlace : BookState → Type 0
FindsPlace b =
    (row : Row) → Contains b.rows row → shared_state row.state ≡ false
    → new_place (place_count b.shape) b.rows b.dups < place_count b.shape

-- the numbers of dups are small: below that of all lives of as many frames as there may be
abbrev pub NumbersAreSmall : BookState → Type 0
NumbersAreSmall b = All (λ d. d.number < MOST_FRAMES * MOST_LIVES) b.dups
