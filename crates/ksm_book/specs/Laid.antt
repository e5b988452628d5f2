-- The pages as they lie in the keeper's frames, the state of the book that they tell, and pages that leave their dups
-- (own).
use Rattle.std.specs.Prelude.{◌≡◌, ℕ, ◌<◌, ◌≤◌, ◌&&◌, ◌==◌, find, Ok, Err, Option, None, Some, List, [], Bool, true, ◌∷◌, length, filter, take, slice_get, option_map, if◌then◌else◌}
use Rattle.ksm_book.specs.Terms.{Answer, BookState, change_row, change_rows, Done, DupRow, Fault, GuestPage, has_items, InUse, is_before, IsShape, IsSound, KeeperView, let_go, NoFrame, of_guest}
use Rattle.ksm_book.specs.Terms.{PagesView, Row, row_at, shared_state, unshared}
use Rattle.ksm_book.specs.Placement.{Placed}
use Rattle.ksm_book.specs.Keeping.{spent}
use Rattle.ksm_book.specs.Steps.{Allocates, loads}
use Rattle.ksm_book.specs.Commands.{FindsHeld, Mapped, Moves, ResettlesEach, TurnsAway}
use Rattle.ksm_book.specs.Carried.{UnmergesTo}

-- where each page lies, with the keeper of the frames
abbrev pub lying : PagesView → KeeperView → Mapped
lying p k = record { frame = p.frame; keeper = k }

-- the state of the book, by its pages, the cursor and the passes ended
abbrev pub state_of : PagesView → Option GuestPage → ℕ → BookState
state_of p cursor passes = record {
  shape = p.shape;
  rows = p.rows;
  dups = p.dups;
  knobs = p.knobs;
  cursor = cursor;
  passes = passes;
  next = p.next;
}

-- rows and dups lie lawfully in the frames, with one more reference in hand, or none, and no more dups were made than lives
-- were spent
pub record LiesWith (hand : Option ℕ) (p : PagesView) (k : KeeperView) : Type 0 where
  pub small : IsShape p.shape
  pub same : k.table.shape ≡ p.shape
  pub placed : Placed p.shape p.knobs.merge_across_nodes k.ledger p.rows p.frame p.dups hand
  pub spent : p.next ≤ spent k.ledger

-- they do so with none in hand
abbrev pub IsLaid : PagesView → KeeperView → Type 0
IsLaid p k = LiesWith None p k

-- no frame of a node was left, and no page changed
pub record TurnedAway (p q : PagesView) (k l : KeeperView) (node : ℕ) : Type 0 where
  pub pages : q ≡ p
  pub turns : TurnsAway (lying p k) (lying q l) node
  pub laid : IsLaid q l

-- a dup moved to a frame of the node; or none was free; or a reader holds its frame
abbrev pub MovesOr : PagesView → PagesView → KeeperView → KeeperView → DupRow → ℕ → Answer → Type 0
MovesOr p q k l dup node (Ok Done) = Moves (lying p k) (lying q l) p.rows dup node
MovesOr p q k l dup node (Err (NoFrame n)) = (n ≡ node) × TurnsAway (lying p k) (lying q l) n
MovesOr p q k l dup node (Err InUse) = FindsHeld (lying p k) (lying q l) p.rows dup node
MovesOr p q k l dup node _ = ⊥

-- a dup may move to a frame of a node
pub record MayMove (p : PagesView) (k : KeeperView) (dup : DupRow) (node : ℕ) : Type 0 where
  -- rows and dups lie lawfully, and the book of these pages is sound
  pub laid : IsLaid p k
  pub sound : (cursor : Option GuestPage) × (passes : ℕ) × IsSound (state_of p cursor passes)
  -- the dup is the one with items at its place
  pub live : find (λ d. d.place == dup.place && has_items p.rows d) p.dups ≡ Some dup
  -- there is such a node, and where pages don't merge across nodes it is the dup's own
  pub exists : node < p.shape.nodes
  pub home : p.knobs.merge_across_nodes ≡ 0 → node ≡ dup.tree

-- a dup was to move to a frame of a node; the answer tells whether it did
pub record HasRemounted (p q : PagesView) (k l : KeeperView) (dup : DupRow) (node : ℕ) (answer : Answer) : Type 0 where
  -- but for where its pages lie, the pages are as they were
  pub rest : q ≡ record p { frame = q.frame }
  -- rows and dups lie lawfully
  pub laid : IsLaid q l
  -- the steps that were made, and where each page lies after them
  pub moves : MovesOr p q k l dup node answer

-- the keeper loaded the bytes from the frame, each word once, if there was a page to read and it has a frame
abbrev pub LoadsIf : Option ℕ → Option (List ℕ) → KeeperView → KeeperView → Type 0
LoadsIf frame None v w = w ≡ v
LoadsIf None (Some bytes) v w = w ≡ v
LoadsIf (Some frame) (Some bytes) v w = Allocates v w [] (loads frame 0 bytes)

-- a merged or Zero row of the guest, or of any
abbrev pub is_shared_of : Option ℕ → Row → Bool
is_shared_of guest r = of_guest guest r && shared_state r.state

-- a row once it has a frame of its own: a guest's leaves the scan, any other that was shared is not unchanged
abbrev pub left_by : Option ℕ → Row → Row
left_by None r = if shared_state r.state then unshared r else r
left_by (Some guest) r = let_go r

-- so many of the rows are done, and this one is the next, where there was a stop
abbrev pub IsStop : List Row → ℕ → Option Row → Type 0
IsStop rows k None = k ≡ length rows
IsStop rows k (Some row) = slice_get rows k ≡ Some row

-- the row, if it is merged or Zero
abbrev pub shared_of : Row → List Row
shared_of r = filter (λ x. shared_state x.state) (r ∷ [])

-- the row of a page was left: it has a frame of its own if it was shared, and so many frames were given for that
pub record HasLeft (p q : PagesView) (k l : KeeperView) (guest : Option ℕ) (page : GuestPage) (count : ℕ) : Type 0 where
  pub row : Row
  pub found : row_at page p.rows ≡ Some row
  pub given : count ≡ length (shared_of row)
  pub pages : q ≡ record p { rows = change_row page (left_by guest) p.rows; frame = q.frame }
  pub steps : ResettlesEach (shared_of row) (lying p k) (lying q l)
  pub laid : IsLaid q l

-- the row of a page is shared, and no frame of its home was left for it
pub record MayNotLeave (p q : PagesView) (k l : KeeperView) (page : GuestPage) (fault : Fault) : Type 0 where
  pub row : Row
  pub found : row_at page p.rows ≡ Some row
  pub shared : shared_state row.state ≡ true
  pub says : fault ≡ NoFrame row.home
  pub turned : TurnedAway p q k l row.home

-- of the shared rows of the guest, or of all, the first so many each got a frame of its own, in order; the next found
-- none, where there was a stop. The guest's rows up to there are changed
pub record Unshares (p q : PagesView) (k l : KeeperView) (guest : Option ℕ) (count : ℕ) (stop : Option Fault)
    : Type 0 where
  pub at : Option Row
  pub fault : stop ≡ option_map (λ r. NoFrame r.home) at
  pub stands : IsStop (filter (is_shared_of guest) p.rows) count at
  pub pages : q ≡ record p {
    rows = change_rows (λ r. of_guest guest r && is_before at r) (left_by guest) p.rows;
    frame = q.frame;
  }
  pub unmerges : UnmergesTo (take count (filter (is_shared_of guest) p.rows)) stop (lying p k) (lying q l)
  pub laid : IsLaid q l
