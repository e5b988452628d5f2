-- What the keeper's steps mean: for the log, for every lawful placement, for the lives that were spent, for a dup that moves,
-- and for the sets of its free and dying frames (own).
use Rattle.std.specs.Prelude.{Bool, Contains, false, length, List, None, Option, slice_set, Some, [], ℕ, ◌*◌, ◌+◌, ◌-◌, ◌<◌, ◌∷◌, ◌≡◌, ◌≢◌, ◌≤◌}
use Rattle.std.specs.List.{sum_by}
use Rattle.ksm_book.specs.Terms.{count_in, DupRow, Dying, frame_at, Frames, frames_of, Free, Freeze, has, IsLoose, KeeperView, Kind, Ledger, May}
use Rattle.ksm_book.specs.Terms.{MOST_REFERENCES, named_at, Note, PAGE_WORDS, Private, Publish, Raise, Reap, Row, Stable, Sub}
use Rattle.ksm_book.specs.Steps.{Allocates, dying_kind, free_kind, HasNoFree, Log}
use Rattle.ksm_book.specs.Placement.{node_of, Placed}

-- every lawful placement is still lawful, with another frame in hand
abbrev pub Keeps : KeeperView → KeeperView → Option ℕ → Option ℕ → Type 0
Keeps v w hand hand' =
    (across : ℕ) (rows : List Row) (frame : Frames) (dups : List DupRow)
    → Placed v.table.shape across v.ledger rows frame dups hand
    → Placed v.table.shape across w.ledger rows frame dups hand'

-- the lives of a frame in which it doesn't hold one page alone
abbrev pub past_lives : Kind → ℕ → ℕ
past_lives Private lives = lives - 1
past_lives _ lives = lives

abbrev pub spent_on : Note → ℕ
spent_on note = past_lives note.kind note.generation

-- the lives spent: no dup can have been made without one
abbrev pub spent : Ledger → ℕ
spent k = sum_by spent_on k.frames

-- the note of a frame with these bytes
abbrev pub holding : Note → List ℕ → Note
holding note bytes = record note { content = bytes }

-- what is known of a frame, but for so many references more
abbrev pub with_more : Note → ℕ → Note
with_more note count = record note { base = note.base + count }

-- of each of these frames that is dying still, a frame word with a count above zero was read in the part
abbrev pub HasWaited : KeeperView → ℕ → ℕ → Log → Type 0
HasWaited w low count part =
    (f : ℕ) → low ≤ f → f < low + count
    → (frame_at w.ledger f).kind ≡ Dying → (n : ℕ) × (1 ≤ count_in n) × Contains part (Reap f, n)

-- no frame of the node is free, though each dying one was read: so no frame was given
pub record NoneLeft (v w : KeeperView) (node : ℕ) : Type 0 where
  pub part : Log
  pub did : Allocates v w [] part
  pub waited : HasWaited w (node * v.table.shape.frames_per_node) v.table.shape.frames_per_node part
  pub none : HasNoFree v.table.shape w.ledger node

-- frame g of the home is in hand, with these bytes
pub record HasNewFrame (v w : KeeperView) (home : ℕ) (bytes : List ℕ) (g : ℕ) : Type 0 where
  pub keeps : Keeps v w None (Some g)
  pub spent : spent v.ledger ≤ spent w.ledger
  pub frame : g < frames_of v.table.shape
  pub kind : (frame_at w.ledger g).kind ≡ Private
  pub content : (frame_at w.ledger g).content ≡ bytes
  pub given : 1 ≤ (frame_at w.ledger g).generation
  pub node : node_of v.table.shape g ≡ home

-- a frame may take the place of another at a place, with so many references
pub record MayMount (v : KeeperView) (left frame place count : ℕ) : Type 0 where
  -- it is a free one
  pub exists : frame < frames_of v.table.shape
  pub known : frame < length v.ledger.frames
  pub free : (frame_at v.ledger frame).kind ≡ Free
  -- the other is dying
  pub old : left < frames_of v.table.shape
  pub dying : (frame_at v.ledger left).kind ≡ Dying
  -- each frame holds the words of a page
  pub wide : (f : ℕ) → length (frame_at v.ledger f).content ≡ PAGE_WORDS
  -- there is such a place, and what it names is not shown
  pub at : place < frames_of v.table.shape
  pub loose : IsLoose v.ledger (named_at v.ledger place)
  -- of references there is one at least, and not too many
  pub some : 1 ≤ count
  pub few : count ≤ MOST_REFERENCES

-- a frame, in its next life, has the bytes of another and so many references, and a place names it
abbrev pub once_mounted : Ledger → ℕ → ℕ → ℕ → ℕ → Ledger
once_mounted k left frame place count =
    let generation = (frame_at k frame).generation + 1 in
    record {
      frames = slice_set k.frames frame
          (record (frame_at k left) { kind = Stable; base = count; generation = generation });
      places = slice_set k.places place (Some (record { frame = frame; generation = generation }));
    }

-- the exchange of a frame word was tried, and found another count than the keeper's references
pub record HasLost (v w : KeeperView) : Type 0 where
  pub part : Log
  pub did : Allocates v w [] part
  pub frame : ℕ
  pub found : ℕ
  pub tried : Contains part (Freeze frame, found)
  pub other : count_in found ≢ (frame_at w.ledger frame).base

-- a frame was raised and then published at the place
pub record HasMoved (v w : KeeperView) (place node : ℕ) : Type 0 where
  pub part : Log
  pub did : Allocates v w (node ∷ []) part
  pub frame : ℕ
  pub before : ℕ
  pub raised : Contains part (Raise frame, before)
  pub published : Contains part (Publish place frame, 0)

-- the set has the frames of this kind, and no others
pub record IsSetOf (asked : Kind → Bool) (v : KeeperView) (words : List ℕ) : Type 0 where
  pub room : frames_of v.table.shape ≤ 64 * length words
  pub marked : (f : ℕ) → f < frames_of v.table.shape → has words f ≡ asked (frame_at v.ledger f).kind

-- the sets of the free and of the dying frames
pub record AreSets (v : KeeperView) (free_set dying_set : List ℕ) : Type 0 where
  pub free : IsSetOf free_kind v free_set
  pub dying : IsSetOf dying_kind v dying_set

-- a frame in use may lose a reference of the keeper
abbrev pub MayLeave : KeeperView → ℕ → Type 0
MayLeave v f = May v (Sub f) × (free_kind (frame_at v.ledger f).kind ≡ false)
