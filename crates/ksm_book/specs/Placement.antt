-- Lawful placement: how rows, dups and the keeper's frames agree (own).
use Rattle.std.specs.Prelude.{All, cond, count_by, false, is_some, length, List, None, Option, Some, true, ℕ, ◌+◌, ◌/◌, ◌<◌, ◌≡◌, ◌≢◌, ◌≤◌}
use Rattle.ksm_book.specs.Terms.{Alone, DupRow, Filling, frame_at, Frames, frames_of, Free, GenerationFits, InDup, KeeperView, Kind, Ledger, Life, Mapping, mapping_of}
use Rattle.ksm_book.specs.Terms.{merged_into, named_at, Nowhere, PAGE_WORDS, Private, Row, Shape, shared_state, Stable, unmapped_state}
use Rattle.ksm_book.specs.Commands.{is_frame}

-- the node on which a frame lies
abbrev pub node_of : Shape → ℕ → ℕ
node_of sh f = f / sh.frames_per_node

-- how many of the rows lie on frame f
abbrev pub uses : ℕ → Frames → List Row → ℕ
uses f frame rows = count_by (λ r. is_frame f (frame r.page)) rows

-- 1 where frame f is in the command's hand, else 0
abbrev pub in_hand : ℕ → Option ℕ → ℕ
in_hand f hand = cond (is_frame f hand) 1 0

-- the kind of the frame of a page with this mapping, if it has one
abbrev pub kind_for : Mapping → Kind
kind_for Alone = Private
kind_for (InDup d) = Stable
kind_for Nowhere = Free

-- what a kind says of the number of the keeper's references
abbrev pub FitsBase : Kind → ℕ → Type 0
FitsBase Filling n = ⊥
FitsBase Private n = n ≡ 1
FitsBase Stable n = 1 ≤ n
FitsBase _ n = n ≡ 0

-- the life that a place names; where it names none, one that no frame has
abbrev pub life_or : Option Life → Life
life_or (Some life) = life
life_or None = record { frame = 0; generation = 0 }

abbrev pub place_frame : Ledger → ℕ → ℕ
place_frame k p = (life_or (named_at k p)).frame

abbrev pub place_life : Ledger → ℕ → ℕ
place_life k p = (life_or (named_at k p)).generation

-- the frame that a place names is in the life named
abbrev pub IsInLife : Ledger → ℕ → Type 0
IsInLife k p = (frame_at k (place_frame k p)).generation ≡ place_life k p

-- frame f serves the row: it holds its bytes, and lies on its home if it is the row's own
pub record RowFits (sh : Shape) (k : Ledger) (r : Row) (f : ℕ) : Type 0 where
  pub mapped : unmapped_state r.state ≡ false
  pub frame : f < frames_of sh
  pub kind : (frame_at k f).kind ≡ kind_for (mapping_of r.state)
  pub content : (frame_at k f).content ≡ r.bytes
  pub given : 1 ≤ (frame_at k f).generation
  pub node : shared_state r.state ≡ false → node_of sh f ≡ r.home

-- a row on frame f is an item of d exactly where f is the frame that d's place names, in the life named
pub record Agrees (k : Ledger) (r : Row) (f : ℕ) (d : DupRow) : Type 0 where
  pub item : merged_into d.number r.state ≡ true → (f ≡ place_frame k d.place) × IsInLife k d.place
  pub back : IsInLife k d.place → f ≡ place_frame k d.place → merged_into d.number r.state ≡ true

-- a row lies on its frame beside the dups; a row without one is mapped nowhere
abbrev pub IsServed : Shape → Ledger → List DupRow → Row → Option ℕ → Type 0
IsServed sh k dups r None = unmapped_state r.state ≡ true
IsServed sh k dups r (Some f) = RowFits sh k r f × All (Agrees k r f) dups

-- the place of a dup names a frame in a life; while that lasts the frame holds the dup's bytes and is never Private
pub record DupFits (sh : Shape) (across : ℕ) (k : Ledger) (d : DupRow) : Type 0 where
  pub place : d.place < frames_of sh
  pub named : is_some (named_at k d.place) ≡ true
  pub frame : place_frame k d.place < frames_of sh
  pub life : place_life k d.place ≤ (frame_at k (place_frame k d.place)).generation
  pub content : IsInLife k d.place → (frame_at k (place_frame k d.place)).content ≡ d.bytes
  pub shown : IsInLife k d.place → ¬ ((frame_at k (place_frame k d.place)).kind ≡ Private)
  pub node : across ≡ 0 → node_of sh (place_frame k d.place) ≡ d.tree

-- rows, each on the frame of its page if it has one, and dups lie lawfully in what the keeper knows; the command has
-- one more reference in its hand, or none
pub record Placed (sh : Shape) (across : ℕ) (k : Ledger) (rows : List Row) (frame : Frames) (dups : List DupRow)
    (hand : Option ℕ) : Type 0 where
  pub frames_long : length k.frames ≡ frames_of sh
  pub places_long : length k.places ≡ frames_of sh
  pub widths : (f : ℕ) → length (frame_at k f).content ≡ PAGE_WORDS
  pub lives : (f : ℕ) → GenerationFits sh.last_generation (frame_at k f).kind (frame_at k f).generation
  pub each_row : All (λ r. IsServed sh k dups r (frame r.page)) rows
  pub each_dup : All (DupFits sh across k) dups
  pub bases : (f : ℕ) → (frame_at k f).base ≡ uses f frame rows + in_hand f hand
  pub kinds : (f : ℕ) → FitsBase (frame_at k f).kind (frame_at k f).base
  pub empty : (p : ℕ) → All (λ d. d.place ≢ p) dups → named_at k p ≡ None

-- there is a lawful placement
abbrev pub IsLawful : KeeperView → Option ℕ → Type 0
IsLawful v hand =
    (across : ℕ) × (rows : List Row) × (frame : Frames) × (dups : List DupRow)
    × Placed v.table.shape across v.ledger rows frame dups hand
