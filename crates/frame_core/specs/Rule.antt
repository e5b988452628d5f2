-- The rule of the protocol: what is true of words, keeper and seats between any two steps, and is kept by each. Source: own.
use Rattle.std.specs.Prelude.{ℕ, ◌≡◌, ◌+◌, ◌<◌, ◌≤◌, Bool, false, ◌==◌, List, length, slice_get, count_by, Option, Some}
use Rattle.frame_core.specs.Terms.{MOST_COUNT, MOST_REFERENCES, IsShape, frames_of, PAGE_WORDS, Shape, Kind, Free, Filling, Private, Stable, Dying, Retired, Ledger, Note, Life, Phase, Idle, Placed}
use Rattle.frame_core.specs.Terms.{Counted, Held, Spent}
use Rattle.frame_core.specs.State.{State}
use Rattle.frame_core.specs.Ledger.{frame_at, named_at}
use Rattle.frame_core.specs.KeeperSteps.{count_at}
use Rattle.frame_core.specs.Seat.{phase_at}

-- the seat has counted itself on the frame f
abbrev pub is_on : ℕ → Phase → Bool
is_on f (Held aim known) = aim.life.frame == f
is_on f _ = false

-- how many seats have counted themselves on f
abbrev pub readers_on : ℕ → List Phase → ℕ
readers_on f seats = count_by (is_on f) seats

-- the keeper has references on Private and Stable frames alone
abbrev pub BaseFits : Kind → ℕ → Type 0
BaseFits Private base = (1 ≤ base) × (base ≤ MOST_REFERENCES)
BaseFits Stable base = (1 ≤ base) × (base ≤ MOST_REFERENCES)
BaseFits _ base = base ≡ 0

-- nobody has a reference on a frame that is Free, Filling or Retired
abbrev pub CountFits : Kind → ℕ → Type 0
CountFits Free count = count ≡ 0
CountFits Filling count = count ≡ 0
CountFits Retired count = count ≡ 0
CountFits _ count = Unit {0}

-- a free frame has a life left, and any other frame was given
abbrev pub GenerationFits : ℕ → Kind → ℕ → Type 0
GenerationFits last Free generation = generation < last
GenerationFits last _ generation = (1 ≤ generation) × (generation ≤ last)

-- what is true of a frame with so many references, on which so many readers have counted themselves
pub record FrameRule (last readers : ℕ) (note : Note) (count : ℕ) : Type 0 where
  pub counted : count ≡ note.base + readers
  pub base : BaseFits note.kind note.base
  pub count_fits : CountFits note.kind count
  pub generation : GenerationFits last note.kind note.generation
  pub content : length note.content ≡ PAGE_WORDS

-- a frame of this kind may have been named in its life
abbrev pub MayBeNamed : Kind → Type 0
MayBeNamed Filling = ⊥
MayBeNamed Private = ⊥
MayBeNamed _ = Unit {0}

-- a frame of this kind may be held in its life
abbrev pub MayBeHeld : Kind → Type 0
MayBeHeld Stable = Unit {0}
MayBeHeld Dying = Unit {0}
MayBeHeld _ = ⊥

-- what is true of a life that a place or a seat names, by what is known of its frame
pub record LifeRule (sh : Shape) (note : Note) (life : Life) : Type 0 where
  pub inside : life.frame < frames_of sh
  pub first : 1 ≤ life.generation
  pub past : life.generation ≤ note.generation
  pub named : life.generation ≡ note.generation → MayBeNamed note.kind

-- each word that is known is the frame's
abbrev pub KnownFits : List (Option ℕ) → List ℕ → Type 0
KnownFits known content = (i w : ℕ) → slice_get known i ≡ Some (Some w) → slice_get content i ≡ Some w

-- what is true of a life that a seat holds
pub record HeldRule (note : Note) (life : Life) (known : List (Option ℕ)) : Type 0 where
  pub same : life.generation ≡ note.generation
  pub kind : MayBeHeld note.kind
  pub words : KnownFits known note.content

-- the ledger tells that the life may be named
abbrev pub IsNamed : Shape → Ledger → Life → Type 0
IsNamed sh k life = LifeRule sh (frame_at k life.frame) life

-- what is true of a seat
abbrev pub SeatRule : Shape → Ledger → Phase → Type 0
SeatRule sh k Idle = Unit {0}
SeatRule sh k (Placed aim failures) = IsNamed sh k aim.life × (failures < sh.tries)
SeatRule sh k (Counted aim failures count) = IsNamed sh k aim.life × (failures < sh.tries) × (1 ≤ count) × (count ≤ MOST_COUNT)
SeatRule sh k (Held aim known) = IsNamed sh k aim.life × HeldRule (frame_at k aim.life.frame) aim.life known
SeatRule sh k Spent = Unit {0}

-- the rule of the protocol: of the sizes, of each frame with the readers on it, of each place, of each seat
pub record Rule (sh : Shape) (s : State) : Type 0 where
  pub shape : IsShape sh
  pub frame_count : length s.ledger.frames ≡ frames_of sh
  pub place_count : length s.ledger.places ≡ frames_of sh
  pub count_count : length s.counts ≡ frames_of sh
  pub seat_count : length s.seats ≡ sh.passes
  pub frames : (f : ℕ) → f < frames_of sh → FrameRule sh.last_generation (readers_on f s.seats) (frame_at s.ledger f) (count_at s f)
  pub places : (p : ℕ) (life : Life) → named_at s.ledger p ≡ Some life → IsNamed sh s.ledger life
  pub seats : (q : ℕ) → SeatRule sh s.ledger (phase_at s q)
