-- What the keeper knows, where each of its steps is allowed, and what it knows after it: a function of what it knew, the step and the word found.
use Rattle.std.specs.Prelude.{◌≡◌, ℕ, ◌+◌, ◌-◌, ◌<◌, ◌≤◌, ◌==◌, cond, replicate, slice_index_or, slice_set, Option, Some, None}
use Rattle.frame_core.specs.Terms.{MOST_REFERENCES, PAGE_WORDS, Shape, frames_of, KeeperStep, Reap, Put, Raise, Open, Add, Sub, Publish, Replace, Withdraw, Freeze, Word, Kind, Free, Filling, Private}
use Rattle.frame_core.specs.Terms.{Stable, Dying, Retired, Ledger, Note, Life}
use Rattle.frame_core.specs.State.{count_in}

-- a frame that was never given
abbrev pub blank : Note
blank = record { kind = Free; base = 0; generation = 0; content = replicate PAGE_WORDS 0 }

-- all frames are free and were never given, and all places are empty
abbrev pub first_ledger : Shape → Ledger
first_ledger sh = record { frames = replicate (frames_of sh) blank; places = replicate (frames_of sh) None }

abbrev pub frame_at : Ledger → ℕ → Note
frame_at k f = slice_index_or k.frames f blank

-- what a place names, if anything
abbrev pub named_at : Ledger → ℕ → Option Life
named_at k p = slice_index_or k.places p None

abbrev pub with_frame : Ledger → ℕ → Note → Ledger
with_frame k f note = record { frames = slice_set k.frames f note; places = k.places }

-- a frame of this kind may be written
abbrev pub IsWritable : Kind → Type 0
IsWritable Filling = Unit {0}
IsWritable Private = Unit {0}
IsWritable _ = ⊥

-- a frame of this kind may be read by the keeper
abbrev pub IsReadable : Kind → Type 0
IsReadable Private = Unit {0}
IsReadable Stable = Unit {0}
IsReadable Dying = Unit {0}
IsReadable _ = ⊥

-- what a place names is nothing, or a frame that is not stable in the life named
abbrev pub IsLoose : Ledger → Option Life → Type 0
IsLoose k None = Unit {0}
IsLoose k (Some life) = (frame_at k life.frame).generation ≡ life.generation → ¬ ((frame_at k life.frame).kind ≡ Stable)

-- what a place names is a frame that is stable in the life named
abbrev pub IsLive : Ledger → Option Life → Type 0
IsLive k None = ⊥
IsLive k (Some life) = ((frame_at k life.frame).kind ≡ Stable) × ((frame_at k life.frame).generation ≡ life.generation)

-- ---------------------------------------------------------------- what a step at a frame makes of what is known of it

-- reap, where nobody had a reference: free again, or retired after the last life
abbrev pub reaped : ℕ → Note → Note
reaped last note = record { kind = cond (note.generation == last) Retired Free; base = 0; generation = note.generation; content = note.content }

-- put of the content word i
abbrev pub filled : ℕ → ℕ → Note → Note
filled i w note = record note { content = slice_set note.content i w }

-- raise: the next life
abbrev pub raised : Note → Note
raised note = record note { kind = Filling; generation = note.generation + 1 }

-- open: the first reference
abbrev pub opened : Note → Note
opened note = record note { kind = Private; base = 1 }

-- add: one reference more
abbrev pub added : Note → Note
added note = record note { base = note.base + 1 }

-- sub: one reference less, and dying with the last one
abbrev pub lowered : Note → Note
lowered note = record note { kind = cond (note.base == 1) Dying note.kind; base = note.base - 1 }

-- publish, replace: named at a place
abbrev pub shown : Note → Note
shown note = record note { kind = Stable }

-- freeze, where the keeper's references were all
abbrev pub frozen : Note → Note
frozen note = record note { kind = Dying; base = 0 }

-- publish, replace: the place names the frame in its life, and the frame is stable
abbrev pub named_anew : Ledger → ℕ → ℕ → Ledger
named_anew k p f = record {
  frames = slice_set k.frames f (shown (frame_at k f));
  places = slice_set k.places p (Some record { frame = f; generation = (frame_at k f).generation });
}

-- ---------------------------------------------------------------- the steps

module _ (sh : Shape) (k : Ledger) where
  -- where a step of the keeper is allowed
  abbrev pub MayStep : KeeperStep → Type 0
  MayStep (Reap f) = (f < frames_of sh) × ((frame_at k f).kind ≡ Dying)
  MayStep (Put f i w) = (f < frames_of sh) × (i < PAGE_WORDS) × IsWritable (frame_at k f).kind
  MayStep (Raise f) = (f < frames_of sh) × ((frame_at k f).kind ≡ Free)
  MayStep (Open f) = (f < frames_of sh) × ((frame_at k f).kind ≡ Filling)
  MayStep (Add f) = (f < frames_of sh) × (1 ≤ (frame_at k f).base) × ((frame_at k f).base ≤ MOST_REFERENCES - 1)
  MayStep (Sub f) = (f < frames_of sh) × (1 ≤ (frame_at k f).base)
  MayStep (Publish p f) = (p < frames_of sh) × (f < frames_of sh) × ((frame_at k f).kind ≡ Private) × IsLoose k (named_at k p)
  MayStep (Replace p f) = (p < frames_of sh) × (f < frames_of sh) × ((frame_at k f).kind ≡ Private) × IsLive k (named_at k p)
  MayStep (Withdraw p) = (p < frames_of sh) × IsLoose k (named_at k p)
  MayStep (Freeze f) = (f < frames_of sh) × ((frame_at k f).kind ≡ Stable)
  MayStep (Word f i) = (f < frames_of sh) × (i < PAGE_WORDS) × IsReadable (frame_at k f).kind

  -- what the keeper knows after a step that found the word n
  abbrev pub ledger_after : KeeperStep → ℕ → Ledger
  ledger_after (Reap f) n = cond (count_in n == 0) (with_frame k f (reaped sh.last_generation (frame_at k f))) k
  ledger_after (Put f i w) n = with_frame k f (filled i w (frame_at k f))
  ledger_after (Raise f) n = with_frame k f (raised (frame_at k f))
  ledger_after (Open f) n = with_frame k f (opened (frame_at k f))
  ledger_after (Add f) n = with_frame k f (added (frame_at k f))
  ledger_after (Sub f) n = with_frame k f (lowered (frame_at k f))
  ledger_after (Publish p f) n = named_anew k p f
  ledger_after (Replace p f) n = named_anew k p f
  ledger_after (Withdraw p) n = record { frames = k.frames; places = slice_set k.places p None }
  ledger_after (Freeze f) n = cond (count_in n == (frame_at k f).base) (with_frame k f (frozen (frame_at k f))) k
  ledger_after (Word f i) n = k
