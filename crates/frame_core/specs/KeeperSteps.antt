-- The keeper's steps in a state: a test of where each is allowed, the word that it finds, and the references on the frames after it.
-- What the keeper knows after it is `ledger_after`. Source: own.
use Rattle.std.specs.Prelude.{ℕ, ◌+◌, ◌-◌, Bool, true, false, ◌&&◌, ◌||◌, not, ◌==◌, nat_lt, nat_le, cond, List, slice_index, slice_set, Option, None, Some}
use Rattle.frame_core.specs.Terms.{MOST_REFERENCES, PAGE_WORDS, Shape, frames_of, KeeperStep, Reap, Put, Raise, Open, Add, Sub, Publish, Replace, Withdraw, Freeze, Word, Kind, Free, Filling, Private}
use Rattle.frame_core.specs.Terms.{Stable, Dying, Retired, Ledger, Life}
use Rattle.frame_core.specs.State.{State, frame_word, count_in}
use Rattle.frame_core.specs.Ledger.{frame_at, named_at}

-- ---------------------------------------------------------------- where a step is allowed

-- the kind is this one
abbrev pub is_kind : Kind → Kind → Bool
is_kind Free Free = true
is_kind Filling Filling = true
is_kind Private Private = true
is_kind Stable Stable = true
is_kind Dying Dying = true
is_kind Retired Retired = true
is_kind _ _ = false

abbrev pub is_writable : Kind → Bool
is_writable kind = is_kind Filling kind || is_kind Private kind

abbrev pub is_readable : Kind → Bool
is_readable kind = is_kind Private kind || (is_kind Stable kind || is_kind Dying kind)

-- the place names a frame that is stable in the life named
abbrev pub is_live : Ledger → Option Life → Bool
is_live k None = false
is_live k (Some life) = is_kind Stable (frame_at k life.frame).kind && (frame_at k life.frame).generation == life.generation

-- the test of `MayStep`
abbrev pub may_step : Shape → Ledger → KeeperStep → Bool
may_step sh k (Reap f) = nat_lt f (frames_of sh) && is_kind Dying (frame_at k f).kind
may_step sh k (Put f i w) = nat_lt f (frames_of sh) && (nat_lt i PAGE_WORDS && is_writable (frame_at k f).kind)
may_step sh k (Raise f) = nat_lt f (frames_of sh) && is_kind Free (frame_at k f).kind
may_step sh k (Open f) = nat_lt f (frames_of sh) && is_kind Filling (frame_at k f).kind
may_step sh k (Add f) = nat_lt f (frames_of sh) && (nat_le 1 (frame_at k f).base && nat_le (frame_at k f).base (MOST_REFERENCES - 1))
may_step sh k (Sub f) = nat_lt f (frames_of sh) && nat_le 1 (frame_at k f).base
may_step sh k (Publish p f) =
    nat_lt p (frames_of sh) && (nat_lt f (frames_of sh) && (is_kind Private (frame_at k f).kind && not (is_live k (named_at k p))))
may_step sh k (Replace p f) =
    nat_lt p (frames_of sh) && (nat_lt f (frames_of sh) && (is_kind Private (frame_at k f).kind && is_live k (named_at k p)))
may_step sh k (Withdraw p) = nat_lt p (frames_of sh) && not (is_live k (named_at k p))
may_step sh k (Freeze f) = nat_lt f (frames_of sh) && is_kind Stable (frame_at k f).kind
may_step sh k (Word f i) = nat_lt f (frames_of sh) && (nat_lt i PAGE_WORDS && is_readable (frame_at k f).kind)

-- ---------------------------------------------------------------- what a step finds and leaves

-- the references on a frame
abbrev pub count_at : State → ℕ → ℕ
count_at s f = slice_index s.counts f

-- the word of a frame
abbrev pub frame_word_of : State → ℕ → ℕ
frame_word_of s f = frame_word (frame_at s.ledger f).generation (count_at s f)

-- the word that a step finds: 0 for a plain store
abbrev pub keeper_finds : State → KeeperStep → ℕ
keeper_finds s (Put f i w) = 0
keeper_finds s (Publish p f) = 0
keeper_finds s (Replace p f) = 0
keeper_finds s (Withdraw p) = 0
keeper_finds s (Word f i) = slice_index (frame_at s.ledger f).content i
keeper_finds s (Reap f) = frame_word_of s f
keeper_finds s (Raise f) = frame_word_of s f
keeper_finds s (Open f) = frame_word_of s f
keeper_finds s (Add f) = frame_word_of s f
keeper_finds s (Sub f) = frame_word_of s f
keeper_finds s (Freeze f) = frame_word_of s f

-- one reference more on a frame, and one less
abbrev pub counted_up : List ℕ → ℕ → List ℕ
counted_up counts f = slice_set counts f (slice_index counts f + 1)

abbrev pub counted_down : List ℕ → ℕ → List ℕ
counted_down counts f = slice_set counts f (slice_index counts f - 1)

-- the references on the frames after a step that found the word n: a freeze takes the keeper's away where they are all
abbrev pub keeper_counts : Ledger → KeeperStep → ℕ → List ℕ → List ℕ
keeper_counts k (Open f) n counts = counted_up counts f
keeper_counts k (Add f) n counts = counted_up counts f
keeper_counts k (Sub f) n counts = counted_down counts f
keeper_counts k (Freeze f) n counts = cond (count_in n == (frame_at k f).base) (slice_set counts f 0) counts
keeper_counts k _ n counts = counts
