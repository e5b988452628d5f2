-- A reader's steps, by the phase of its seat: where each is allowed, the word that it finds, how far the seat is after it, and the references on the frames.
-- Source: mm/ksm (a lookup takes a reference unless the count is zero, and checks that the page is still the node's); the steps are own.
use Rattle.std.specs.Prelude.{ℕ, ◌+◌, ◌==◌, ◌&&◌, not, nat_lt, nat_le, Bool, true, false, cond, List, replicate, slice_index, slice_index_or, slice_set, Option, Some, None}
use Rattle.frame_core.specs.Terms.{PAGE_WORDS, Shape, frames_of, ReaderStep, LoadPlace, LoadFrame, Exchange, Leave, LoadWord, Aim, Phase, Idle, Placed, Counted, Held, Spent}
use Rattle.frame_core.specs.State.{State, place_word, life_at, frame_word, count_in, life_in}
use Rattle.frame_core.specs.Ledger.{frame_at, named_at}
use Rattle.frame_core.specs.KeeperSteps.{frame_word_of, counted_up, counted_down}

-- how far a seat has come; one that there is not is Spent
abbrev pub phase_at : State → ℕ → Phase
phase_at s q = slice_index_or s.seats q Spent

-- what a lookup is after that found this frame in this life at this place, and that found this word there
abbrev pub aim_at : ℕ → ℕ → ℕ → Aim
aim_at place frame generation = record { place = place; life = record { frame = frame; generation = generation } }

abbrev pub aim_of : ℕ → ℕ → Aim
aim_of p w = record { place = p; life = life_at w }

-- a hold in which no word was read
abbrev pub nothing_known : List (Option ℕ)
nothing_known = replicate PAGE_WORDS None

-- the frame that a seat is after
abbrev pub frame_of : Phase → ℕ
frame_of (Placed aim failures) = aim.life.frame
frame_of (Counted aim failures count) = aim.life.frame
frame_of (Held aim known) = aim.life.frame
frame_of _ = 0

-- the frame word that a seat loaded
abbrev pub loaded_by : Phase → ℕ
loaded_by (Counted aim failures count) = frame_word aim.life.generation count
loaded_by _ = 0

-- the frame word is of this life, and of a frame with a reference
abbrev pub is_referenced : ℕ → ℕ → Bool
is_referenced generation w = not (count_in w == 0) && life_in w == generation

-- where a step is allowed
abbrev pub may_read : Shape → ReaderStep → Phase → Bool
may_read sh (LoadPlace p) Idle = nat_lt p (frames_of sh)
may_read sh LoadFrame (Placed aim failures) = true
may_read sh Exchange (Counted aim failures count) = true
may_read sh Leave (Held aim known) = true
may_read sh (LoadWord i) (Held aim known) = nat_lt i PAGE_WORDS
may_read sh _ _ = false

-- the word that a step finds
abbrev pub reader_finds : State → ReaderStep → Phase → ℕ
reader_finds s (LoadPlace p) phase = place_word (named_at s.ledger p)
reader_finds s (LoadWord i) phase = slice_index (frame_at s.ledger (frame_of phase)).content i
reader_finds s LoadFrame phase = frame_word_of s (frame_of phase)
reader_finds s Exchange phase = frame_word_of s (frame_of phase)
reader_finds s Leave phase = frame_word_of s (frame_of phase)

-- how far the seat is after a step that found the word n: the failure that makes `tries` of them ends the lookup
abbrev pub seat_after : Shape → ReaderStep → Phase → ℕ → Phase
seat_after sh (LoadPlace p) Idle n = cond (n == 0) Idle (Placed (aim_of p n) 0)
seat_after sh LoadFrame (Placed aim failures) n = cond (is_referenced aim.life.generation n) (Counted aim failures (count_in n)) Idle
seat_after sh Exchange (Counted aim failures count) n =
    cond (n == frame_word aim.life.generation count) (Held aim nothing_known) (cond (nat_le sh.tries (failures + 1)) Idle (Placed aim (failures + 1)))
seat_after sh Leave phase n = Idle
seat_after sh (LoadWord i) (Held aim known) n = Held aim (slice_set known i (Some n))
seat_after sh _ phase n = phase

-- the references on the frames after a step that found the word n: an exchange takes one where it finds the word that the seat loaded
abbrev pub reader_counts : ReaderStep → Phase → ℕ → List ℕ → List ℕ
reader_counts Exchange phase n counts = cond (n == loaded_by phase) (counted_up counts (frame_of phase)) counts
reader_counts Leave phase n counts = counted_down counts (frame_of phase)
reader_counts _ phase n counts = counts
