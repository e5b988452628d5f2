-- The step relation of the frame protocol, as a function: the word that a step finds and the state after it, or None where it is not allowed. Source: own.
use Rattle.std.specs.Prelude.{ℕ, Bool, if◌then◌else◌, replicate, slice_set, Option, None, Some}
use Rattle.frame_core.specs.Terms.{Shape, frames_of, Event, KeeperStep, ReaderStep, Step, Done, NotAllowed, Idle}
use Rattle.frame_core.specs.declared.event.Event.TheVariants as event
use Rattle.frame_core.specs.State.{State}
use Rattle.frame_core.specs.Ledger.{first_ledger, ledger_after}
use Rattle.frame_core.specs.KeeperSteps.{may_step, keeper_finds, keeper_counts}
use Rattle.frame_core.specs.Seat.{phase_at, may_read, reader_finds, seat_after, reader_counts}

-- all words are 0: all frames are free, all places empty, all seats idle
abbrev pub first_state : Shape → State
first_state sh = record { ledger = first_ledger sh; counts = replicate (frames_of sh) 0; seats = replicate sh.passes Idle }

-- a step of the keeper that found the word n changes what it knows, and counts
abbrev pub after_keeper : Shape → State → KeeperStep → ℕ → State
after_keeper sh s e n = record { ledger = ledger_after sh s.ledger e n; counts = keeper_counts s.ledger e n s.counts; seats = s.seats }

-- a step of the reader on the seat q that found the word n changes its phase, and counts
abbrev pub after_reader : Shape → State → ℕ → ReaderStep → ℕ → State
after_reader sh s q e n = record {
  ledger = s.ledger;
  counts = reader_counts e (phase_at s q) n s.counts;
  seats = slice_set s.seats q (seat_after sh e (phase_at s q) n);
}

-- a value, where a test allows it
abbrev pub only_if : {A : Type 0} → Bool → A → Option A
only_if allowed a = if allowed then Some a else None

abbrev pub step : Shape → State → Event → Option (ℕ × State)
step sh s (event.Reader q e) =
    only_if (may_read sh e (phase_at s q)) (reader_finds s e (phase_at s q), after_reader sh s q e (reader_finds s e (phase_at s q)))
step sh s (event.Keeper e) = only_if (may_step sh s.ledger e) (keeper_finds s e, after_keeper sh s e (keeper_finds s e))

-- the answer to an event: the word found, or not allowed
abbrev pub answer : Option (ℕ × State) → Step
answer None = NotAllowed
answer (Some r) = Done r.0

-- what is there after an event: where it is not allowed, what was there
abbrev pub after : State → Option (ℕ × State) → State
after old None = old
after old (Some r) = r.1
