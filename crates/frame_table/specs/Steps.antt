-- Each step of a seat is the core's step of the same name: what it finds, what it leaves, and what the seat and the keeper know then (own).
use Rattle.std.specs.Prelude.{◌≡◌, ℕ, true, slice_index, slice_set, Some}
use Rattle.frame_table.specs.Terms.{Shape, frames_of, Reader, Keeper, ReaderStep, KeeperStep, Phase}
use Rattle.frame_core.specs.State.{State}
use Rattle.frame_core.specs.Steps.{step}
use Rattle.frame_core.specs.Words.{words_of}
use Rattle.frame_core.specs.Ledger.{ledger_after, MayStep}
use Rattle.frame_core.specs.Rule.{Rule}
use Rattle.frame_core.specs.Seat.{phase_at, may_read, seat_after}
use Rattle.frame_table.specs.Seat.{reader_word, written}
use Rattle.frame_table.specs.Reading.{tells}
use Rattle.frame_table.specs.Keeping.{keeper_word, keeper_written, found_by, knows}

-- the core's step of the reader on the seat q
pub record IsReaderStep (sh : Shape) (s : State) (q : ℕ) (e : ReaderStep) (phase : Phase) : Type 0 where
  pub found : ℕ
  pub next : State
  pub steps : step sh s (Reader q e) ≡ Some (found, next)
  -- one word was found, and left
  pub word : slice_index (words_of s) (reader_word sh e phase) ≡ found
  pub words : slice_set (words_of s) (reader_word sh e phase) (written e phase found) ≡ words_of next
  -- the seat alone has come further, and what the keeper knows stays
  pub seats : next.seats ≡ slice_set s.seats q (seat_after sh e phase found)
  pub ledger : next.ledger ≡ s.ledger
  pub told : tells sh e phase found

-- the core's step of the keeper
pub record IsKeeperStep (sh : Shape) (s : State) (e : KeeperStep) : Type 0 where
  pub found : ℕ
  pub next : State
  pub steps : step sh s (Keeper e) ≡ Some (found, next)
  -- one word was found, and left
  pub word : found_by e (slice_index (words_of s) (keeper_word (frames_of sh) e)) ≡ found
  pub words : slice_set (words_of s) (keeper_word (frames_of sh) e)
      (keeper_written s.ledger e (slice_index (words_of s) (keeper_word (frames_of sh) e))) ≡ words_of next
  -- no seat changes, and the keeper knows what its ledger says
  pub seats : next.seats ≡ s.seats
  pub ledger : next.ledger ≡ ledger_after sh s.ledger e found
  pub told : knows s.ledger e found

-- in each state that keeps the core's rule
abbrev pub ReadersStepAsTheCore : Type 0
ReadersStepAsTheCore = (sh : Shape) (s : State) (q : ℕ) (e : ReaderStep) → Rule sh s → may_read sh e (phase_at s q) ≡ true → IsReaderStep sh s q e (phase_at s q)

abbrev pub KeeperStepsAsTheCore : Type 0
KeeperStepsAsTheCore = (sh : Shape) (s : State) (e : KeeperStep) → Rule sh s → MayStep sh s.ledger e → IsKeeperStep sh s e
