-- The definitions of the protocol, and the values that they speak of, by their names, for proofs.
pub use Rattle.frame_core.specs.Terms.{Add, Aim, COUNT_SPAN, Counted, Dying, Event, Exchange, FRAME_WORDS, Filling, Free, Freeze, Held, Idle, IsShape, Keeper, KeeperStep, Kind, LINE_WORDS, Leave}
pub use Rattle.frame_core.specs.Terms.{Ledger, Life, LoadFrame, LoadPlace, LoadWord, MOST_COUNT, MOST_FRAMES, MOST_LIVES, MOST_NODES, MOST_REFERENCES, MOST_TRIES, Note, Open, PAGE_WORDS, PLACE_SPAN}
pub use Rattle.frame_core.specs.Terms.{Phase, Placed, Private, Publish, Put, Raise, Reader, ReaderStep, Reap, Replace, Retired, Shape, Spent, Stable, Step, Sub, Withdraw, Word, frames_of}
pub use Rattle.frame_core.specs.Bounds.{Fits, PhaseFits, SeatFits}
pub use Rattle.frame_core.specs.KeeperSteps.{count_at, counted_up, frame_word_of, is_kind, is_live, is_readable, is_writable, keeper_finds, may_step}
pub use Rattle.frame_core.specs.Knowing.{ChangesOwnView, CoreView, FollowsLedger, LedgerTells}
pub use Rattle.frame_core.specs.Ledger.{IsLive, IsLoose, IsReadable, IsWritable, MayStep, added, blank, filled, first_ledger, frame_at, frozen, ledger_after, lowered, named_anew, named_at, opened}
pub use Rattle.frame_core.specs.Ledger.{raised, reaped, shown, with_frame}
pub use Rattle.frame_core.specs.Rule.{BaseFits, CountFits, FrameRule, GenerationFits, HeldRule, IsNamed, KnownFits, LifeRule, MayBeHeld, MayBeNamed, Rule, SeatRule, is_on, readers_on}
pub use Rattle.frame_core.specs.Safe.{GivenUnheld, IsSafe, WasUnheld}
pub use Rattle.frame_core.specs.Seat.{aim_at, aim_of, is_referenced, may_read, nothing_known, phase_at, reader_counts, reader_finds, seat_after}
pub use Rattle.frame_core.specs.State.{State, count_in, frame_word, life_at, life_in, place_word}
pub use Rattle.frame_core.specs.Steps.{after, after_keeper, after_reader, answer, first_state, only_if, step}
pub use Rattle.frame_core.specs.Trace.{Entry, History, HoldsRightly, first_history, frame_in, frame_loaded, given_since, held_by, history_after, history_with, holders, is_frame, life_of, named_word}
pub use Rattle.frame_core.specs.Trace.{place_loaded, run_of, stored, words_read}
pub use Rattle.frame_core.specs.Words.{content_at, frame_word_at, frame_words, line_of, page_of, pages_of, words_of}
pub use Rattle.frame_core.specs.Worked.{and_then}
