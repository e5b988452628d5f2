-- The core's definitions by their names, for proofs.
pub use Rattle.frame_table.specs.Terms.{Add, Aim, COUNT_SPAN, Counted, Dying, Event, Exchange, FRAME_WORDS, Filling, Free, Freeze, Held, Idle, IsShape, KeeperStep, Kind, LINE_WORDS, Leave, Ledger}
pub use Rattle.frame_table.specs.Terms.{Life, LoadFrame, LoadPlace, LoadWord, MOST_FRAMES, MOST_LIVES, MOST_REFERENCES, Open, PAGE_WORDS, PLACE_SPAN, Phase, Placed, Publish, Put, Raise, ReaderStep}
pub use Rattle.frame_table.specs.Terms.{Reap, Replace, Shape, Spent, Stable, Sub, Withdraw, Word, frames_of}
pub use Rattle.frame_core.specs.KeeperSteps.{count_at, counted_up, frame_word_of, keeper_finds}
pub use Rattle.frame_core.specs.Ledger.{IsWritable, MayStep, added, blank, filled, frame_at, frozen, ledger_after, lowered, named_anew, named_at, opened, raised, reaped, shown, with_frame}
pub use Rattle.frame_core.specs.Rule.{CountFits, GenerationFits, MayBeHeld, Rule, SeatRule, is_on, readers_on}
pub use Rattle.frame_core.specs.Safe.{IsSafe}
pub use Rattle.frame_core.specs.Seat.{aim_at, aim_of, is_referenced, may_read, phase_at, reader_counts, reader_finds, seat_after}
pub use Rattle.frame_core.specs.State.{State, count_in, frame_word, life_at, life_in, place_word}
pub use Rattle.frame_core.specs.Steps.{after_keeper, after_reader, first_state, only_if, step}
pub use Rattle.frame_core.specs.Trace.{History, first_history, history_after, history_with, keeper_log_of, log_of, run_of}
pub use Rattle.frame_core.specs.Words.{content_at, frame_word_at, frame_words, line_of, page_at, page_of, words_for, words_of}
