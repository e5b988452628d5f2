-- The definitions of the table by their names, for proofs.
pub use Rattle.frame_table.specs.Equal.{IsRead, SameHold, known_after, word_steps}
pub use Rattle.frame_table.specs.Keeping.{word_of_frame, Keeps, found_by, keeper_word, keeper_written, knows, on_frame, publishes, replaces, puts, shows, withdraws}
pub use Rattle.frame_table.specs.Lookup.{AllLost, GoesOn, IsAlive, IsOld, IsZero, ReadsWord, lookup_so_far, rounds}
pub use Rattle.frame_table.specs.Named.{HeldView, PassView, TableName}
pub use Rattle.frame_table.specs.Orders.{Begins, IsPresent, later}
pub use Rattle.frame_table.specs.Reading.{NamesFrame, Steps, StepsAt, StepsNow, loads_place, loads_word, reader_after, tells, word_at}
pub use Rattle.frame_table.specs.Rounds.{GoesRound}
pub use Rattle.frame_table.specs.Rule.{Holds, IsAfter, IsInOrder, Tied, all_views, first_view, is_out}
pub use Rattle.frame_table.specs.Running.{HoldIs, IsKeepers, LedgerIs, TheTableRunsSafely}
pub use Rattle.frame_table.specs.Seat.{reader_word, written}
pub use Rattle.frame_table.specs.Seats.{Ends, new_pass, newcomer, one_less, one_more}
pub use Rattle.frame_table.specs.Steps.{IsKeeperStep, IsReaderStep}
pub use Rattle.frame_table.specs.Truth.{IsOpen, IsTrueEntry, KeepersLogIsTrue, Moment, ReadersLogIsTrue}
pub use Rattle.frame_table.specs.Views.{IsIn, IsKeeper, KeeperLog, ReaderLog, Sat, keeper_log, keeps_ledger, known_in, ledger_in, log_in, order_in, order_of, phase_of, shape_in, sits, tally_in}
pub use Rattle.frame_table.specs.Views.{tally_of}
pub use Rattle.frame_table.specs.Worked.{life_word, loads, named}
pub use Rattle.frame_table.specs.declared.pass.Round.{Round}
pub use Rattle.frame_table.specs.declared.pass.Round.TheVariants.{Lost, Old, Won, Zero}
pub use Rattle.frame_table.specs.declared.view.Tally.{Tally}
pub use Rattle.frame_table.specs.declared.view.View.{View}
pub use Rattle.frame_table.specs.declared.view.View.TheVariants.{Keeper, Reader, Spent}
