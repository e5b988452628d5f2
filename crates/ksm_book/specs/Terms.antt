-- What the crates below speak of, by name, for definitions, contracts and proofs of this one.
pub use Rattle.frame_core.specs.Ledger.{added, blank, filled, first_ledger, frame_at, frozen, IsLoose, IsReadable, IsWritable, ledger_after, named_anew, named_at, opened, raised, reaped, shown}
pub use Rattle.frame_core.specs.Ledger.{with_frame}
pub use Rattle.frame_core.specs.Rule.{GenerationFits}
pub use Rattle.frame_core.specs.State.{count_in, frame_word}
pub use Rattle.frame_core.specs.Words.{page_at}
pub use Rattle.frame_core.specs.declared.event.KeeperStep.{KeeperStep}
pub use Rattle.frame_core.specs.declared.event.KeeperStep.TheVariants.{Add, Freeze, Open, Publish, Put, Raise, Reap, Sub, Withdraw, Word}
pub use Rattle.frame_core.specs.declared.frame.Kind.{Kind}
pub use Rattle.frame_core.specs.declared.frame.Kind.TheVariants.{Dying, Filling, Free, Private, Stable}
pub use Rattle.frame_core.specs.declared.ledger.Ledger.{Ledger}
pub use Rattle.frame_core.specs.declared.ledger.Note.{Note}
pub use Rattle.frame_core.specs.declared.seat.Life.{Life}
pub use Rattle.frame_table.specs.Kept.{Did, did, May}
pub use Rattle.frame_table.specs.Named.{KeeperView}
pub use Rattle.ksm_base.specs.Answers.{Answer, every_row, frame_needed, IsAnswerOrMemory, IsScanned, shared_rows}
pub use Rattle.ksm_base.specs.Apply.{after, effect, fresh_row, is_before, let_go, scan_stopped, stored, unshare_stopped, unshared}
pub use Rattle.ksm_base.specs.Counting.{counters_of, mergeable_count}
pub use Rattle.ksm_base.specs.Journal.{Entry, IsLegal, journal_after, last_stored, ReadsLastStored}
pub use Rattle.ksm_base.specs.Knobs.{default_knobs, is_in_range, setting, traits, with_value}
pub use Rattle.ksm_base.specs.Reading.{bytes_of, mappers_of, ticket_of}
pub use Rattle.ksm_base.specs.Refusals.{is_known, is_of, live_dup_at, setting_refusal}
pub use Rattle.ksm_base.specs.Rows.{all_zero, Alone, change_row, change_rows, comes_before, has_items, InDup, InPageOrder, InPlaceOrder, is_stale, item_count, Mapping, mapping_of, merged_into, merged_state, private_state}
pub use Rattle.ksm_base.specs.Rows.{Nowhere, row_at, same_page, settled, shared_state, unmapped_state, waiting_state, with_dup, with_row, without_page, zero_state}
pub use Rattle.ksm_base.specs.Sound.{IsDupOf, IsSound}
pub use Rattle.ksm_base.specs.State.{BookState, opening, pass_ended, place_count, tree_of}
pub use Rattle.ksm_base.specs.Values.{frames_of, IsShape}
pub use Rattle.ksm_base.specs.Visit.{after_cursor, best_dup, empty_from, handled, is_best, is_for_zero, is_no_rival, is_no_worse, made_dup, may_join, new_place, next_row, paired, partner, pass_begun}
pub use Rattle.ksm_base.specs.Visit.{pass_ended_at_last, row_visited, visit, visit_begun, visit_ended, visit_of, visits, waits_for}
pub use Rattle.ksm_base.specs.declared.command.Command.{Command}
pub use Rattle.ksm_base.specs.declared.command.Command.TheVariants.{Drop, Mergeable, MoveDup, MovePage, Prune, Register, Scan, SetAcross, SetLimit, SetPagesToScan, SetRun, Store, Unmerge}
pub use Rattle.ksm_base.specs.declared.fault.Fault.{Fault}
pub use Rattle.ksm_base.specs.declared.fault.Fault.TheVariants.{InUse, Memory, NoFrame, UnknownPage}
pub use Rattle.ksm_base.specs.declared.knobs.Knob.{Knob}
pub use Rattle.ksm_base.specs.declared.limits.TheConstants.{MOST_FRAMES, MOST_LIVES, MOST_REFERENCES}
pub use Rattle.ksm_base.specs.declared.page.GuestPage.{GuestPage}
pub use Rattle.ksm_base.specs.declared.page.TheConstants.{PAGE_WORDS, PAGE_WORDS as WORDS}
pub use Rattle.ksm_base.specs.declared.reply.Reply.TheVariants.{Done, Pruned, Scanned, Unmerged}
pub use Rattle.ksm_base.specs.declared.row.DupRow.{DupRow}
pub use Rattle.ksm_base.specs.declared.row.PageState.{PageState}
pub use Rattle.ksm_base.specs.declared.row.PageState.TheVariants.{Merged, Private as OwnPage, Waiting, Zero}
pub use Rattle.ksm_base.specs.declared.row.Row.{Row}
pub use Rattle.ksm_base.specs.declared.shape.Shape.{Shape}
pub use Rattle.ksm_pages.specs.Ahead.{EndsAt, FindsNext, mergeable_pages, pages_behind, pages_between}
pub use Rattle.ksm_pages.specs.Paged.{at_home_on, changed as row_changed, dup_of_row, elsewhere, Finds as FindsRow, FindsAt, frame_of, Frames, HasRoom, HasRow, is_next, is_restless, IsAlone, IsHeld, LooksSo}
pub use Rattle.ksm_pages.specs.Paged.{IsKnown, IsVacant, items_on, ItemsLieOn, lies_on, Lodging, MayPair, nowhere, of_guest, on_its_own, page_beside, PagesView, paired as are_paired, relaid, seen}
pub use Rattle.ksm_pages.specs.declared.ahead.Ahead.{Ahead}
pub use Rattle.ksm_pages.specs.declared.ahead.Ahead.TheVariants.{At, End}
pub use Rattle.ksm_pages.specs.declared.pages.Find.{Find}
pub use Rattle.ksm_pages.specs.declared.row.Spot.{Spot}
pub use Rattle.ksm_rmap.specs.Items.{AreAscending, has_item}
pub use Rattle.ksm_tree.specs.NumberSets.{has, Marks}
