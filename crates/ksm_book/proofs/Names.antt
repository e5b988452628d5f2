-- The definitions, and the laws of the libraries and crates below, by their names, for proofs.
pub use Rattle.frame_core.proofs.Above.{frames_at_most}
pub use Rattle.ksm_base.proofs.Changes.{contains_filter}
pub use Rattle.ksm_base.proofs.Edits.{count_more, count_none, counts_one, find_all, find_none, find_nothing, find_passes, none_counted}
pub use Rattle.ksm_base.proofs.Orders.{all_with_dup, all_with_row, each_has_number, filter_none, Lower, one_of_each_page, one_of_each_place, ordered_change, ordered_filter, pairs_append, pairs_head}
pub use Rattle.ksm_base.proofs.Orders.{pairs_tail}
pub use Rattle.ksm_base.proofs.Pages.{before_differs, before_irrefl, not_both, one_before, same_page_eq, same_page_refl, same_page_sym}
pub use Rattle.ksm_base.proofs.RowCounts.{change_none, count_change_row, count_with_row, count_without_page, each_at_page, filter_all}
pub use Rattle.ksm_base.proofs.SoundCounts.{joined_count, not_an_item}
pub use Rattle.ksm_base.proofs.SoundEdits.{no_dup_lives, sound_changed, sound_settings}
pub use Rattle.ksm_base.proofs.SoundItems.{dup_of_item, home_of_item}
pub use Rattle.ksm_base.proofs.SoundKnobs.{none_shared, sound_set}
pub use Rattle.ksm_base.proofs.SoundPair.{IsFree, new_place_free, next_is_new, waits_tells, WaitsFor}
pub use Rattle.ksm_base.proofs.SoundScan.{settled_calmer, sound_cursor, sound_none_waiting, sound_row_visited, sound_visit_begun}
pub use Rattle.ksm_base.proofs.SoundSteps.{sound_after, sound_opening}
pub use Rattle.ksm_base.proofs.SoundVisit.{all_changed, best_dup_has_room, IsJoined}
pub use Rattle.ksm_base.proofs.Visits.{rowwise_visits}
pub use Rattle.ksm_base.specs.declared.knobs.Knobs.{Knobs}
pub use Rattle.ksm_base.specs.declared.reply.Reply.{Reply}
pub use Rattle.ksm_book.specs.Carried.{CarriedOut, IsCarried, scanning, StoresTo, TakesSteps, UnmergesTo}
pub use Rattle.ksm_book.specs.Steps.{Allocates, AllocatesOn, along, dying_from, dying_kind, dying_on, Finds, FindsNone, free_kind, given_by, Gives, IsLowestFree, loads, Log, MakesSteps, needed_after}
pub use Rattle.ksm_book.specs.Steps.{NoneOf, Provides, puts, replayed, stepped, steps_of}
pub use Rattle.ksm_book.specs.Commands.{Deed, dup_frame, FindsHeld, frame_number, idle, instead, is_frame, IsIdle, leaving, Mapped, mounting, Moves, Performs, pruning, Resettles, ResettlesEach}
pub use Rattle.ksm_book.specs.Commands.{rewriting, row_visiting, then_doing, withdrawing}
pub use Rattle.ksm_book.specs.Due.{AreDue, comes_later, CountsLater, due_visited, DueView, FindsFirst, FindsFirstUpTo, freed, goes_on_beside, has_gone_by, hidden_from, MayGoOn, names, pages_of, part_before}
pub use Rattle.ksm_book.specs.Due.{part_visited, reach_at, reach_to, shown as shown_so_far, so_far, StaysBefore, takes_over, TakesOver, TellsDue, waits_later, waits_on, with_rows}
pub use Rattle.ksm_book.specs.declared.due.Reach.{Reach}
pub use Rattle.ksm_book.specs.declared.due.Reach.TheVariants.{Before, Everywhere, Nowhere, UpTo}
pub use Rattle.ksm_book.specs.Folded.{begun, IsStill, next_visited, page_visited, pages_ahead, pages_visited, restless_at, Stage, visited, visits_beside}
pub use Rattle.ksm_book.specs.Keeping.{AreSets, HasLost, HasMoved, HasNewFrame, holding, IsSetOf, Keeps, MayLeave, MayMount, NoneLeft, once_mounted, spent, spent_on, with_more}
pub use Rattle.ksm_book.specs.Laid.{HasLeft, HasRemounted, is_shared_of, IsLaid, left_by, LiesWith, lying, MayMove, MayNotLeave, state_of, TurnedAway, Unshares}
pub use Rattle.ksm_book.specs.Placement.{Agrees, DupFits, FitsBase, in_hand, IsInLife, IsLawful, IsServed, node_of, place_frame, Placed, RowFits, uses}
pub use Rattle.ksm_book.specs.Promised.{dup_frames, FindsPlace, is_in_use, IsOutlived, LieOn, own_frames, StandsOn}
pub use Rattle.ksm_book.specs.Scanned.{ahead_before, ahead_up_to, Comes, FindsStill, FindsUpTo, HasVisited, is_nowhere, is_quiet, last_visited, passes_ended, Reached, StaysStill, Stops, up_to}
pub use Rattle.ksm_book.specs.Scanned.{VisitsPage}
pub use Rattle.ksm_book.specs.Terms.{Add, added, after_cursor, Ahead, Answer, are_paired, AreAscending, At, at_home_on, best_dup, blank, BookState, change_row, change_rows, comes_before}
pub use Rattle.ksm_book.specs.Terms.{Command, count_in, default_knobs, Did, did, Done, Drop, dup_of_row, DupRow, Dying, effect, elsewhere, empty_from, EndsAt, every_row, Fault, filled, Find, FindsAt}
pub use Rattle.ksm_book.specs.Terms.{FindsNext, FindsRow, first_ledger, frame_at, Frames, frames_of, Free, Freeze, fresh_row, frozen, GenerationFits, GuestPage, handled, has_item, has_items, HasRoom}
pub use Rattle.ksm_book.specs.Terms.{HasRow, InPageOrder, InPlaceOrder, InUse, is_before, is_best, is_for_zero, is_next, is_no_rival, is_no_worse, is_of, is_restless, is_stale, IsAlone}
pub use Rattle.ksm_book.specs.Terms.{unmapped_state, IsAnswerOrMemory, IsDupOf, IsHeld, IsLoose, IsReadable, IsScanned, IsShape, IsSound, IsVacant, IsWritable, item_count, items_on, ItemsLieOn, KeeperStep}
pub use Rattle.ksm_book.specs.Terms.{KeeperView, Kind, Ledger, ledger_after, let_go, lies_on, live_dup_at, made_dup, Marks, May, may_join, MayPair, Memory, Mergeable, mergeable_count, mergeable_pages}
pub use Rattle.ksm_book.specs.Terms.{Merged, merged_into, merged_state, MOST_FRAMES, MOST_LIVES, MOST_REFERENCES, MoveDup, MovePage, named_anew, named_at, new_place, next_row, NoFrame, Note, nowhere}
pub use Rattle.ksm_book.specs.Terms.{of_guest, on_its_own, Open, opened, OwnPage, page_beside, PAGE_WORDS, PageState, PagesView, paired, partner, pass_begun, pass_ended, pass_ended_at_last}
pub use Rattle.ksm_book.specs.Terms.{place_count, Private, Prune, Pruned, Publish, Raise, raised, Reap, reaped, Register, relaid, Row, row_at, row_changed, row_visited, same_page, Scan, scan_stopped}
pub use Rattle.ksm_book.specs.Terms.{Scanned, seen, SetAcross, SetLimit, SetPagesToScan, SetRun, settled, Shape, shared_state, shown, Stable, Store, stored, Sub, tree_of, UnknownPage, Unmerge}
pub use Rattle.ksm_book.specs.Terms.{Unmerged, unshare_stopped, unshared, visit, visit_begun, visit_of, visits, Waiting, waiting_state, waits_for, with_dup, with_frame, with_row, Withdraw}
pub use Rattle.ksm_book.specs.Terms.{bytes_of, counters_of, Filling, is_in_range, is_known, Knob, mappers_of, private_state, ticket_of, traits, with_value, without_page, Zero, zero_state}
pub use Rattle.ksm_book.specs.Whole.{BookValue, BookView, HasShown, mapped, nodes_got, view_of}
pub use Rattle.ksm_order.proofs.Ordered.{absent_parts, any_found, none_found, with_rises, without_between, without_rises}
pub use Rattle.ksm_pages.proofs.Found.{find_changed, find_changed_other, find_put, first_found as found_first}
pub use Rattle.ksm_pages.proofs.Joined.{own_not_merged}
pub use Rattle.ksm_pages.proofs.Options.{mapped_some, none_mapped, some_mapped}
pub use Rattle.ksm_pages.proofs.Ranked.{last_of_take}
pub use Rattle.ksm_pages.specs.Ahead.{last_of}
pub use Rattle.ksm_pages.specs.declared.named.Named.{Named}
pub use Rattle.ksm_pages.specs.declared.pages.Find.TheVariants.{Dup, Partner}
pub use Rattle.ksm_pages.specs.declared.pages.Held.{Held}
pub use Rattle.ksm_rmap.proofs.Pages.{pages_ordered}
pub use Rattle.ksm_tree.proofs.Alike.{count_alike, count_mapped, filter_mapped, find_mapped, map_alike, map_mapped, pairs_mapped}
pub use Rattle.ksm_tree.proofs.Numbers.{on_err}
pub use Rattle.ksm_tree.specs.declared.dup.Best.{Best}
pub use Rattle.std.proofs.Common.{ap, append-nil, append_assoc, arith, Bool, cond, drop, eq-eqb, Err, false, get_or, get_or-set_other, get_or-set_same, inl, inr, length, length-set, List, map, None}
pub use Rattle.std.proofs.Common.{Ok, Option, refl, replicate, rules, set, Some, subst, suc, suc-mul, sym, take, true, true≢false, zero, [], ℕ, ◌*◌, ◌++◌, ◌+◌, ◌-◌, ◌/◌, ◌<◌, ◌^◌, ◌∙◌, ◌∷◌, ◌≡◌, ◌≢◌}
pub use Rattle.std.proofs.Common.{◌≤◌, ◌⊎◌}
pub use Rattle.std.proofs.Math.Dec.{eqb}
pub use Rattle.std.proofs.Math.Seq.{get_or-append_seam, take-append_seam, take-suc}
pub use Rattle.std.proofs.lemmas.Bool.{and_parts, and_right, cases_Bool, cases_eq, cases_lt, cond_both, eqb-true, lt-ltb, ne_eqb, not-true}
pub use Rattle.std.proofs.lemmas.Bool.Decides.{nat_tests}
pub use Rattle.std.proofs.lemmas.List.{drop_all, drop_more, get_or-map, get_or-replicate, get_or_default, get_or_past, length-append, length-map, length-replicate, length-take-le, map-append, map-id}
pub use Rattle.std.proofs.lemmas.List.{replicate-append-replicate, set-get_or, set-set, set_past, take_all, take_more}
pub use Rattle.std.proofs.lemmas.List.Elements.{All-append, All-cons, All-contains, All-contains_itself, All-filter, All-head, All-map, All-tail, All-weaker, Contains-append_left}
pub use Rattle.std.proofs.lemmas.List.Elements.{Contains-append_right, Contains-get_or, Contains-push, filter_passes}
pub use Rattle.std.proofs.lemmas.List.Folds.{list_any-append, list_any_at, list_any_none, map_fixed}
pub use Rattle.std.proofs.lemmas.List.FromFn.{get_or-range_with_len, length-range_with_len}
pub use Rattle.std.proofs.lemmas.List.Kept.{AllPairs-cons, AllPairs-filter}
pub use Rattle.std.proofs.lemmas.List.Sums.{count_by-le-length, fold-append, length-filter, list_all-from_AllPass, sum_by-le, sum_by-set}
pub use Rattle.std.proofs.lemmas.Map.Keys.{IsDistinct-from_apart}
pub use Rattle.std.proofs.lemmas.Map.Steps.{length-le_from_distinct_below}
pub use Rattle.std.proofs.lemmas.Map.Views.{any-filter_same, Contains-from_any}
pub use Rattle.std.proofs.lemmas.Option.{get_or_from_slice_get, none-some, same_Some, slice_get-get_or, slice_get_past, slice_get_within}
pub use Rattle.std.proofs.lemmas.Slice.Eq.{bytes_eq-Decides}
pub use Rattle.std.specs.List.{list_any}
pub use Rattle.std.specs.Prelude.{All, AllPairs, bytes_eq, Contains, count_by, filter, find, fold, IfSome, if◌then◌else◌, is_none, is_some, MatchBool, MatchOption, min, nat_le, nat_lt, not}
pub use Rattle.std.specs.Prelude.{option_and_then, option_map, option_to_list, slice_get, ⊤, ◌&&◌, ◌==◌, ◌||◌}
