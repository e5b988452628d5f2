-- The definitions, and the laws of the libraries and crates below, by their names, for proofs.
pub use Rattle.ksm_base.proofs.Edits.{count_more, count_none, find_all, find_none, find_nothing, find_over, find_passes, none_counted}
pub use Rattle.ksm_base.proofs.Orders.{above, all_with_dup, below, dups_parted, each_has_number, one_of_each_place, ordered_change, ordered_map, ordered_with, ordered_without, pairs_append}
pub use Rattle.ksm_base.proofs.Orders.{pairs_head, pairs_tail}
pub use Rattle.ksm_base.proofs.Pages.{before_irrefl, one_before, same_page_eq, same_page_refl, same_page_sym}
pub use Rattle.ksm_base.proofs.RowCounts.{count_change_row, count_with_row, count_without_page, each_at_page, filter_all}
pub use Rattle.ksm_base.proofs.Sums.{states-add}
pub use Rattle.ksm_base.specs.Apply.{let_go, unshared}
pub use Rattle.ksm_base.specs.Rows.{InPlaceOrder, settled_state}
pub use Rattle.ksm_order.proofs.Changes.{mark_of, mark_rises, same_key}
pub use Rattle.ksm_order.proofs.Ordered.{absent_kept, absent_parts, any_found, found_parts, none_found, without_rises}
pub use Rattle.ksm_order.proofs.Parts.{up_to_few}
pub use Rattle.ksm_order.specs.Listed.{is_at, is_from, key_at, up_to, with_mark, without}
pub use Rattle.ksm_pages.specs.Ahead.{FindsNext, last_of, mergeable_pages, pages_behind, pages_between}
pub use Rattle.ksm_pages.specs.Filed.{AreFiled, AreListed, CanMove, held_in, held_under, is_useless, IsInVain, IsMade, IsMoved, IsRows, IsTally, IsUnder, key_in, named_of, one_if, StaysBegun}
pub use Rattle.ksm_pages.specs.Filed.{StaysLed}
pub use Rattle.ksm_pages.specs.Held.{altered, AreInOrder, AreInTree, AreSmall, AreWaitersLed, beside, change_held, forgotten, has_content, HasGap, Held, held_at, held_of, holds, in_tree_by, is_alone}
pub use Rattle.ksm_pages.specs.Held.{is_in, is_restless, IsAddedTo, IsFree, IsPutAmong, Listing, low_spot, on_row, out_of_tree, page_in_tree, pages_of, rows_of, RowsView, shares, state_of, tree_by}
pub use Rattle.ksm_pages.specs.Held.{waiting_in, with_held, without_held, written}
pub use Rattle.ksm_pages.specs.Paged.{AreAlone, AreKept, at_home_on, changed, elsewhere, frame_of, frame_seen, Frames, HasRoom, is_item, is_next, IsAlone, IsHeld, IsKnown, IsLeft, IsVacant, items_on, TellsNext, told_by, LooksSo}
pub use Rattle.ksm_pages.specs.Paged.{lies_on, live_at, lodging, lodgings_of, MayPair, NoneHas, of_guest, on_its_own, PagesValue, PagesView, paired, relaid, seen}
pub use Rattle.ksm_pages.specs.Ordered.{AreAscending, is_of, marked, named_by, visited, with_named, without_named}
pub use Rattle.ksm_pages.specs.Terms.{after_cursor, AreTied, best_dup, best_of, change_row, change_rows, comes_before, Dup, dup_numbered, dup_rows, DupRow, DupsState, fresh_row, GuestPage, has_item}
pub use Rattle.ksm_pages.specs.Terms.{in_group, InPageOrder, IsPlace, Item, item_count, items_of, Knobs, let_out, mapping_of, Merged, merged_into, merged_state, MOST_REFERENCES, number_of, page_of}
pub use Rattle.ksm_pages.specs.Terms.{PageState, partner, place_count, Private, private_state, Row, row_at, same_page, settled, shared_state, stored, tree_of, Waiting, waiting_state, waits_for, with_dup}
pub use Rattle.ksm_pages.specs.Terms.{with_row, without_page, Zero, zero_state}
pub use Rattle.ksm_pages.specs.Unstable.{AreApart, AreLed, digest, holder, is_led, Keeps, KeepsOthers, keys_at, meets, place, stands_as, stands_under}
pub use Rattle.ksm_pages.specs.declared.named.Named.{Named}
pub use Rattle.ksm_pages.specs.declared.pages.Pages.TheInside.{Inside}
pub use Rattle.ksm_pages.specs.declared.restless.Listed.{Listed}
pub use Rattle.ksm_pages.specs.declared.row.Entry.{Entry}
pub use Rattle.ksm_pages.specs.declared.row.InTree.{InTree}
pub use Rattle.ksm_pages.specs.declared.row.InTree.TheVariants.{Not}
pub use Rattle.ksm_pages.specs.declared.row.Spot.{Spot}
pub use Rattle.ksm_pages.specs.declared.tally.Tally.{Tally}
pub use Rattle.ksm_pages.specs.declared.unstable.TheConstants.{GONE, NO_KEY}
pub use Rattle.ksm_pages.specs.declared.unstable.UnstableTree.{UnstableTree}
pub use Rattle.ksm_rmap.proofs.Keys.{before_as_key, behind_as_key, same_as_key}
pub use Rattle.ksm_rmap.proofs.Pages.{pages_ordered}
pub use Rattle.ksm_rmap.specs.Items.{with_item}
pub use Rattle.ksm_rmap.specs.Keys.{key_of}
pub use Rattle.ksm_tree.proofs.Alike.{change_none, count_mapped, filter_mapped, find_alike, find_mapped, map_alike, map_mapped, pairs_mapped}
pub use Rattle.ksm_tree.proofs.Bridge.{best_found, choice_alike, choice_exists, live_count, live_placed, stale_alike}
pub use Rattle.ksm_tree.proofs.Chained.{found_passing}
pub use Rattle.ksm_tree.proofs.Changes.{all_rows, row_found, rows_items, rows_new, rows_out, rows_without}
pub use Rattle.ksm_tree.proofs.Names.{BTreeMap, Updates}
pub use Rattle.ksm_tree.proofs.Numbering.{told_equal}
pub use Rattle.ksm_tree.proofs.Numbers.{on_err}
pub use Rattle.ksm_tree.proofs.Rows.{eq_bytes}
pub use Rattle.ksm_tree.proofs.Tied.{tied_counted}
pub use Rattle.ksm_tree.proofs.Ties.{number_found, tied_absent, tied_count, tied_dropped, tied_inserted, tied_joined, tied_left, tied_made, tied_mapped, tied_pruned}
pub use Rattle.ksm_tree.specs.Dups.{AreDups, change_items, dup_at, dup_of, has_number, is_live, is_stale, items_in, stands_at, with_new, without_place}
pub use Rattle.ksm_tree.specs.Numbered.{content_of, content_order}
pub use Rattle.ksm_tree.specs.declared.content.Content.{Content}
pub use Rattle.slab.proofs.SlabLemmas.{Updates-with_value}
pub use Rattle.slab.specs.Slab.{CalledAt, get, RetainsFrom, Slab, Updates as Fills, with_value}
pub use Rattle.std.proofs.Common.{[], add-one, ap, ap₂, arith, Bool, drop, false, get_or, inl, inr, is_some, length, length-set, List, map, MutBor, None, Option, refl, rules, Some, subst, suc, sym}
pub use Rattle.std.proofs.Common.{take, true, true≢false, unwrap_or, zero, ℕ, ◌++◌, ◌+◌, ◌-◌, ◌<◌, ◌^◌, ◌∙◌, ◌∷◌, ◌≡◌, ◌≢◌, ◌≤◌, ◌⊎◌}
pub use Rattle.std.proofs.Math.ListN.{get_or-map}
pub use Rattle.std.proofs.Math.Seq.{take-suc}
pub use Rattle.std.proofs.lemmas.Bool.{cases_Bool, cond_both, eq-eqb, eqb-true, false_from_ne_true}
pub use Rattle.std.proofs.lemmas.Bool.Decides.{nat_tests}
pub use Rattle.std.proofs.lemmas.Fn.{always_returns_same, filter_same}
pub use Rattle.std.proofs.lemmas.Grind.{get_or-set_at}
pub use Rattle.std.proofs.lemmas.List.{append-nil, append_assoc, drop-map, drop_all, drop_more, get_or-drop, get_or-take, get_or_default, length-append, length-drop, length-map, length-take}
pub use Rattle.std.proofs.lemmas.List.{length-take-le, map-append, nil_from_length, set-get_or, take-append-drop, take-map}
pub use Rattle.std.proofs.lemmas.List.Elements.{All-append, All-cons, All-drop, All-filter, All-map, All-take, filter_passes}
pub use Rattle.std.proofs.lemmas.List.Folds.{Any-from_list_any, find-append, list_any-append, list_any_at, map_fixed}
pub use Rattle.std.proofs.lemmas.List.Kept.{AllPairs-filter}
pub use Rattle.std.proofs.lemmas.List.Sorted.{All-permutation, IsNonDecreasingBy-from_all_adjacent, IsNonDecreasingBy-from_sort_by_key, IsPermutation-map, list_any-IsPermutation}
pub use Rattle.std.proofs.lemmas.List.Sums.{count_by-le-length, length-filter}
pub use Rattle.std.proofs.lemmas.Option.{get_or_from_slice_get, none-some, same_Some, slice_get-get_or, slice_get-map, slice_get_past, slice_get_read, slice_get_within, unwrap_or-slice_get}
pub use Rattle.std.proofs.lemmas.Result.{on_ok_weaker}
pub use Rattle.std.proofs.lemmas.Slice.Eq.{bytes_eq-Decides}
pub use Rattle.std.specs.Fn.{FnOnceReturnsAtMut}
pub use Rattle.std.specs.List.{AllWithin, list_any}
pub use Rattle.std.specs.List.Sorted.{IsNonDecreasingBy, IsPermutation}
pub use Rattle.std.specs.Option.{IfSome, MatchOption, option_and_then}
pub use Rattle.std.specs.Prelude.{All, AllPairs, bytes_eq, cond, count_by, Err, filter, find, IfNone, if◌then◌else◌, insert, IsTrue, nat_le, nat_lt, not, Ok, OnErr, OnOk, option_map, Result, set}
pub use Rattle.std.specs.Prelude.{slice_get, ⊤, ◌%◌, ◌&&◌, ◌==◌, ◌||◌}
