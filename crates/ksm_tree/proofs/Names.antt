-- The definitions, and the laws of the libraries and crates below, by their names, for proofs.
pub use Rattle.ksm_order.proofs.Names.{All-append, All-cons, All-filter, All-map, AllPairs-filter, filter-append, filter_passes, IsHere, IsPlace, nat_tests}
pub use Rattle.ksm_tree.specs.Terms.{[], All, bit_at, Bool, bytes_eq, Choice, cond, Content, count_by, Dup, DupRow, false, filter, filter_map, find, get, get_or, GuestPage, has_item, if◌then◌else◌}
pub use Rattle.ksm_tree.specs.Terms.{InPlaceOrder, is_at, is_none, is_some, item_count, items_of, length, List, list_all, lookup, map, Merged, MOST_FRAMES, nat_le, nat_lt, None, not, OnErr, Option}
pub use Rattle.ksm_tree.specs.Terms.{option_copied, option_map, PageState, replicate, Row, same_page, set, Slab, Some, suc, true, with_item, without_item, ℕ, ◌%◌, ◌&&◌, ◌*◌, ◌++◌, ◌+◌, ◌/◌, ◌<◌, ◌==◌}
pub use Rattle.ksm_tree.specs.Terms.{◌^◌, ◌||◌, ◌∷◌, ◌≡◌, ◌≢◌, ◌≤◌, ◌⊎◌}
pub use Rattle.ksm_base.proofs.Edits.{count-append, count_more, count_none, find_all, find_none, find_nothing, find_passes, none_counted}
pub use Rattle.ksm_base.proofs.Orders.{all_with_dup, dups_parted, dups_with, filter_none, Lower, one_of_each, ordered_filter, ordered_map, pairs_head, pairs_tail}
pub use Rattle.ksm_base.proofs.RowCounts.{each_at_page, filter_all}
pub use Rattle.ksm_base.specs.Rows.{change_row, comes_before, has_items, InPageOrder, merged_into, merged_state, row_at, same_group, with_dup, with_row, without_page}
pub use Rattle.ksm_order.proofs.Ordered.{absent_kept, absent_parts, found_parts, none_found, numbers_ordered, with_found}
pub use Rattle.ksm_order.proofs.Places.{insert_here, remove_here, with_ascends}
pub use Rattle.ksm_rmap.proofs.Pages.{pages_ordered}
pub use Rattle.ksm_tree.specs.Bridge.{AreCounted, AreTied, let_out, place_in}
pub use Rattle.ksm_tree.specs.Chains.{AreChained, dups_seen, group_places, in_group}
pub use Rattle.ksm_tree.specs.Choosing.{ArePlacesToJoin, best_of, candidate_of, choice_of, empty_place, found_at, is_best, is_no_worse, may_join}
pub use Rattle.ksm_tree.specs.Dups.{change_items, dup_at, dup_of, DupsState, has_number, is_live, is_stale, items_in, place_of, places_open, rows_of, stands_at, with_new, without_place}
pub use Rattle.ksm_tree.specs.NumberSets.{FindsLeast, has, HasNoBit, HasNone, IsLeast, IsLowestBit, IsSummed, Marks}
pub use Rattle.ksm_tree.specs.Numbered.{AreGroups, content_in, content_of, content_order, has_place, IsUnused, number_of, Numbers, places_in}
pub use Rattle.ksm_tree.specs.Places.{is_open, places_where, with_place, without}
pub use Rattle.ksm_tree.specs.Slots.{ArePlaced, AreSlots, change_at, change_items_of, change_slot, count_in, has_room, holds, IsMarked, IsSetOf, kept_at, MayBeMarked, present, ShelfState, slots_by}
pub use Rattle.ksm_tree.specs.Slots.{slots_seen, SlotsState}
pub use Rattle.ksm_tree.specs.declared.groups.Group.{Group}
pub use Rattle.ksm_tree.specs.declared.groups.Groups.{Groups}
pub use Rattle.ksm_tree.specs.declared.shelf.Kept.{Kept}
pub use Rattle.slab.proofs.SlabLemmas.{Updates-with_value}
pub use Rattle.slab.specs.Slab.{with_value}
pub use Rattle.std.proofs.Common.{add-one, ap, arith, BTreeMap, eqb-true, get_or-set_other, get_or-set_same, inl, inr, length-append, length-set, length-take, map-id, nat_cmp, rules, shr-shr, subst}
pub use Rattle.std.proofs.Common.{sym, w64, ◌∙◌}
pub use Rattle.std.proofs.Math.ListN.{drop_of_length-le, get_or-map}
pub use Rattle.std.proofs.lemmas.Bool.{cases_Bool}
pub use Rattle.std.proofs.lemmas.List.{drop_more, get_or-replicate, get_or_default, get_or_past, length-map, length-replicate, map-append, map-set, nil_from_length, set-get_or}
pub use Rattle.std.proofs.lemmas.List.Folds.{list_all-append, sum_by-replicate}
pub use Rattle.std.proofs.lemmas.List.Sums.{AllPass-from_list_all, count_by-le-length, get_or-le-sum_by, length-filter, list_all-from_AllPass, sum_by-set}
pub use Rattle.std.proofs.lemmas.Nat.Bits.{bit_at-trailing_zeros, bit_at_above, bit_at_clear_other, bit_at_clear_same, bit_at_ones, bit_at_set_other, bit_at_set_same}
pub use Rattle.std.proofs.lemmas.Slice.Eq.{bytes_eq-Decides}
pub use Rattle.std.specs.BTreeMap.{Updates}
pub use Rattle.std.specs.Prelude.{bit_or, drop, Err, Ok, refl, Result, take, zero, ◌-◌}
