-- What the crates below speak of, by name, for definitions, contracts and proofs of this one.
pub use Rattle.ksm_base.specs.Answers.{every_row}
pub use Rattle.ksm_base.specs.Apply.{fresh_row, let_go as as_let_go, stored, unshared as as_unshared}
pub use Rattle.ksm_base.specs.Counting.{counters_from, mergeable_count, shared_count}
pub use Rattle.ksm_base.specs.Knobs.{default_knobs}
pub use Rattle.ksm_base.specs.Reading.{items_of, place_of}
pub use Rattle.ksm_base.specs.Refusals.{is_of}
pub use Rattle.ksm_base.specs.Rows.{all_zero as has_only_zeroes, Alone, change_row, change_rows, comes_before, dup_numbered, has_items, InDup, InPageOrder, is_stale, item_count, Mapping, mapping_of}
pub use Rattle.ksm_base.specs.Rows.{merged_into, merged_state, Nowhere, private_state, row_at, same_page, settled, settled as as_settled, shared_state, waiting_state, with_dup, with_row, without_page, zero_state}
pub use Rattle.ksm_base.specs.State.{place_count, tree_of}
pub use Rattle.ksm_base.specs.Values.{frames_of, IsShape}
pub use Rattle.ksm_base.specs.Visit.{after_cursor, best_dup, is_for_zero, new_place as a_new_place, partner, waits_for}
pub use Rattle.ksm_base.specs.declared.fault.Fault.TheVariants.{Memory}
pub use Rattle.ksm_base.specs.declared.knobs.Knobs.{Knobs}
pub use Rattle.ksm_base.specs.declared.limits.TheConstants.{MOST_FRAMES, MOST_REFERENCES}
pub use Rattle.ksm_base.specs.declared.page.GuestPage.{GuestPage}
pub use Rattle.ksm_base.specs.declared.row.DupRow.{DupRow}
pub use Rattle.ksm_base.specs.declared.row.PageState.{PageState}
pub use Rattle.ksm_base.specs.declared.row.PageState.TheVariants.{Merged, Private, Waiting, Zero}
pub use Rattle.ksm_base.specs.declared.row.Row.{Row}
pub use Rattle.ksm_base.specs.declared.shape.Shape.{Shape}
pub use Rattle.ksm_order.specs.Listed.{AreAscending as AreItemsAscending}
pub use Rattle.ksm_order.specs.Places.{AreInOrder as AreKeysInOrder, IsPlace}
pub use Rattle.ksm_order.specs.declared.item.Item.{Item}
pub use Rattle.ksm_rmap.specs.Items.{has_item}
pub use Rattle.ksm_rmap.specs.Keys.{page_of}
pub use Rattle.ksm_tree.specs.Bridge.{AreTied, let_out}
pub use Rattle.ksm_tree.specs.Chains.{in_group}
pub use Rattle.ksm_tree.specs.Choosing.{best_of, found_at}
pub use Rattle.ksm_tree.specs.Dups.{DupsState, rows_of as dup_rows}
pub use Rattle.ksm_tree.specs.Numbered.{number_of}
pub use Rattle.ksm_tree.specs.declared.dup.Dup.{Dup}
