-- What the crates below speak of, by name, for definitions, contracts and proofs of this one.
pub use Rattle.ksm_base.specs.Counting.{in_chain, leads_group}
pub use Rattle.ksm_base.specs.Reading.{items_of}
pub use Rattle.ksm_base.specs.Rows.{InPlaceOrder, item_count, same_page}
pub use Rattle.ksm_base.specs.Visit.{empty_from}
pub use Rattle.ksm_base.specs.declared.limits.TheConstants.{MOST_FRAMES, MOST_REFERENCES}
pub use Rattle.ksm_base.specs.declared.page.GuestPage.{GuestPage}
pub use Rattle.ksm_base.specs.declared.row.DupRow.{DupRow}
pub use Rattle.ksm_base.specs.declared.row.PageState.{PageState}
pub use Rattle.ksm_base.specs.declared.row.PageState.TheVariants.{Merged}
pub use Rattle.ksm_base.specs.declared.row.Row.{Row}
pub use Rattle.ksm_rmap.specs.Items.{has_item, with_item, without_item}
pub use Rattle.ksm_tree.specs.Faults.{FailsForMemory}
pub use Rattle.ksm_tree.specs.declared.content.Content.{Content}
pub use Rattle.ksm_tree.specs.declared.dup.Best.{Best}
pub use Rattle.ksm_tree.specs.declared.dup.Choice.{Choice}
pub use Rattle.ksm_tree.specs.declared.dup.Choice.TheVariants.{Empty, Stale}
pub use Rattle.ksm_tree.specs.declared.dup.Dup.{Dup}
pub use Rattle.ksm_tree.specs.declared.groups.TheConstants.{MOST_SPARE, NO_NUMBER}
pub use Rattle.slab.specs.Slab.{get, Slab, slab_len}
pub use Rattle.smallvec.specs.SmallVec.{SmallVec}
pub use Rattle.std.specs.BTreeMap.{is_at}
pub use Rattle.std.specs.Int.{bit_at}
pub use Rattle.std.specs.List.{list_all, range_with_len}
pub use Rattle.std.specs.Map.{lookup}
pub use Rattle.std.specs.Option.{ForSome}
pub use Rattle.std.specs.Prelude.{[], All, AllPairs, Bool, bytes_eq, cond, count_by, false, filter, filter_map, find, get_or, IfNone, IfOk, IfSome, if◌then◌else◌, is_none, is_some, IsOk, IsTrue}
pub use Rattle.std.specs.Prelude.{length, List, map, MatchOption, nat_le, nat_lt, None, not, OnErr, OnOk, Option, option_copied, option_map, replicate, set, slice_get, slice_index, slice_index_or}
pub use Rattle.std.specs.Prelude.{slice_set, Some, suc, true, unwrap_or, ℕ, ◌%◌, ◌&&◌, ◌*◌, ◌++◌, ◌+◌, ◌/◌, ◌<◌, ◌==◌, ◌^◌, ◌||◌, ◌↔◌, ◌∷◌, ◌≡◌, ◌≢◌, ◌≤◌, ◌⊎◌}
pub use Rattle.std.specs.declared.cmp.Ordering.{Ordering}
