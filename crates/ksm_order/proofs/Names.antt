-- The definitions, and the laws of the libraries below, by their names, for proofs here and in the crates above.
pub use Rattle.ksm_base.proofs.Edits.{count-append, count_more, find_none, find_nothing, find_passes}
pub use Rattle.ksm_base.proofs.Orders.{filter_none, pairs_head, pairs_tail, pairs_with}
pub use Rattle.ksm_base.proofs.RowCounts.{filter_all}
pub use Rattle.ksm_base.specs.Rows.{comes_before, same_page}
pub use Rattle.ksm_order.specs.Listed.{AreAscending, AreBefore, AreBehind, AreParts, begins_behind, is_at, is_from, IsCounted, IsCut, IsPartOf, key_at, many, marked, up_to, with_item, with_mark}
pub use Rattle.ksm_order.specs.Listed.{without}
pub use Rattle.ksm_order.specs.Places.{AreInOrder, IsHere, IsPlace}
pub use Rattle.ksm_order.specs.declared.item.Item.{Item}
pub use Rattle.std.proofs.Common.{add-one, ap, append-nil, append_assoc, arith, drop-drop, drop-set-lt, drop_at, get_or-append-add, get_or-drop, get_or-set_same, get_or-take, inl, inr, length-append}
pub use Rattle.std.proofs.Common.{length-drop, length-set, length-take-le, ltb-true, rules, sym, take-append-drop, take_at, tests, ◌∙◌}
pub use Rattle.std.proofs.Math.Seq.{get_or-append_seam, take-append_seam, take-suc}
pub use Rattle.std.proofs.lemmas.Bool.Decides.{nat_tests}
pub use Rattle.std.proofs.lemmas.List.{drop-take, drop_all, drop_more, get_or_append_left, get_or_default, length-map, map-append, nil_from_length, set_at, set_split, take-append-le, take-set}
pub use Rattle.std.proofs.lemmas.List.Concat.{flat_map-append}
pub use Rattle.std.proofs.lemmas.List.Edits.{get_or-insert_at, length-insert, length-remove}
pub use Rattle.std.proofs.lemmas.List.Elements.{All-append, All-cons, All-drop, All-filter, All-head, All-map, All-nil, All-tail, All-take, filter-append, filter_passes}
pub use Rattle.std.proofs.lemmas.List.Folds.{find-append, list_any_at, list_any_none}
pub use Rattle.std.proofs.lemmas.List.Kept.{AllPairs-cons, AllPairs-filter}
pub use Rattle.std.proofs.lemmas.Option.{slice_get-get_or, slice_get_past}
pub use Rattle.std.specs.List.{copy_within, list_any, refill}
pub use Rattle.std.specs.Prelude.{[], All, AllPairs, Bool, cond, drop, false, filter, find, flat_map, get_or, if◌then◌else◌, insert, is_some, length, List, map, nat_lt, None, not, Option, refl}
pub use Rattle.std.specs.Prelude.{remove, set, slice_get, Some, suc, take, true, zero, ℕ, ◌&&◌, ◌++◌, ◌+◌, ◌-◌, ◌<◌, ◌==◌, ◌^◌, ◌∷◌, ◌≡◌, ◌≢◌, ◌≤◌}
