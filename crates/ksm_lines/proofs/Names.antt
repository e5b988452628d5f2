-- The definitions, and the laws of the libraries and crates below, by their names, for proofs.
pub use Rattle.ksm_base.proofs.EachKnob.{stands}
pub use Rattle.ksm_base.specs.Knobs.{all_knobs}
pub use Rattle.ksm_base.specs.declared.knobs.Knob.{Knob}
pub use Rattle.ksm_base.specs.declared.page.GuestPage.{GuestPage}
pub use Rattle.ksm_base.specs.declared.page.TheConstants.{PAGE_WORDS}
pub use Rattle.ksm_lines.specs.Content.{byte_at, content_of, digit_or_none, digits_of_word, hex_value, is_small, page_of, pair_in, word_at}
pub use Rattle.ksm_lines.specs.Digits.{IsReadTo}
pub use Rattle.ksm_lines.specs.Grammar.{AreWritten, content, Form, form_in, guest, IsLine, IsNoLine, IsOf, IsWritten, Kind, kind_of, knob, left_out, made, Makes, number, shown, Told, Values, visits}
pub use Rattle.ksm_lines.specs.Grammar.{words_of}
pub use Rattle.ksm_lines.specs.Knobs.{all_shown, knob_name, knob_of, named_in, shown_name, shown_of}
pub use Rattle.ksm_lines.specs.Leading.{BeginsWith}
pub use Rattle.ksm_lines.specs.Reading.{ended, Gives, GivesLast, is_plain, line_at, line_of, number_below, read, values, words_left, ◌>>=◌}
pub use Rattle.ksm_lines.specs.Worked.{BadLines}
pub use Rattle.ksm_lines.specs.declared.field.TheConstants.{DIGIT_VALUES}
pub use Rattle.ksm_lines.specs.declared.knob.Shown.{Shown}
pub use Rattle.ksm_lines.specs.declared.knob.Shown.TheVariants.{Knob as OfKnob, ZeroPages}
pub use Rattle.ksm_lines.specs.declared.line.Line.{Line}
pub use Rattle.ksm_lines.specs.declared.line.LineFault.{LineFault}
pub use Rattle.ksm_lines.specs.declared.part.Part.{Part}
pub use Rattle.ksm_lines.specs.declared.part.Part.TheVariants as parts
pub use Rattle.std.proofs.Common.{[], All, ap, append_assoc, ap₂, arith, Bool, cond, drop, eq-eqb, eqb, Err, false, Fits, get_or, inl, inr, length, length-append, length-set, List, ltb, map, None}
pub use Rattle.std.proofs.Common.{not, Ok, Option, refl, replicate, Result, rules, set, Some, subst, suc, sym, take, take-append-drop, true, zero, ℕ, ◌%◌, ◌&&◌, ◌*◌, ◌++◌, ◌+◌, ◌-◌, ◌<◌, ◌==◌, ◌^◌}
pub use Rattle.std.proofs.Common.{◌||◌, ◌∙◌, ◌∷◌, ◌≡◌, ◌≢◌, ◌≤◌}
pub use Rattle.std.proofs.Math.Bool.{and_comm}
pub use Rattle.std.proofs.Math.Seq.{take-add}
pub use Rattle.std.proofs.lemmas.Bool.{agree_below, agree_below_at, and_parts, cases_lt, eqb-true, false_from_ne_true, le-ltb, lt-ltb, ltb-false, ltb-true, ne_eqb}
pub use Rattle.std.proofs.lemmas.Fmt.{decimal-digits_value, decimal_digit, decimal_nonempty, digits_decimal, digits_value-decimal, first_decimal}
pub use Rattle.std.proofs.lemmas.Int.Digits.{digits_value_more}
pub use Rattle.std.proofs.lemmas.List.{append-nil, get_or-map, get_or-take, get_or_append_left, get_or_past, length-take, length-take-le, map-id, nil_from_length, take_all, take_more, take_rest}
pub use Rattle.std.proofs.lemmas.List.Edits.{fill_by_more}
pub use Rattle.std.proofs.lemmas.List.Elements.{All-append, All-cons, All-weaker}
pub use Rattle.std.proofs.lemmas.List.Folds.{list_all-append, list_all-map, list_all_at, list_all_more}
pub use Rattle.std.proofs.lemmas.List.FromFn.{fill_by_all}
pub use Rattle.std.proofs.lemmas.List.Splits.{slice_split_at, slice_split_first, slice_split_none}
pub use Rattle.std.proofs.lemmas.List.Sums.{AllPass-from_list_all, fails_before_first, list_all-from_AllPass, passes_at_first}
pub use Rattle.std.proofs.lemmas.Nat.{le_bytes_4}
pub use Rattle.std.proofs.lemmas.Simd.{bitmask_splat, get_or-chunk, length-chunk, splat_is_map, zip2_of_maps, zip2_splat, zip2_splat_left}
pub use Rattle.std.proofs.lemmas.Slice.Eq.{bytes_eq-Decides}
pub use Rattle.std.proofs.lemmas.Str.Parse.{digits_value-take-le, IsNumeralModel, numerals_by_value}
pub use Rattle.std.specs.Char.{digit_value, is_ascii_digit, is_ascii_hexdigit}
pub use Rattle.std.specs.Int.{from_le_bytes, to_le_bytes, w32, w64}
pub use Rattle.std.specs.List.{after_first, before_first, list_all, position_or_len, range_with_len}
pub use Rattle.std.specs.Option.{is_some}
pub use Rattle.std.specs.Result.{is_ok}
pub use Rattle.std.specs.Prelude.{bytes_eq, codes, decimal, IfErr, IfNone, IfOk, IfSome, position, slice_index}
pub use Rattle.std.specs.Str.Parse.{digits_value}
pub use borrow.Rule.Simd.Lanes.{act2}
pub use borrow.Table.Row.{s_int}
pub use lib.Lanes.{Each1, mask_l, sel_l, top, zip2}
pub use mir.Syntax.{bit_and, lt, mask, unsigned, wrap_add, wrap_sub}
