-- The items of each dup stay the pages of the rows merged into it: the dups after a change of one row, and after a change of all.
use Rattle.ksm_tree.proofs.Names.{[], absent_kept, absent_parts, All, All-append, All-cons, All-filter, All-map, ap, AreTied, arith, change_items, change_row, Dup, dup_of, DupRow, each_at_page}
use Rattle.ksm_tree.proofs.Names.{eqb-true, false, filter-append, filter_none, find_all, find_passes, get_or, GuestPage, has_item, if◌then◌else◌, InPageOrder, item_count, items_in, items_of, length}
use Rattle.ksm_tree.proofs.Names.{let_out, List, map, map-append, Merged, merged_into, merged_state, None, none_found, Option, ordered_map, pages_ordered, PageState, refl, Row, row_at, rows_of}
use Rattle.ksm_tree.proofs.Names.{same_page, Some, suc, sym, true, with_item, with_new, with_row, without_item, without_page, without_place, ℕ, ◌<◌, ◌==◌, ◌∙◌, ◌∷◌, ◌≡◌}
use Rattle.ksm_tree.specs.Dups.{items_of as items_numbered}
use Rattle.ksm_tree.proofs.Changes.{all_rows}
use Rattle.ksm_tree.proofs.Tied.{at_written, items_dropped, items_joined, items_kept, items_left, page_of, tied_counted}

abbrev IsTied : List Row → Dup → Type 0
IsTied rows d = d.items ≡ items_of rows d.row

-- a page whose rows are no items of a dup is no item of it
no_item : (page : GuestPage) (d : DupRow) (rows : List Row) → All (λ r. same_page r.page page ≡ true → merged_into d.number r.state ≡ false) rows → has_item page (items_of rows d) ≡ false
no_item page d [] none = refl
no_item page d (r ∷ rows) none = grind (arith, none 0 r, no_item page d rows (λ k e lt. none (suc k) e (omega arith)))

module _ (rows : List Row) (page : GuestPage) (old : Row) (rise : InPageOrder rows) (found : row_at page rows ≡ Some old) where
  -- a page is an item of no dup but that of its row
  not_item : (d : DupRow) → merged_into d.number old.state ≡ false → has_item page (items_of rows d) ≡ false
  not_item d fails = grind (arith, no_item, each_at_page, pages_ordered.same_eq)

  unlike : (d : DupRow) → merged_into d.number old.state ≡ false → items_of rows d ≡ without_item page (items_of rows d)
  unlike d fails = absent_kept pages_ordered _ page _ (none_found _ (items_of rows d) (not_item d fails))

  -- where the page is no item any more
  out_of : (state : PageState) → old.state ≡ state → (new : List Row) (dups : List Dup) → ((d : DupRow) → items_of new d ≡ without_item page (items_of rows d)) → AreTied rows dups → AreTied new (let_out state page dups)
  out_of (Merged n) is new dups less tied = All-map (IsTied new) _ dups (λ k e lt. grind (arith, unlike))
  out_of state is new dups less tied = λ k d lt. grind (arith, unlike)

  -- rows and dups stay tied where a row goes and its page leaves its dup
  pub tied_dropped : (dups : List Dup) → AreTied rows dups → AreTied (without_page page rows) (let_out old.state page dups)
  tied_dropped dups tied = search (out_of, items_dropped)

  -- rows and dups stay tied where a row becomes one that is not merged and its page leaves its dup
  pub tied_left : (row : Row) (dups : List Dup) → merged_state row.state ≡ false → AreTied rows dups → AreTied (change_row page (λ _. row) rows) (let_out old.state page dups)
  tied_left row dups alone tied =
      out_of _ refl (change_row page (λ _. row) rows) _ (λ d. grind (arith, items_left rows d page row)) tied

  -- rows and dups stay tied where a row that was not merged is merged, and its page becomes an item
  pub tied_joined : (row : Row) (number : ℕ) (dups : List Dup) → merged_state old.state ≡ false → row.page ≡ page → row.state ≡ Merged number → AreTied rows dups → AreTied (change_row page (λ _. row) rows) (change_items number (with_item page) dups)
  tied_joined row number dups alone at is tied = All-map (IsTied (change_row page (λ _. row) rows)) _ dups
      (λ k e lt. grind (arith, unlike, items_joined, items_left))

  -- a page whose row is not merged is an item of no dup
  pub tied_absent : (number : ℕ) (dups : List Dup) → merged_state old.state ≡ false → AreTied rows dups → has_item page (items_numbered number dups) ≡ false
  tied_absent number dups alone tied = by (dup_of number dups) refl
    where
      by : (o : Option Dup) → dup_of number dups ≡ o → has_item page (items_in o) ≡ false
      by None is = refl
      by (Some d) is = grind (arith, find_all _ (IsTied rows) _ d is tied, not_item)

-- a dup with a number has as many items as there are rows merged into it
pub tied_count : (rows : List Row) (dups : List Dup) (number : ℕ) (d : Dup) → AreTied rows dups → dup_of number dups ≡ Some d → length (items_numbered number dups) ≡ item_count rows d.row
tied_count rows dups number d tied found =
    grind (arith, find_all _ (λ e. length e.items ≡ item_count rows e.row) dups d found (tied_counted rows _ tied))

-- a dup found by a number has that number
pub number_found : (number : ℕ) (dups : List Dup) (d : Dup) → dup_of number dups ≡ Some d → d.row.number ≡ number
number_found number dups d found = search (eqb-true, find_passes)

-- two pages make a dup with a new number
module _ (rows : List Row) (first second : Row) (row : DupRow) (rise : InPageOrder rows) (found : row_at first.page rows ≡ Some first) (also : row_at second.page rows ≡ Some second)
    (alone : merged_state first.state ≡ false) (alone_too : merged_state second.state ≡ false) (none : All (λ r. merged_into row.number r.state ≡ false) rows) where
  abbrev first_in : Row
  first_in = record first { state = Merged row.number }

  abbrev second_in : Row
  second_in = record second { state = Merged row.number }

  abbrev half : List Row
  half = change_row first.page (λ _. first_in) rows

  abbrev whole : List Row
  whole = change_row second.page (λ _. second_in) half

  -- the items of another dup
  others : (d : DupRow) → (row.number == d.number) ≡ false → items_of whole d ≡ items_of rows d
  others d fails =
      grind (arith, items_left half d second.page second_in, unlike rows first.page first rise found d, unlike rows second.page second rise also d, items_left rows d first.page first_in)

  -- the items of the new dup are the two pages
  both_in : items_of whole row ≡ with_item second.page (first.page ∷ [])
  both_in =
      let rises : InPageOrder half = ordered_map _ _ (λ r. grind arith) rise in
      let joined = items_joined half row second.page rises second_in {r = if same_page first.page second.page then first_in else second} refl (grind (arith, at_written first_in second.page rows)) in
      grind (arith, joined, filter_none (λ r. merged_into row.number r.state) rows none, items_joined rows row first.page rise first_in refl found)

  -- rows and dups stay tied where two pages make a dup whose number is above all others
  pub tied_made : (dups : List Dup) → All (λ r. r.number < row.number) (rows_of dups) → AreTied rows dups → AreTied whole (with_new (record { row = row; items = with_item second.page (first.page ∷ []) }) dups)
  tied_made dups fresh tied =
      let each : All (IsTied whole) dups = λ k e lt. grind (arith, others, all_rows (λ r. r.number < row.number) dups fresh k e lt) in
      All-append (IsTied whole) _ _ (All-filter _ (IsTied whole) dups each)
      (All-cons (IsTied whole) _ _ (sym both_in) (All-filter _ (IsTied whole) dups each))

-- rows and dups stay tied where a row that is not merged comes
pub tied_inserted : (rows : List Row) (row : Row) (dups : List Dup) → InPageOrder rows → row_at row.page rows ≡ None → merged_state row.state ≡ false → AreTied rows dups → AreTied (with_row row rows) dups
tied_inserted rows row dups rise absent alone tied k d lt =
    let parts = absent_parts pages_ordered page_of row.page rows rise absent in
    tied k d lt ∙ ap (λ rs. items_of rs (get_or dups k d).row) parts ∙ grind (arith, filter-append, map-append)

-- rows and dups stay tied where each row changes but for its page and its dup
pub tied_mapped : (f : Row → Row) (rows : List Row) (dups : List Dup) → All (λ r. ((f r).page ≡ r.page) × ((number : ℕ) → merged_into number (f r).state ≡ merged_into number r.state)) rows → AreTied rows dups → AreTied (map f rows) dups
tied_mapped f rows dups same tied k d lt = grind (arith, items_kept)

-- rows and dups stay tied where a dup goes
pub tied_pruned : (rows : List Row) (dups : List Dup) (place : ℕ) → AreTied rows dups → AreTied rows (without_place place dups)
tied_pruned rows dups place tied = All-filter _ (IsTied rows) _ tied
