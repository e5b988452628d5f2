-- What is found at a page, and the pages of the rows merged into a dup, after a change of one row.
use Rattle.ksm_tree.proofs.Names.{[], All, AreCounted, AreTied, arith, Bool, change_row, comes_before, Dup, DupRow, false, filter, filter-append, filter_passes, find_passes, found_parts, GuestPage}
use Rattle.ksm_tree.proofs.Names.{if◌then◌else◌, InPageOrder, items_of, length-filter, length-map, List, map, map-append, merged_into, not, option_map, pages_ordered, refl, Row, row_at, same_page}
use Rattle.ksm_tree.proofs.Names.{Some, suc, true, with_item, without_item, without_page, ◌++◌, ◌∷◌, ◌≡◌}
use Rattle.ksm_tree.proofs.Alike.{change_none, chosen}

-- a write of the row of one page, as a look-up at a page finds it
pub at_written : (row : Row) (q : GuestPage) (rows : List Row) → row_at q (change_row row.page (λ _. row) rows) ≡ (if same_page row.page q then option_map (λ _. row) (row_at q rows) else row_at q rows)
at_written row q [] = grind arith
at_written row q (r ∷ rs) = grind (arith, at_written row q rs)

abbrev pub page_of : Row → GuestPage
page_of r = r.page

module _ (page : GuestPage) where
  -- a row whose page comes before the page
  abbrev pub ahead : Row → Bool
  ahead r = comes_before r.page page

  -- a row whose page comes after the page
  abbrev pub behind : Row → Bool
  behind r = comes_before page r.page

  -- in order, a change of a page's row splits the list there
  change_splits : (new r : Row) (rows : List Row) → InPageOrder rows → row_at page rows ≡ Some r → change_row page (λ _. new) rows ≡ filter ahead rows ++ new ∷ filter behind rows
  change_splits new r rows rise found =
      let kept = change_none (λ s. same_page s.page page) (λ _. new) in
      let low = kept (filter ahead rows) (λ k d lt. grind (arith, pages_ordered.apart, filter_passes ahead rows k d lt)) in
      let high = kept (filter behind rows) (λ k d lt. grind (arith, pages_ordered.apart_back, filter_passes behind rows k d lt)) in
      let parts = found_parts pages_ordered page_of page rows r rise found in
      grind (arith, map-append, find_passes (λ s. same_page s.page page) rows)

module _ (rows : List Row) (d : DupRow) (page : GuestPage) where
  abbrev merged : Row → Bool
  merged r = merged_into d.number r.state

  -- the items of a dup are without the page once the page's row is gone
  pub items_dropped : items_of (without_page page rows) d ≡ without_item page (items_of rows d)
  items_dropped = chosen page_of merged (λ p. not (same_page p page)) rows

  -- the items of a dup have the page once the page's row is merged into it
  pub items_joined : InPageOrder rows → (new : Row) {r : Row} → new.page ≡ page → row_at page rows ≡ Some r → merged new ≡ true → items_of (change_row page (λ _. new) rows) d ≡ with_item page (items_of rows d)
  items_joined rise new {r} at there passes = grind (arith, change_splits page new r rows rise there, filter-append, map-append, chosen page_of merged)

-- the items of a dup are without the page once the page's row is not merged into it
pub items_left : (rows : List Row) (d : DupRow) (page : GuestPage) (new : Row) → merged_into d.number new.state ≡ false → items_of (change_row page (λ _. new) rows) d ≡ without_item page (items_of rows d)
items_left [] d page new fails = refl
items_left (r ∷ rows) d page new fails = grind (arith, items_left rows d page new)

-- the items of a dup stay where each row changes but for its page and its dup
pub items_kept : (rows : List Row) (d : DupRow) (f : Row → Row) → All (λ r. ((f r).page ≡ r.page) × (merged_into d.number (f r).state ≡ merged_into d.number r.state)) rows → items_of (map f rows) d ≡ items_of rows d
items_kept [] d f same = refl
items_kept (r ∷ rows) d f same = grind (arith, same 0 r, items_kept rows d f (λ k e lt. same (suc k) e (omega arith)))

-- where each dup's items are the pages of the rows merged into the dup, there are as many items as such rows
pub tied_counted : (rows : List Row) (dups : List Dup) → AreTied rows dups → AreCounted rows dups
tied_counted rows dups tied k d lt = grind (arith, length-map, length-filter)
