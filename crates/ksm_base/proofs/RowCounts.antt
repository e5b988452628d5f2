-- What an edit of one row does to a count, exactly.
use Rattle.std.proofs.Common.{◌≡◌, ℕ, suc, ◌+◌, Bool, true, false, List, [], ◌∷◌, get_or, Some, None, inl, inr, refl, arith}
use Rattle.std.specs.Prelude.{All, filter, count_by, not, if◌then◌else◌}
use Rattle.std.proofs.lemmas.Bool.{cases_Bool}
use Rattle.std.proofs.lemmas.List.Elements.{All-cons, All-tail}
use Rattle.ksm_base.specs.declared.page.GuestPage.{GuestPage}
use Rattle.ksm_base.specs.declared.row.Row.{Row}
use Rattle.ksm_base.specs.Rows.{comes_before, same_page, InPageOrder, row_at, with_row, without_page, change_rows, change_row}
use Rattle.ksm_base.proofs.Pages.{same_page_refl, apart_second, after_differs, not_both, one_before}
use Rattle.ksm_base.proofs.Edits.{find_none, count_more, count-append}
use Rattle.ksm_base.proofs.Orders.{pairs_tail}

-- where no row passes the test, a change of those that pass leaves the rows as they are
pub change_none : (test : Row → Bool) (f : Row → Row) (rows : List Row) → All (λ r. test r ≡ false) rows
    → change_rows test f rows ≡ rows
change_none test f [] none = refl
change_none test f (r ∷ rs) none =
    grind (arith, none 0 r, change_none test f rs (All-tail (λ s. test s ≡ false) r rs none))

-- a filter that all members pass keeps the list
pub filter_all : {X : Type 0} (p : X → Bool) (xs : List X) → All (λ x. p x ≡ true) xs → filter p xs ≡ xs
filter_all p [] all = refl
filter_all p (x ∷ xs) all = grind (arith, all 0 x, filter_all p xs (All-tail (λ y. p y ≡ true) x xs all))

abbrev Before : Row → Row → Type 0
Before r s = comes_before r.page s.page ≡ true

abbrev one_if : Bool → ℕ
one_if test = if test then 1 else 0

module _ (p : Row → Bool) where
  -- a change of a page's row changes a count by what the old row and the new one count
  pub count_change_row : (page : GuestPage) (f : Row → Row) (rows : List Row) (row : Row) → InPageOrder rows
      → row_at page rows ≡ Some row
      → count_by p (change_row page f rows) + one_if (p row) ≡ count_by p rows + one_if (p (f row))
  count_change_row page f [] row rise found = cc
  count_change_row page f (r ∷ rs) row rise found =
      let of_page : Row → Bool = λ s. same_page s.page page in
      let before = count_more p r rs in
      let after = count_more p (if of_page r then f r else r) (change_row page f rs) in
      let rest = count_change_row page f rs row (pairs_tail Before r rs rise) in
      elim (cases_Bool (of_page r)) [
        | inl same ↦ grind (arith, change_none of_page f rs (λ k e lt. grind (arith, apart_second r.page (get_or rs k e).page page, rise 0 (suc k) e)))
        | inr other ↦ grind arith
      ]

  -- where a page's row goes, the count is less by what that row counted
  pub count_without_page : (page : GuestPage) (rows : List Row) (row : Row) → InPageOrder rows
      → row_at page rows ≡ Some row
      → count_by p (without_page page rows) + one_if (p row) ≡ count_by p rows
  count_without_page page [] row rise found = cc
  count_without_page page (r ∷ rs) row rise found =
      let of_page : Row → Bool = λ s. same_page s.page page in
      let rest = count_without_page page rs row (pairs_tail Before r rs rise) in
      elim (cases_Bool (of_page r)) [
        | inl same ↦ grind (arith, count_more, filter_all (λ s. not (of_page s)) rs (λ k e lt. grind (arith, apart_second r.page (get_or rs k e).page page, rise 0 (suc k) e)))
        | inr other ↦ grind (arith, count_more)
      ]

  count_filters : (q s : Row → Bool) (rows : List Row) → All (λ r. s r ≡ not (q r)) rows
      → count_by p (filter q rows) + count_by p (filter s rows) ≡ count_by p rows
  count_filters q s [] other = refl
  count_filters q s (r ∷ rs) other =
      grind (arith, count_more, other 0 r, count_filters q s rs (All-tail (λ x. s x ≡ not (q x)) r rs other))

  -- where a page that had no row gets one, the count is more by what that row counts
  pub count_with_row : (row : Row) (rows : List Row) → row_at row.page rows ≡ None
      → count_by p (with_row row rows) ≡ count_by p rows + one_if (p row)
  count_with_row row rows absent =
      let first : Row → Bool = λ r. comes_before r.page row.page in
      let last : Row → Bool = λ r. comes_before row.page r.page in
      let none = find_none (λ r. same_page r.page row.page) rows absent in
      let both = count_filters first last rows (λ k d lt. grind (arith, none k d lt, not_both, one_before (get_or rows k d).page row.page)) in
      grind (arith, count-append p (filter first rows) (row ∷ filter last rows), count_more p row (filter last rows))

-- in order, each row is the one of its page
pub each_at_page : (rows : List Row) → InPageOrder rows → All (λ r. row_at r.page rows ≡ Some r) rows
each_at_page [] rise = λ k d lt. absurd (omega arith)
each_at_page (r ∷ rs) rise =
    let rest = each_at_page rs (pairs_tail Before r rs rise) in
    All-cons (λ s. row_at s.page (r ∷ rs) ≡ Some s) r rs (grind (arith, same_page_refl))
    (λ k e lt. grind (arith, after_differs r.page (get_or rs k e).page, rise 0 (suc k) e, rest k e lt))
