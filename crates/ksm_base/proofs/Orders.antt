-- The order of rows and of dups is kept by each edit.
use Rattle.std.proofs.Common.{length, ◌+◌, ◌≡◌, ℕ, suc, ◌<◌, ◌≤◌, Bool, true, false, List, [], ◌∷◌, ◌++◌, get_or, map, Some, inl, inr, refl, arith}
use Rattle.std.specs.Prelude.{◌==◌, nat_lt, All, AllPairs, filter, count_by, not, if◌then◌else◌}
use Rattle.std.proofs.lemmas.Bool.{cases_Bool, cases_lt}
use Rattle.std.proofs.lemmas.Bool.Decides.{nat_tests}
use Rattle.std.proofs.lemmas.List.{get_or-append-add, get_or-map, get_or_append_left, get_or_default, length-append, length-map}
use Rattle.std.proofs.lemmas.List.Elements.{All-head, All-tail, All-append, All-weaker, All-cons, All-filter, filter_passes}
use Rattle.std.proofs.lemmas.List.Kept.{AllPairs-cons, AllPairs-filter}
use Rattle.ksm_base.specs.declared.page.GuestPage.{GuestPage}
use Rattle.ksm_base.specs.declared.row.Row.{Row}
use Rattle.ksm_base.specs.declared.row.DupRow.{DupRow}
use Rattle.ksm_base.specs.Rows.{comes_before, same_page, InPlaceOrder, InPageOrder, with_dup, with_row, without_page, change_rows, dup_numbered}
use Rattle.ksm_base.proofs.Pages.{apart_second, before_trans, before_differs, after_differs}
use Rattle.ksm_base.proofs.Edits.{count_more, count_none}

-- where all pairs of a list are related, its first is related to all behind it
pub pairs_head : {X : Type 0} (R : X → X → Type 0) (x : X) (xs : List X) → AllPairs R (x ∷ xs) → All (R x) xs
pairs_head R x xs pairs k d lt = pairs 0 (suc k) d (omega arith) (omega arith)

-- where all pairs of a list are related, so are those behind the first
pub pairs_tail : {X : Type 0} (R : X → X → Type 0) (x : X) (xs : List X) → AllPairs R (x ∷ xs) → AllPairs R xs
pairs_tail R x xs pairs i j d lt in_range = pairs (suc i) (suc j) d (omega arith) (omega arith)

-- two lists in order make one in order where each element of the first comes before each of the second
pub pairs_append : {X : Type 0} (R : X → X → Type 0) (xs ys : List X) → AllPairs R xs → AllPairs R ys
    → All (λ x. All (R x) ys) xs
    → AllPairs R (xs ++ ys)
pairs_append R [] ys first second cross = second
pairs_append R (x ∷ xs) ys first second cross =
    AllPairs-cons R x (xs ++ ys) (All-append (R x) xs ys (pairs_head R x xs first) (All-head (λ y. All (R y) ys) x xs cross))
    (pairs_append R xs ys (pairs_tail R x xs first) second (All-tail (λ y. All (R y) ys) x xs cross))

-- an element put between those of a list in order that come before it and those that come behind it leaves a list in order
pub pairs_with : {X : Type 0} (R : X → X → Type 0) (p q : X → Bool) (x : X) (xs : List X) → AllPairs R xs
    → All (λ y. R y x) (filter p xs)
    → All (R x) (filter q xs) → All (λ y. All (R y) (filter q xs)) (filter p xs) → AllPairs R (filter p xs ++ x ∷ filter q xs)
pairs_with R p q x xs rise ahead behind cross =
    pairs_append R (filter p xs) (x ∷ filter q xs) (AllPairs-filter R p xs rise) (AllPairs-cons R x (filter q xs) behind (AllPairs-filter R q xs rise))
    (λ k d lt. All-cons (R (get_or (filter p xs) k d)) x (filter q xs) (ahead k d lt) (cross k d lt))

-- where all pairs of two lists in a row are related, each of the first is related to each of the second
pub pairs_cross : {X : Type 0} (R : X → X → Type 0) (xs ys : List X) → AllPairs R (xs ++ ys)
    → All (λ x. All (R x) ys) xs
pairs_cross R xs ys h i d lt j e le =
    grind (arith, h i (length xs + j) d, get_or_append_left xs ys d i, get_or-append-add xs ys j d, get_or_default ys j e d, length-append xs ys)

-- a filter that no element passes leaves nothing
pub filter_none : {X : Type 0} (p : X → Bool) (xs : List X) → All (λ x. p x ≡ false) xs → filter p xs ≡ []
filter_none p [] none = refl
filter_none p (x ∷ xs) none = grind (arith, none 0 x, filter_none p xs (All-tail (λ y. p y ≡ false) x xs none))

abbrev Before : Row → Row → Type 0
Before r s = comes_before r.page s.page ≡ true

-- a change that keeps the page of each row keeps the order
pub ordered_map : (f : Row → Row) (rows : List Row) → ((r : Row) → (f r).page ≡ r.page) → InPageOrder rows
    → InPageOrder (map f rows)
ordered_map f rows keeps rise i j d lt in_range =
    grind (arith, rise i j d, get_or-map f rows i d d, get_or-map f rows j d d, length-map rows f)

-- rows stay in the order of their pages where a change keeps each row's page
pub ordered_change : (test : Row → Bool) (f : Row → Row) (rows : List Row) → ((r : Row) → (f r).page ≡ r.page)
    → InPageOrder rows
    → InPageOrder (change_rows test f rows)
ordered_change test f rows keeps rise =
    ordered_map (λ r. if test r then f r else r) rows (λ r. grind (arith, keeps r)) rise

-- rows stay in order where a page's row goes
pub ordered_without : (page : GuestPage) (rows : List Row) → InPageOrder rows → InPageOrder (without_page page rows)
ordered_without page rows rise = AllPairs-filter Before (λ r. not (same_page r.page page)) rows rise

-- a row at its place keeps the order
pub ordered_with : (row : Row) (rows : List Row) → InPageOrder rows → InPageOrder (with_row row rows)
ordered_with row rows rise =
    let first : Row → Bool = λ r. comes_before r.page row.page in
    let last : Row → Bool = λ r. comes_before row.page r.page in
    let behind : All (Before row) (filter last rows) = filter_passes last rows in
    pairs_with Before first last row rows rise (filter_passes first rows) behind
    (λ k d lt. let x = get_or (filter first rows) k d in
    All-weaker (Before row) (Before x) (λ s later. before_trans x.page row.page s.page (filter_passes first rows k d lt) later) (filter last rows) behind)

-- where none of two in order is the same as the other, those that are the same are one
pub one_of_each : {X : Type 0} (R : X → X → Type 0) (same : X → X → Bool) (xs : List X)
    → ((x y : X) → R x y → same x y ≡ false)
    → ((x y : X) → R x y → same y x ≡ false) → AllPairs R xs → All (λ x. All (λ y. same y x ≡ true → y ≡ x) xs) xs
one_of_each R same xs first last rise k d lt j e lt_e is_same =
    grind (arith, first (get_or xs j d), last (get_or xs k d), rise j k d, rise k j d, get_or_default xs j e d)

-- in order, rows of one page are one row
pub one_of_each_page : (rows : List Row) → InPageOrder rows
    → All (λ r. All (λ s. same_page s.page r.page ≡ true → s ≡ r) rows) rows
one_of_each_page rows rise =
    one_of_each Before (λ r s. same_page r.page s.page) rows (λ r s h. after_differs r.page s.page h) (λ r s h. before_differs r.page s.page h) rise

-- in order, at most one row is of a page
pub one_of_page : (page : GuestPage) (rows : List Row) → InPageOrder rows
    → count_by (λ r. same_page r.page page) rows ≤ 1
one_of_page page [] rise = omega arith
one_of_page page (r ∷ rs) rise =
    let of_page : Row → Bool = λ s. same_page s.page page in
    let rest = one_of_page page rs (pairs_tail Before r rs rise) in
    elim (cases_Bool (of_page r)) [
      | inl same ↦ grind (arith, count_more of_page r rs, count_none of_page rs (λ k e lt. grind (arith, apart_second r.page, rise 0 (suc k) e)))
      | inr other ↦ grind (arith, count_more of_page r rs)
    ]

-- one dup's place is below the other's, and their numbers differ
abbrev pub Lower : DupRow → DupRow → Type 0
Lower d e = (d.place < e.place) × ((d.number == e.number) ≡ false)

-- dups stay in the order of their places where some are left out
pub ordered_filter : (p : DupRow → Bool) (dups : List DupRow) → InPlaceOrder dups → InPlaceOrder (filter p dups)
ordered_filter p dups rise = AllPairs-filter Lower p dups rise

-- dups below a place, above it, and apart from it
module _ (place : ℕ) where
  -- a dup below the place
  abbrev pub below : DupRow → Bool
  below d = nat_lt d.place place

  -- a dup above the place
  abbrev pub above : DupRow → Bool
  above d = nat_lt place d.place

  -- a dup that does not stand at the place
  abbrev pub elsewhere : DupRow → Bool
  elsewhere d = not (d.place == place)

  -- in the order of places, the dups at other places are those below the place, then those above it
  pub dups_parted : (ds : List DupRow) → InPlaceOrder ds → filter elsewhere ds ≡ filter below ds ++ filter above ds
  dups_parted [] rise = refl
  dups_parted (d ∷ ds) rise =
      let rest = dups_parted ds (pairs_tail Lower d ds rise) in
      elim (cases_lt place d.place) [
        | inl greater ↦ grind (arith, nat_tests, filter_none below ds (λ k e lt. grind (arith, nat_tests, rise 0 (suc k) e)))
        | inr no_greater ↦ grind (arith, nat_tests)
      ]

-- a dup with a new number, at its place, keeps the order
pub dups_with : (dup : DupRow) (ds : List DupRow) → InPlaceOrder ds → All (λ d. d.number < dup.number) ds
    → InPlaceOrder (with_dup dup ds)
dups_with dup ds rise fresh =
    let F : DupRow → Type 0 = λ d. d.number < dup.number in
    let lower = filter (below dup.place) ds in
    let higher = filter (above dup.place) ds in
    let fresh_lower = All-filter (below dup.place) F ds fresh in
    let fresh_higher = All-filter (above dup.place) F ds fresh in
    pairs_with Lower (below dup.place) (above dup.place) dup ds rise
    (λ k d lt. grind (arith, nat_tests, filter_passes (below dup.place) ds k d lt, fresh_lower k d lt))
    (λ k d lt. grind (arith, nat_tests, filter_passes (above dup.place) ds k d lt, fresh_higher k d lt))
    (pairs_cross Lower lower higher (rw (← dups_parted dup.place ds rise) (AllPairs-filter Lower (elsewhere dup.place) ds rise)))

-- what holds of a new dup and of the others holds once the dup is among them
pub all_with_dup : (P : DupRow → Type 0) (dup : DupRow) (ds : List DupRow) → P dup → All P ds → All P (with_dup dup ds)
all_with_dup P dup ds here all =
    All-append P (filter (below dup.place) ds) (dup ∷ filter (above dup.place) ds) (All-filter (below dup.place) P ds all)
    (All-cons P dup (filter (above dup.place) ds) here (All-filter (above dup.place) P ds all))

-- what holds of a new row and of the others holds once the row is among them
pub all_with_row : (P : Row → Type 0) (row : Row) (rows : List Row) → P row → All P rows → All P (with_row row rows)
all_with_row P row rows here all =
    let first : Row → Bool = λ r. comes_before r.page row.page in
    let last : Row → Bool = λ r. comes_before row.page r.page in
    All-append P (filter first rows) (row ∷ filter last rows) (All-filter first P rows all) (All-cons P row (filter last rows) here (All-filter last P rows all))

-- in order, dups of one place are one dup
pub one_of_each_place : (dups : List DupRow) → InPlaceOrder dups
    → All (λ d. All (λ e. (e.place == d.place) ≡ true → e ≡ d) dups) dups
one_of_each_place dups rise =
    one_of_each Lower (λ d e. d.place == e.place) dups (λ d e h. grind (arith, nat_tests)) (λ d e h. grind (arith, nat_tests)) rise

-- in order, each dup is the one with its number
pub each_has_number : (dups : List DupRow) → InPlaceOrder dups → All (λ d. dup_numbered d.number dups ≡ Some d) dups
each_has_number [] rise = λ k d lt. absurd (omega arith)
each_has_number (d ∷ ds) rise =
    let rest = each_has_number ds (pairs_tail Lower d ds rise) in
    All-cons (λ e. dup_numbered e.number (d ∷ ds) ≡ Some e) d ds (grind (arith, nat_tests)) (λ k e lt. grind (arith, rise 0 (suc k) e, rest k e lt))
