-- Pages in order: the parts of a list before and behind a page, and rows changed one after another up to a cursor.
use Rattle.ksm_book.proofs.Names.{after_cursor, All, All-filter, All-head, any-filter_same, ap, AreAscending, arith, before_irrefl, Bool, cases_Bool, change_none, change_row, change_rows}
use Rattle.ksm_book.proofs.Names.{comes_before, Contains-from_any, each_at_page, false, filter, filter_all, filter_mapped, filter_none, find, find_all, find_mapped, find_none, find_passes}
use Rattle.ksm_book.proofs.Names.{found_first, get_or, get_or_from_slice_get, GuestPage, has_item, if◌then◌else◌, inl, InPageOrder, inr, is_before, is_next, List, map-id, map_alike, map_mapped}
use Rattle.ksm_book.proofs.Names.{mapped_some, min, None, none_mapped, not, not_both, one_before, Option, option_map, pairs_head, pairs_tail, Row, row_at, same_page, same_page_eq, same_page_refl, slice_get}
use Rattle.ksm_book.proofs.Names.{slice_get-get_or, slice_get_within, Some, subst, suc, sym, take, true, zero, [], ℕ, ⊤, ◌&&◌, ◌*◌, ◌++◌, ◌+◌, ◌<◌, ◌∙◌, ◌∷◌, ◌≡◌, ◌≤◌}
use Rattle.ksm_book.proofs.ByPage.{row_of_page}

-- the first page comes before the second
abbrev pub Before : GuestPage → GuestPage → Type 0
Before p q = comes_before p q ≡ true

-- what comes behind a page that is behind the cursor is behind the cursor
pub after_later : (cursor : Option GuestPage) (p q : GuestPage) → after_cursor cursor p ≡ true → comes_before p q ≡ true
    → after_cursor cursor q ≡ true
after_later cursor p q is later = grind arith

-- where a page and others are those behind a cursor in an ascending list, the others are those behind that page
pub behind_first : (cursor : Option GuestPage) (pages : List GuestPage) (page : GuestPage) (more : List GuestPage) → AreAscending pages
    → filter (after_cursor cursor) pages ≡ page ∷ more → filter (after_cursor (Some page)) pages ≡ more
behind_first cursor [] page more rise is = cc
behind_first cursor (p ∷ pages) page more rise is =
    let behind = pairs_head Before p _ rise in
    elim (cases_Bool (after_cursor cursor p)) [
      | inl here ↦ grind (arith, filter_all, after_later)
      | inr before ↦
          let found = sym (grind arith) ∙ is in
          let later = All-head (Before p) page _ (subst (All (Before p)) found (All-filter _ (Before p) _ behind)) in
          rw (not_both p page later) (behind_first cursor pages page more (pairs_tail Before p _ rise) found)
    ]

-- in an ascending list the pages before the one at index n are the first n, those not behind it the first n + 1
pub place_splits : (pages : List GuestPage) (n : ℕ) (page : GuestPage) → AreAscending pages → slice_get pages n ≡ Some page
    → (filter (λ p. comes_before p page) pages ≡ take n pages) × (filter (λ p. not (comes_before page p)) pages ≡ take (suc n) pages)
place_splits [] n page rise at = cc
place_splits (p ∷ pages) zero page rise at = grind (arith, filter_none, pairs_head Before p pages rise)
place_splits (p ∷ pages) (suc n) page rise at =
    let first = pairs_head Before p pages rise n page (slice_get_within _ n _ at) in
    grind (arith, place_splits pages n page (pairs_tail Before p _ rise) at, get_or_from_slice_get pages n page page at, not_both)

-- a page that a list has stands at an index of the list
pub place_of : (page : GuestPage) (pages : List GuestPage) → has_item page pages ≡ true → (n : ℕ) × (slice_get pages n ≡ Some page)
place_of page pages has =
    let there = Contains-from_any {eq = λ q p. same_page p q} (λ x y e. sym (same_page_eq y x e)) _ _ has in
    (there.0, slice_get-get_or _ _ _ there.1 ∙ ap Some there.2)

-- a page that stands at an index of a list is in the list
pub has_at : (pages : List GuestPage) (n : ℕ) (page : GuestPage) → slice_get pages n ≡ Some page → has_item page pages ≡ true
has_at [] n page at = cc
has_at (q ∷ pages) zero page at = grind (arith, same_page_refl)
has_at (q ∷ pages) (suc n) page at = grind (arith, has_at pages n page)

-- a filtered list has a page exactly where the list has it and the page passes the test
pub has_filter : (t : GuestPage → Bool) (x : GuestPage) (pages : List GuestPage) → has_item x (filter t pages) ≡ (t x && has_item x pages)
has_filter t x pages = grind (arith, any-filter_same)

-- a row that is asked for, and not behind the cursor
abbrev pub passed : (Row → Bool) → Option GuestPage → Row → Bool
passed asked last r = asked r && not (after_cursor last r.page)

-- such rows are changed
abbrev pub along : (Row → Bool) → (Row → Row) → Option GuestPage → List Row → List Row
along asked f last rows = change_rows (passed asked last) f rows

abbrev next_of : (Row → Bool) → Option GuestPage → Row → Bool
next_of asked last r = asked r && after_cursor last r.page

-- where a cursor stood before the next row that is asked for, the rows that pass a test more strict are those it had passed, then
-- that row, then others
pub parted : (asked test : Row → Bool) → ((r : Row) → test r ≡ true → asked r ≡ true) → (last : Option GuestPage) (rows : List Row) (row : Row)
    → InPageOrder rows → find (next_of asked last) rows ≡ Some row
    → (rest : List Row) × (filter (passed test (Some row.page)) rows ≡ filter (passed test last) rows ++ filter test (row ∷ []))
    × (filter test rows ≡ filter (passed test last) rows ++ (filter test (row ∷ []) ++ rest))
parted asked test stricter last [] row rise found = cc
parted asked test stricter last (r ∷ rows) row rise found =
    let later = pairs_head (λ (x y : Row). comes_before x.page y.page ≡ true) r rows rise in
    elim (cases_Bool (next_of asked last r)) [
      | inl here ↦
          let is : r ≡ row = grind arith in
          let none = filter_none (passed test last) rows (λ k d lt. grind (arith, later k d lt, after_later last r.page (get_or rows k d).page)) in
          let none_then = filter_none (passed test (Some r.page)) rows (λ k d lt. grind (arith, later k d lt)) in
          (filter test rows, grind (arith, before_irrefl), grind arith)
      | inr other ↦
          let before = find_all (next_of asked last) (λ x. comes_before r.page x.page ≡ true) rows row (grind arith) later in
          let more = parted asked test stricter last rows row (pairs_tail (λ (x y : Row). comes_before x.page y.page ≡ true) r rows rise) (grind arith) in
          (more.0, grind (arith, stricter r, not_both), grind (arith, stricter r))
    ]

-- the rows asked for are changed up to a cursor
pub record IsAlong (asked : Row → Bool) (f : Row → Row) (rows now : List Row) (last : Option GuestPage) : Type 0 where
  pub are : now ≡ along asked f last rows

module _ {asked : Row → Bool} {f : Row → Row} (keeps : (r : Row) → (f r).page ≡ r.page) {rows now : List Row} {last : Option GuestPage}
    (a : IsAlong asked f rows now last) where
  abbrev change : Row → Row
  change r = if passed asked last r then f r else r

  searched : find (next_of asked last) now ≡ option_map change (find (next_of asked last) rows)
  searched = rw a.are (find_mapped change (next_of asked last) (next_of asked last) rows (λ k d lt. grind (arith, keeps (get_or rows k d))))

  -- no row asked for comes behind the cursor
  module _ (ended : find (next_of asked last) now ≡ None) where
    none_left : All (λ r. next_of asked last r ≡ false) rows
    none_left = find_none (next_of asked last) rows (none_mapped change _ (grind (arith, searched)))

    -- each row asked for is changed then
    pub along_end : now ≡ change_rows asked f rows
    along_end = rw a.are (map_alike _ _ rows (λ k d lt. grind (arith, none_left k d lt)))

    -- and those that pass a test more strict were passed
    pub passed_all : (test : Row → Bool) → ((r : Row) → test r ≡ true → asked r ≡ true) → filter (passed test last) rows ≡ filter test rows
    passed_all test stricter =
        grind (arith, map-id, filter_mapped (λ x. x) (passed test last) test rows (λ k d lt. grind (arith, none_left k d lt, stricter)))

  module _ (rise : InPageOrder rows) {page : GuestPage}
      (told : option_map (λ r. r.page) (find (next_of asked last) now) ≡ Some page) where
    -- the row of the next page that is asked for
    pub next_is : (row : Row) × (find (next_of asked last) rows ≡ Some row) × (row.page ≡ page)
    next_is = mapped_some (λ (r : Row). r.page) (find (next_of asked last) rows) (grind (arith, searched, keeps))

    abbrev row : Row
    row = next_is.0

    passes : next_of asked last row ≡ true
    passes = find_passes _ rows row next_is.1

    place : All (λ r. asked r ≡ true → after_cursor last r.page ≡ not (comes_before r.page page)) rows
    place k d lt asks =
        let low = found_first (λ (x : Row). x.page) (next_of asked last) rows row rise next_is.1 k d lt in
        grind (arith, low, next_is.2, after_later last page, passes, one_before page, same_page_eq page)

    at_page : row_at page rows ≡ Some row
    at_page = subst (λ q. row_at q rows ≡ Some row) next_is.2
        (find_all (next_of asked last) (λ r. row_at r.page rows ≡ Some r) rows row next_is.1 (each_at_page rows rise))

    -- it is as it was
    pub there : row_at page now ≡ Some row
    there =
        let same = find_mapped change (λ r. same_page r.page page) (λ r. same_page r.page page) rows (grind (arith, keeps)) in
        grind (arith, a.are, at_page, passes)

    -- once it is changed, the cursor is there
    pub along_next : IsAlong asked f rows (change_row page f now) (Some page)
    along_next =
        let own = row_of_page page rows row rise at_page in
        record {
          are = rw a.are (map_mapped _ change _ rows
              (λ k d lt. grind (arith, keeps, own k d lt, place k d lt, passes, same_page_eq, one_before, not_both, before_irrefl)));
        }

    -- the rows changed are those asked for before it
    pub along_stop : now ≡ change_rows (λ r. asked r && is_before (Some row) r) f rows
    along_stop = a.are ∙ map_alike _ _ rows
        (λ k d lt. grind (arith, place k d lt, next_is.2))

-- at first no row is changed
pub along_none : (asked : Row → Bool) (f : Row → Row) (rows : List Row) → IsAlong asked f rows rows None
along_none asked f rows = grind (arith, change_none (passed asked None) f rows)

-- how many pages there may be up to the cursor
abbrev pub position : Option GuestPage → ℕ
position None = 0
position (Some p) = p.guest * 4294967296 + min p.page 4294967295 + 1

-- the page at the cursor, if there is one, has a guest below 2^16 and a number below 2^32
abbrev pub FitsPage : Option GuestPage → Type 0
FitsPage None = ⊤
FitsPage (Some p) = (p.guest < 65536) × (p.page < 4294967296)

-- the next page of a guest, or of all, after a cursor has a greater position than the cursor
pub further : (guest : Option ℕ) (last : Option GuestPage) (rows : List Row) (page : GuestPage) → FitsPage (Some page)
    → option_map (λ r. r.page) (find (is_next guest last) rows) ≡ Some page → position last < position (Some page)
further guest last rows page fits told = grind (arith, find_passes)

-- the position of a cursor that fits is 2^48 at most
pub not_far : (last : Option GuestPage) → FitsPage last → position last ≤ 281474976710656
not_far last fits = grind arith
