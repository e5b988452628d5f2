-- Rows that change at one page: what becomes of what holds of each row, and of how many lie on a frame.
use Rattle.ksm_book.proofs.Names.{All, arith, change_row, count_alike, count_mapped, count_with_row, count_without_page, counts_one, eq-eqb, false, filter_passes, find_all, find_none, find_passes}
use Rattle.ksm_book.proofs.Names.{Frames, GuestPage, if◌then◌else◌, in_hand, InPageOrder, is_frame, lies_on, List, map, MatchOption, None, not, not-true, one_of_each_page, Option, Row, row_at, same_page}
use Rattle.ksm_book.proofs.Names.{same_page_eq, same_page_refl, Some, true, uses, with_row, without_page, ℕ, ◌+◌, ◌≡◌, ◌≤◌}

-- frames that are equal at each page are equal
pub same_frames : (f g : Frames) → ((page : GuestPage) → f page ≡ g page) → f ≡ g
same_frames f g each = λ i page. each page i

-- the row that is found at a page is of that page
pub found_page : (page : GuestPage) (rows : List Row) (row : Row) → row_at page rows ≡ Some row → row.page ≡ page
found_page page rows row found = same_page_eq _ _ (grind (arith, find_passes))

-- a page that comes to lie on a frame twice lies on the second
pub lies_again : (page : GuestPage) (o n : Option ℕ) (frame : Frames) → lies_on page n (lies_on page o frame) ≡ lies_on page n frame
lies_again page o n frame = grind (arith, same_frames)

-- a page that lies where it lay changes nothing
pub lies_still : (page : GuestPage) (o : Option ℕ) (frame : Frames) → frame page ≡ o → lies_on page o frame ≡ frame
lies_still page o frame there = grind (arith, same_frames)

-- of rows in page order, each row of a page is the one found at that page
pub row_of_page : (page : GuestPage) (rows : List Row) (row : Row) → InPageOrder rows → row_at page rows ≡ Some row → All (λ r. same_page r.page page ≡ true → r ≡ row) rows
row_of_page page rows row rise found =
    let each = find_all (λ r. same_page r.page page) (λ r. All (λ s. same_page s.page r.page ≡ true → s ≡ r) rows) rows row found (one_of_each_page rows rise) in
    grind (arith, found_page)

-- as many rows lie on a frame once they are changed, each on its page
pub uses_mapped : (f : ℕ) (frame : Frames) (c : Row → Row) (rows : List Row) → ((r : Row) → (c r).page ≡ r.page) → uses f frame (map c rows) ≡ uses f frame rows
uses_mapped f frame c rows keeps = grind (arith, count_mapped)

module _ (f : ℕ) (page : GuestPage) (o : Option ℕ) (frame : Frames) where
  -- where no row is of the page, as many lie on the frame as did
  apart_uses : (rows : List Row) → All (λ r. same_page r.page page ≡ false) rows → uses f (lies_on page o frame) rows ≡ uses f frame rows
  apart_uses rows apart = grind (arith, count_alike)

  -- where the row of a page goes, one row less lies on the frame if the page lay there, else as many
  pub uses_gone : (rows : List Row) (row : Row) → InPageOrder rows → row_at page rows ≡ Some row → uses f (lies_on page o frame) (without_page page rows) + in_hand f (frame page) ≡ uses f frame rows
  uses_gone rows row rise found =
      let rest = apart_uses (without_page page rows) (λ i d lt. not-true _ (filter_passes (λ r. not (same_page r.page page)) rows i d lt)) in
      grind (arith, found_page page rows row found, count_without_page (λ r. is_frame f (frame r.page)) page rows row rise found)

  -- where a page comes to lie on another frame, one row less lies on the old frame and one more on the new one
  pub uses_changed : (c : Row → Row) (rows : List Row) (row : Row) → InPageOrder rows → row_at page rows ≡ Some row → ((r : Row) → (c r).page ≡ r.page)
      → uses f (lies_on page o frame) (change_row page c rows) + in_hand f (frame page) ≡ uses f frame rows + in_hand f o
  uses_changed c rows row rise found keeps =
      let same = uses_mapped f (lies_on page o frame) (λ r. if same_page r.page page then c r else r) rows (λ r. grind (arith, keeps r)) in
      let on_new = count_without_page (λ r. is_frame f (lies_on page o frame r.page)) page rows row rise found in
      grind (arith, found_page page rows row found, uses_gone rows row rise found, same_page_refl)

-- where a row comes at a page that had none, one row more lies on the frame if it comes there, else as many
pub uses_come : (f : ℕ) (o : Option ℕ) (frame : Frames) (row : Row) (rows : List Row) → row_at row.page rows ≡ None
    → uses f (lies_on row.page o frame) (with_row row rows) ≡ uses f frame rows + in_hand f o
uses_come f o frame row rows absent =
    grind (arith, apart_uses f row.page o frame rows (find_none _ rows absent), count_with_row)

-- a frame on which a row lies is used
pub uses_some : (f : ℕ) (frame : Frames) (rows : List Row) → All (λ r. frame r.page ≡ Some f → 1 ≤ uses f frame rows) rows
uses_some f frame rows = grind (arith, counts_one, eq-eqb)

-- where something is told of what an option holds, it holds something, of which that is so
pub filled_by : {X : Type 0} (P : X → Type 0) {o : Option X} → MatchOption o (true ≡ false) P → (x : X) × (o ≡ Some x) × P x
filled_by P told = grind arith
