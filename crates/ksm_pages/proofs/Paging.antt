-- What is read of the pages: rows and dups found by their pages, places and numbers, and the first page after a cursor.
use Rattle.ksm_pages.proofs.Names.{after_cursor, All, any_found, ap, AreDups, AreTied, arith, Bool, comes_before, Dup, dup_at, dup_numbered, dup_of, dup_rows, DupRow, DupsState, each_at_page}
use Rattle.ksm_pages.proofs.Names.{each_has_number, false, false_from_ne_true, filter_passes, find, find-append, find_all, find_none, find_nothing, find_passes, found_parts, found_passing, get_or}
use Rattle.ksm_pages.proofs.Names.{GuestPage, has_number, Held, IfSome, InPageOrder, InPlaceOrder, Inside, is_live, is_next, is_some, is_stale, IsHeld, TellsNext, items_in, items_of, length, List, list_any}
use Rattle.ksm_pages.proofs.Names.{live_at, live_placed, lodging, lodgings_of, MatchOption, merged_into, None, none-some, of_guest, Option, option_and_then, option_map, pages_ordered, PagesValue}
use Rattle.ksm_pages.proofs.Names.{refl, Row, row_at, rows_of, same_page_eq, seen, slice_get, slice_get-get_or, Some, stale_alike, stands_at, sym, tied_counted, true, unwrap_or, unwrap_or-slice_get}
use Rattle.ksm_pages.proofs.Names.{ℕ, ◌&&◌, ◌<◌, ◌==◌, ◌∙◌, ◌≡◌, ◌≤◌}
use Rattle.ksm_base.specs.Rows.{is_stale as is_stale_row}
use Rattle.ksm_tree.proofs.Changes.{row_found as dup_row_found}
use Rattle.ksm_pages.specs.Paged.{frame_of as lies_at}
use Rattle.ksm_pages.proofs.Joined.{item_lies}
use Rattle.ksm_pages.proofs.Options.{mapped_some, none_mapped}
use Rattle.ksm_pages.proofs.Found.{find_narrower, first_found}
use Rattle.ksm_pages.specs.declared.pages.Held.{Held as Told}
use Rattle.ksm_pages.proofs.Leaving.{AreLawful, view_of}

-- the dup with a number stands at the place that the dup row with that number tells
pub place_numbered : (number : ℕ) (dups : List Dup) → option_map (λ d. d.row.place) (dup_of number dups) ≡ option_map (λ d. d.place) (dup_numbered number (dup_rows dups))
place_numbered number dups =
    grind (arith, dup_row_found (has_number number) (λ r. r.number == number) (λ d. refl) dups)

-- a dup is found at a place exactly where a row stands there
pub any_at : (place : ℕ) (dups : List Dup) → is_some (option_map (λ d. d.row.number) (dup_at place dups)) ≡ list_any (λ d. d.place == place) (dup_rows dups)
any_at place dups = grind (arith, dup_row_found (stands_at place) (λ r. r.place == place) (λ d. refl) dups, any_found (λ (r : DupRow). r.place == place) (dup_rows dups))

-- the first stale dup by its items stands at the place of the first stale dup by the rows
pub stale_at : (rows : List Row) (dups : List Dup) → AreTied rows dups → option_map (λ d. d.row.place) (find is_stale dups) ≡ option_map (λ (r : DupRow). r.place) (find (is_stale_row rows) (dup_rows dups))
stale_at rows dups tied = grind (arith, stale_alike rows _ (tied_counted rows _ tied))

-- the items of a dup lie on the frame that is kept at its place
pub items_lodge : (held : List Held) {s : DupsState} (frames : List ℕ) → InPageOrder (rows_of held) → AreDups s → s.places ≡ length frames → {place : ℕ} {frame : ℕ} → frame ≡ unwrap_or (slice_get frames place) 0
    → All (λ d. d.place ≡ place → All (λ r. merged_into d.number r.state ≡ true → lies_at (lodgings_of (lodging (dup_rows s.dups) frames) held) r.page ≡ Some frame) (rows_of held)) (dup_rows s.dups)
items_lodge held {s} frames rise lawful as_many {frame} is k e lt at i f lt_row merged =
    let lodges =
    ap (option_and_then (λ (x : DupRow). slice_get frames x.place)) (each_has_number _ lawful.in_place_order k e lt)
    ∙ ap (slice_get frames) at
    ∙ within _ (omega arith)
    ∙ ap Some (sym is) in
    item_lies _ _ rise _ i f lt_row merged ∙ lodges
  where
    within : (p : ℕ) → p < length frames → slice_get frames p ≡ Some (unwrap_or (slice_get frames p) 0)
    within p lt = grind (arith, slice_get-get_or, unwrap_or-slice_get)

module _ (rows : List Row) (dups : List Dup) (place : ℕ) (tied : AreTied rows dups) where
  -- no dup with items stands at a place where none is found
  pub items_none : None ≡ option_map (λ (d : Dup). d.row) (find (λ d. stands_at place d && is_live d) dups) → live_at place rows (dup_rows dups) ≡ None
  items_none is = sym (live_placed rows _ _ (tied_counted rows _ tied)) ∙ sym is

  -- the items of the dup at a place are the pages of the rows merged into it
  pub items_there : {row : DupRow} → InPlaceOrder (dup_rows dups) → Some row ≡ option_map (λ (d : Dup). d.row) (find (λ d. stands_at place d && is_live d) dups)
      → option_map (items_of rows) (live_at place rows (dup_rows dups)) ≡ Some (items_in (dup_at place dups))
  items_there {row} rise is =
      let items = λ (d : Dup) (there : dup_at place dups ≡ Some d). find_all (stands_at place)
      (λ e. e.items ≡ items_of rows e.row) dups d there tied in
      grind (arith, live_placed rows place _ (tied_counted rows _ tied), found_passing place is_live dups rise, items)

-- where no row in front of a page passes, and that of the page does, that is the first that passes, if it is there
pub first_at : (next : Row → Bool) (page : GuestPage) → ((r : Row) → r.page ≡ page → next r ≡ true)
    → ((r : Row) → comes_before r.page page ≡ true → next r ≡ false) → (rows : List Row) → InPageOrder rows → (r : Row)
    → row_at page rows ≡ Some r → find next rows ≡ Some r
first_at next page here ahead rows up r found =
    let none = find_nothing next _ (λ k d lt. ahead _ (filter_passes (λ r. comes_before r.page page) rows k d lt)) in
    grind (arith, found_parts pages_ordered (λ (r : Row). r.page) page rows r up found, none, find-append, here r, find_passes, same_page_eq)

module _ (p : PagesValue) (guest : Option ℕ) (cursor : Option GuestPage) where
  abbrev next : Row → Bool
  next = is_next guest cursor

  abbrev IsNext : Option Told → Type 0
  IsNext = TellsNext (seen p) guest cursor

  -- what is told of the page that comes next is what comes next
  pub told_next : InPageOrder p.rows → {page : GuestPage} → option_map (λ (r : Row). r.page) (find next p.rows) ≡ Some page → (told : Option Told)
      → MatchOption told (row_at page p.rows ≡ None) (IsHeld (seen p) page) → IsNext told
  told_next up is None gone =
      let at = mapped_some _ _ is in
      absurd (none-some at.0 (sym gone ∙ ap (λ q. row_at q p.rows) (sym at.2) ∙ find_all _ (λ x. row_at x.page p.rows ≡ Some x) _ _ at.1 (each_at_page _ up)))
  told_next up is (Some held) of_it = grind arith

  module _ (s : Inside) (are : AreLawful s) (seen_as : view_of s ≡ p) (start : Option GuestPage)
      (same : (row : Row) → of_guest guest row ≡ true → after_cursor start row.page ≡ after_cursor cursor row.page) where
    abbrev behind : Row → Bool
    behind r = after_cursor start r.page

    rise : InPageOrder p.rows
    rise = grind arith

    less : (r : Row) → next r ≡ true → behind r ≡ true
    less r is = grind arith

    -- where no row is behind the start, none comes next
    pub next_none : None ≡ option_map (λ (r : Row). r.page) (find behind (rows_of s.rows.held)) → {told : Option Told} → told ≡ None
        → IsNext told
    next_none none is = grind (arith, find_nothing, find_none, none_mapped, less)

    module _ (page : GuestPage) (first : Some page ≡ option_map (λ (r : Row). r.page) (find behind (rows_of s.rows.held))) where
      there : (r : Row) × (find behind p.rows ≡ Some r) × (page ≡ r.page)
      there = grind arith

      abbrev r : Row
      r = there.0

      -- where the first row behind the start is of another guest, no row comes next
      pub next_past : {g : ℕ} → guest ≡ Some g → (page.guest ≡ g → ⊥)
          → (after_cursor start page ≡ true → IfSome guest (λ h. h ≤ page.guest)) → find next p.rows ≡ None
      next_past {g} is differs begun = find_nothing next p.rows (λ k d lt. false_from_ne_true _ (λ passes.
          grind (arith, first_found (λ (s : Row). s.page) behind p.rows r rise there.1 k d lt (less (get_or p.rows k d) passes), later)))
        where
          later : g ≤ page.guest
          later = grind (arith, find_passes)

      -- where the first row behind the start is of the guest, what is told of that row is what comes next
      pub next_told : ((x : Row) → x.page ≡ page → of_guest guest x ≡ true) → (told : Option Told)
          → MatchOption told (row_at page p.rows ≡ None) (IsHeld (seen p) page) → IsNext told
      next_told own told is = grind (arith, find_passes, told_next, rise, find_narrower, less, there.2, there.1)
