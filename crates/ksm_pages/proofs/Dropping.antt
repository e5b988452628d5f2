-- The pages once the stale dup at a place went, or the items of a dup went to another frame.
use Rattle.ksm_pages.proofs.Names.{All, All-filter, all_rows, Any-from_list_any, ap, AreAlone, AreTied, arith, Bool, Dup, dup_at, dup_numbered, dup_rows, DupRow, each_has_number, elsewhere, eq-eqb}
use Rattle.ksm_pages.proofs.Names.{eqb-true, false, filter, filter_all, find, find_alike, find_all, find_none, find_nothing, find_passes, frame_of, get_or, GuestPage, Held, held_at, if◌then◌else◌}
use Rattle.ksm_pages.proofs.Names.{in_group, InPlaceOrder, is_item, is_live, is_some, is_stale, IsVacant, item_count, items_on, Knobs, length, List, list_any, lodging, lodgings_of, Merged}
use Rattle.ksm_pages.proofs.Names.{merged_into, nat_tests, None, none_counted, none_found, not, one_of_each_place, Option, option_and_then, option_map, refl, Row, row_at, rows_of, rows_without, set}
use Rattle.ksm_pages.proofs.Names.{slice_get, Some, stands_at, subst, sym, tied_counted, tree_of, true, without_place, ℕ, ◌&&◌, ◌<◌, ◌==◌, ◌∙◌, ◌≡◌}
use Rattle.ksm_pages.proofs.Changing.{frame_by, row_found, seat}
use Rattle.ksm_pages.proofs.Found.{find_kept}
use Rattle.ksm_pages.proofs.Options.{some_mapped}
use Rattle.ksm_pages.proofs.Leading.{get_set}

vacant_stale : {place : ℕ} (rows : List Row) (dups : List Dup) → AreTied rows dups → IsVacant place rows (dup_rows dups)
    → All (λ d. stands_at place d ≡ true → is_stale d ≡ true) dups
vacant_stale {place} rows dups tied vacant k e lt at =
    let d = get_or dups k e in
    let none = all_rows (λ r. r.place ≡ place → item_count rows r ≡ 0) dups vacant k e lt (eqb-true d.row.place place at) in
    eq-eqb (length d.items) 0 (tied_counted rows _ tied k e lt ∙ none)

-- the dup at a vacant place is stale
pub stale_there : {place : ℕ} (rows : List Row) (dups : List Dup) → AreTied rows dups → IsVacant place rows (dup_rows dups)
    → is_some (option_map (λ d. d.row.number) (dup_at place dups)) ≡ true
    → is_some (find (λ d. stands_at place d && is_stale d) dups) ≡ true
stale_there {place} rows dups tied vacant there =
    let same = find_alike (λ d. stands_at place d && is_stale d) (stands_at place) dups
    (λ k e lt. grind (arith, vacant_stale rows dups tied vacant k e lt)) in
    ap is_some same ∙ sym (some_mapped _ _) ∙ there

-- where no dup stands at a place, all stand elsewhere
pub all_elsewhere : (place : ℕ) {ds : List DupRow} → list_any (λ d. d.place == place) ds ≡ false → filter (elsewhere place) ds ≡ ds
all_elsewhere place none =
    let at : DupRow → Bool = λ d. d.place == place in
    filter_all _ _ (λ k e lt. ap not (find_none at _ (none_found at _ none) k e lt))

-- no dup with items stands at a vacant place
pub none_live : {place : ℕ} (rows : List Row) (dups : List Dup) → AreTied rows dups → IsVacant place rows (dup_rows dups)
    → find (λ d. stands_at place d && is_live d) dups ≡ None
none_live {place} rows dups tied vacant =
    find_nothing (λ d. stands_at place d && is_live d) dups (λ k e lt. grind (arith, nat_tests, vacant_stale rows dups tied vacant k e lt))

-- the dup into which a row is merged stands at no vacant place
pub not_vacant : (rows : List Row) (dups : List DupRow) {place n : ℕ} (page : GuestPage) {r : Row} → IsVacant place rows dups
    → row_at page rows ≡ Some r → r.state ≡ Merged n
    → (e : DupRow) → dup_numbered n dups ≡ Some e → (e.place == place) ≡ false
not_vacant rows dups {place} {n} page {r} vacant there merged e found =
    let none = find_all (λ d. d.number == n) (λ d. d.place ≡ place → item_count rows d ≡ 0) dups e found vacant in
    let left : e.place ≡ place → merged_into e.number r.state ≡ false =
    λ at. find_all _ (λ x. merged_into e.number x.state ≡ false) rows _ there (none_counted _ rows (none at)) in
    grind (arith, nat_tests, left, merged, find_passes (λ d. d.number == n) dups e found)

-- pages lie where they lay where the dups into which rows are merged keep their frames
pub lodged_alike : {of to : ℕ → Option ℕ} (held : List Held)
    → ((page : GuestPage) (r : Row) (n : ℕ) → row_at page (rows_of held) ≡ Some r → r.state ≡ Merged n → of n ≡ to n)
    → frame_of (lodgings_of of held) ≡ frame_of (lodgings_of to held)
lodged_alike {of} {to} held same = λ i page. (frame_by of held page ∙ go page _ (row_found page _)
    ∙ sym (frame_by to held page)) i
  where
    go : (page : GuestPage) (o : Option Held) → row_at page (rows_of held) ≡ option_map (λ h. h.row) o → seat of o ≡ seat to o
    go page o is = grind arith

-- without the dup at a vacant place every page lies where it lay
pub lodged_dropped : {place : ℕ} (frames : List ℕ) (dups : List DupRow) (held : List Held) → IsVacant place (rows_of held) dups
    → frame_of (lodgings_of (lodging (filter (elsewhere place) dups) frames) held) ≡ frame_of (lodgings_of (lodging dups frames) held)
lodged_dropped frames dups held vacant =
    lodged_alike _ (λ page r n there merged. grind (arith, find_kept, not_vacant))

-- rows that are said to be alone are so, without the dup at a place
pub lone_dropped : (knobs : Knobs) (held : List Held) (place : ℕ) (dups : List Dup) → AreAlone knobs held (dup_rows dups)
    → AreAlone knobs held (dup_rows (without_place place dups))
lone_dropped knobs held place dups are k d lt is =
    let h = get_or held k d in
    rw (rows_without place dups)
    (All-filter (elsewhere place) (λ (r : DupRow). in_group (tree_of knobs h.row) h.row.bytes r ≡ false) _ (are k d lt is))

-- a dup that may be there, and stands elsewhere, keeps its frame where one is written at a place
pub frame_away : (frames : List ℕ) (place frame : ℕ) (o : Option DupRow)
    → ((e : DupRow) → o ≡ Some e → (e.place == place) ≡ false)
    → option_and_then (λ d. slice_get (set frames place frame) d.place) o ≡ option_and_then (λ d. slice_get frames d.place) o
frame_away frames place frame None away = refl
frame_away frames place frame (Some e) away = grind (arith, nat_tests, get_set frames place e.place frame, away e)

-- a place where a dup stands is below the bound of all places
pub any_below : (place n : ℕ) (dups : List DupRow) → All (λ d. d.place < n) dups → list_any (λ d. d.place == place) dups ≡ true → place < n
any_below place n dups below there =
    let at = Any-from_list_any (λ d. d.place == place) dups there in
    rw (← eqb-true at.1.place place at.4) (subst (λ (d : DupRow). d.place < n) at.3 (below at.0 at.1 at.2))

module _ (dups : List DupRow) (rise : InPlaceOrder dups) (frames : List ℕ) (place frame : ℕ) (inside : place < length frames) where
  abbrev of : ℕ → Option ℕ
  of = lodging dups frames

  abbrev of_now : ℕ → Option ℕ
  of_now = lodging dups (set frames place frame)

  module _ {d : DupRow} (at : d.place ≡ place) (found : dup_numbered d.number dups ≡ Some d)
      (one : All (λ e. (e.place == d.place) ≡ true → e ≡ d) dups) where
    moved : of_now d.number ≡ Some frame
    moved = grind (arith, nat_tests, get_set frames place place frame)

    stayed : (n : ℕ) → (n == d.number) ≡ false → of_now n ≡ of n
    stayed n other = frame_away frames place frame _ (λ e is.
        grind (
          arith,
          nat_tests,
          other,
          find_passes (λ x. x.number == n) dups e is,
          find_all _ (λ x. (x.place == d.place) ≡ true → x ≡ d) dups e is one,
        ))

    -- a row merged into the dup lies on the new frame, and any other where it lay
    seats : (o : Option Held) → seat of_now o ≡ (if is_item d.number (option_map (λ h. h.row) o) then Some frame else seat of o)
    seats None = refl
    seats (Some h) = grind (arith, eqb-true, moved, stayed)

    lie_now : (held : List Held)
        → frame_of (lodgings_of of_now held) ≡ items_on d.number frame (rows_of held) (frame_of (lodgings_of of held))
    lie_now held = λ i page. (frame_by of_now held page ∙ seats (held_at page held)
        ∙ (λ j. if is_item d.number (sym (row_found page held) j) then Some frame else sym (frame_by of held page) j)) i

  -- the items of the dup at a place lie on the frame that is written there
  pub items_moved : (held : List Held)
      → All (λ d. d.place ≡ place
      → frame_of (lodgings_of of_now held) ≡ items_on d.number frame (rows_of held) (frame_of (lodgings_of of held))) dups
  items_moved held k e lt at = lie_now at (each_has_number _ rise k e lt) (one_of_each_place _ rise k e lt) _
