-- The pages once two of them became the items of a new dup.
use Rattle.ksm_pages.proofs.Names.{[], above, All, All-filter, All-map, all_with_dup, ap, ap₂, AreAlone, AreDups, AreInTree, AreKept, AreTied, AreWaitersLed, arith, below, change_held, change_row}
use Rattle.ksm_pages.proofs.Names.{change_rows, cond_both, dup_numbered, dup_rows, DupRow, dups_parted, DupsState, Entry, eq_bytes, false, filter, find, find-append, find_all, find_nothing, find_over}
use Rattle.ksm_pages.proofs.Names.{frame_of, Frames, get_or, GuestPage, Held, held_at, held_of, holds, in_group, InPageOrder, InPlaceOrder, Inside, is_in, is_live, length, length-set, lies_on, List}
use Rattle.ksm_pages.proofs.Names.{lodging, lodgings_of, map_mapped, MatchOption, MayPair, Merged, merged_into, nat_tests, None, not, Option, option_and_then, option_map, ordered_change, page_in_tree}
use Rattle.ksm_pages.proofs.Names.{PagesValue, paired, refl, Row, row_at, rows_new, rows_of, RowsView, rules, same_page, same_page_eq, same_page_refl, seen, set, shares, slice_get, Some, stands_at}
use Rattle.ksm_pages.proofs.Names.{sym, tied_made, tree_of, true, waiting_state, with_dup, with_item, with_new, ℕ, ◌&&◌, ◌+◌, ◌<◌, ◌==◌, ◌||◌, ◌∙◌, ◌∷◌, ◌≡◌}
use Rattle.std.specs.Vec.{with_item as with_frame}
use Rattle.ksm_base.proofs.Orders.{elsewhere}
use Rattle.ksm_pages.proofs.Changing.{frame_by, IsLone, lodged_changed, lone_changed, row_told, rows_changed, seat, shared_lone}
use Rattle.ksm_pages.proofs.Dropping.{frame_away, lodged_alike, none_live, not_vacant}
use Rattle.ksm_pages.proofs.Found.{change_one, find_changed_other, find_kept}
use Rattle.ksm_pages.proofs.Joined.{own_not_merged, own_seat}
use Rattle.ksm_pages.proofs.Leaving.{AreLawful, lies, lies_same, of_dup, of_page, row_seen, tree_is, view_of}
use Rattle.ksm_pages.proofs.Leading.{get_set}
use Rattle.ksm_pages.proofs.Visiting.{each_led, held_led, lawful_numbered, waits_parts}

module _ (dups : List DupRow) (dup : DupRow) (frames : List ℕ) (frame : ℕ) where
  abbrev of_now : ℕ → Option ℕ
  of_now = lodging (with_dup dup dups) (set frames dup.place frame)

  abbrev lies_at : DupRow → Option ℕ
  lies_at d = slice_get (set frames dup.place frame) d.place

  -- a new dup has the frame that is written at its place
  pub lodged_new : All (λ d. d.number < dup.number) dups → dup.place < length frames → of_now dup.number ≡ Some frame
  lodged_new fresh inside =
      let lower = filter (below dup.place) dups in
      let less = All-filter (below dup.place) (λ d. d.number < dup.number) dups fresh in
      let none = find_nothing (λ d. d.number == dup.number) lower (λ k d lt. grind (arith, less k d lt)) in
      let found : dup_numbered dup.number (with_dup dup dups) ≡ Some dup =
      grind (arith, none, find-append (λ d. d.number == dup.number) lower (dup ∷ filter (above dup.place) dups)) in
      ap (option_and_then lies_at) found ∙ (grind (arith, nat_tests, get_set frames dup.place dup.place frame, inside))

  -- a dup that stands elsewhere keeps its frame where one is written for a new dup
  pub lodged_kept : InPlaceOrder dups → (n : ℕ) → (n == dup.number) ≡ false
      → ((e : DupRow) → dup_numbered n dups ≡ Some e → (e.place == dup.place) ≡ false) → of_now n ≡ lodging dups frames n
  lodged_kept rise n other away =
      let passed : dup_numbered n (with_dup dup dups) ≡ dup_numbered n (filter (elsewhere dup.place) dups) =
      grind (arith, below, find_over, dups_parted) in
      let found = find_kept (λ d. d.number == n) (elsewhere dup.place) dups _ refl (λ e is. ap not (away e is)) in
      ap (option_and_then lies_at) (passed ∙ found) ∙ frame_away frames dup.place frame _ away

-- two changes of rows of two pages are one of both
pub both_changed : (q p : GuestPage) (f : Row → Row) → ((r : Row) → (f r).page ≡ r.page) → same_page q p ≡ false → (rows : List Row)
    → change_row p f (change_row q f rows) ≡ change_rows (λ r. same_page r.page q || same_page r.page p) f rows
both_changed q p f same apart rows = grind (arith, map_mapped, same_page_eq)

-- two pages have rows, of which something is so
abbrev IsOfBoth : (Row → Row → Type 0) → Option Row → Option Row → Type 0
IsOfBoth P o q = MatchOption o (true ≡ false) (λ r. MatchOption q (true ≡ false) (P r))

module _ (s : Inside) {p : PagesValue} (seen_as : view_of s ≡ p) (place : ℕ) (first second : GuestPage)
    (may : IsOfBoth (MayPair (seen p) place) (row_at first p.rows) (row_at second p.rows)) where
  -- what is held of two pages that may pair has rows that may become items
  pub may_both : {o q : Option Held} → held_at first s.rows.held ≡ o → held_at second s.rows.held ≡ q
      → IsOfBoth (MayPair (seen (view_of s)) place) (option_map (λ h. h.row) o) (option_map (λ h. h.row) q)
  may_both {o} {q} found also = grind (arith, row_seen)

-- the dups with a new one of two pages
abbrev with_pair : DupRow → GuestPage → GuestPage → DupsState → DupsState
with_pair row first second d =
    let items = with_item second (first ∷ []) in
    record d { dups = with_new (record { row = row; items = items }) d.dups; next = d.next + 1 }

-- what is held once two pages are merged into the dup with a number
abbrev pub both_merged : ℕ → GuestPage → GuestPage → List Held → List Held
both_merged number first second held =
    change_held second (shares (Merged number)) (change_held first (shares (Merged number)) held)

-- two pages whose entries are known may become the items of a new dup at the place
pub record CanPair (s : Inside) (p : PagesValue) (place : ℕ) (first second : GuestPage) (pass : ℕ) (one other : Entry) : Type 0 where
  pub kept : AreLawful s
  pub seen_as : view_of s ≡ p
  pub found : held_at first s.rows.held ≡ Some (held_of pass one)
  pub also : held_at second s.rows.held ≡ Some (held_of pass other)
  pub may : MayPair (seen (view_of s)) place (held_of pass one).row (held_of pass other).row

-- two pages that may pair still may, with their entries, once groups got numbers
pub can_pair : {s : Inside} → AreLawful s → {p : PagesValue} → view_of s ≡ p → {place : ℕ} {first second : GuestPage}
    → IsOfBoth (MayPair (seen p) place) (row_at first p.rows) (row_at second p.rows) → {pass : ℕ} {one other : Entry}
    → held_at first s.rows.held ≡ Some (held_of pass one) → held_at second s.rows.held ≡ Some (held_of pass other)
    → {later : DupsState} → later ≡ record s.dups { numbers = later.numbers; most = later.most }
    → CanPair (record s { dups = later }) p place first second pass one other
can_pair {s} are {p = p} seen_as required found also {later = later} same =
    let now : view_of (record s { dups = later }) ≡ p = grind (arith, same, seen_as) in
    grind (arith, lawful_numbered s same are, now, found, also, may_both (record s { dups = later }) now _ _ _ required found also)

module _ {s : Inside} {p : PagesValue} {place : ℕ} {first second : GuestPage} {pass : ℕ} {one other : Entry}
    (it : CanPair s p place first second pass one other) where
  abbrev a : Held
  a = held_of pass one

  abbrev b : Held
  b = held_of pass other

  abbrev are : AreLawful s
  are = it.kept

  abbrev may : MayPair (seen (view_of s)) place a.row b.row
  may = it.may

  abbrev before : List Row
  before = rows_of s.rows.held

  at_first : first ≡ a.row.page
  at_first = sym (of_page s are _ it.found)

  at_second : second ≡ b.row.page
  at_second = sym (of_page s are _ it.also)

  -- where two pages can pair at a place, no dup with items stands there
  pub is_free : find (λ d. stands_at place d && is_live d) s.dups.dups ≡ None
  is_free = none_live before _ are.tied may.vacant

  differ : same_page a.row.page b.row.page ≡ false
  differ = (waits_parts s.knobs b.row a.row may.waits).1

  -- two pages that can pair differ
  pub are_apart : same_page first second ≡ false
  are_apart = ap₂ same_page at_first at_second ∙ differ

  own_first : seat (of_dup s) (Some a) ≡ Some one.at
  own_first = own_seat _ pass one may.first_alone

  -- the first of two pages that can pair lies on the frame of its own
  pub lay_first : frame_of p.lodgings first ≡ Some one.at
  lay_first = sym (lies s are first it.found it.seen_as) ∙ own_first

  -- the second of two pages that can pair lies on the frame of its own
  pub lay_second : frame_of p.lodgings second ≡ Some other.at
  lay_second = sym (lies s are second it.also it.seen_as) ∙ own_seat _ pass other may.second_alone

  module _ {tree : ℕ} (in_tree : (r : Row) → r.home ≡ other.home → tree ≡ tree_of s.knobs r) {later : DupsState}
      (is_made : later ≡ with_pair (record { number = s.dups.next; place = place; tree = tree; bytes = b.row.bytes }) first second s.dups)
      (lawful : AreDups s.dups) (led : AreWaitersLed s.rows.held)
      (there : AreInTree s.rows) {number : ℕ} (is_number : number ≡ s.dups.next)
      {rows : RowsView} (turned : rows ≡ record s.rows { held = both_merged number first second s.rows.held }) where
    abbrev frame : ℕ
    frame = one.at

    abbrev dup : DupRow
    dup = record { number = s.dups.next; place = place; tree = tree; bytes = b.row.bytes }

    abbrev item : Row → Row
    item r = record r { state = Merged s.dups.next }

    abbrev into : Held → Held
    into h = shares (Merged s.dups.next) h

    abbrev half : List Held
    half = change_held a.row.page into s.rows.held

    now_dups : later.dups ≡ with_new (record { row = dup; items = with_item b.row.page (a.row.page ∷ []) }) s.dups.dups
    now_dups = grind (arith, at_first, at_second)

    now_rows : dup_rows later.dups ≡ with_dup dup (dup_rows s.dups.dups)
    now_rows = grind (arith, now_dups, rows_new)

    now_held : rows.held ≡ change_held b.row.page into half
    now_held = grind (arith, at_first, at_second)

    found_first : held_at a.row.page s.rows.held ≡ Some a
    found_first = search (rules, at_first)

    found_second : held_at b.row.page half ≡ Some b
    found_second =
        find_changed_other _ _ into (λ h. refl) b.row.page _ differ
        ∙ ap (λ q. held_at q s.rows.held) (sym at_second) ∙ it.also

    half_rows : rows_of half ≡ change_row a.row.page item before
    half_rows = rows_changed _ _ _ _ (λ h. refl)

    both_rows : rows_of rows.held ≡ change_row b.row.page item (rows_of half)
    both_rows = grind (arith, now_held, rows_changed)

    half_order : InPageOrder (rows_of half)
    half_order = grind (arith, half_rows, ordered_change)

    whole : rows_of rows.held ≡ change_row b.row.page (λ _. item b.row) (change_row a.row.page (λ _. item a.row) before)
    whole =
        both_rows
        ∙ change_one (λ (r : Row). r.page) _ _ _ half_order (row_told _ half found_second)
        ∙ ap (change_row b.row.page (λ _. item b.row)) (half_rows ∙ change_one (λ (r : Row). r.page) _ _ _ are.order may.first_is)

    abbrev dups_now : List DupRow
    dups_now = with_dup dup (dup_rows s.dups.dups)

    now_alone : AreAlone s.knobs rows.held (dup_rows later.dups)
    now_alone =
        let parts = waits_parts s.knobs b.row a.row may.waits in
        let in_it = find_all (holds first) (λ h. waiting_state h.row.state ≡ true → is_in h.in_tree ≡ true) _ a it.found led parts.0 in
        let to_first : page_in_tree s.rows tree b.row.bytes ≡ Some a.row.page =
        ap₂ (page_in_tree s.rows) (in_tree b.row refl ∙ sym parts.2) (sym parts.3) ∙ held_led s.knobs s.rows are.by_node there first it.found in_it in
        let half_alone : AreAlone s.knobs half dups_now = All-map (IsLone s.knobs dups_now) _ s.rows.held (λ k d lt.
        let h = get_or s.rows.held k d in
        cond_both (holds a.row.page h) (into h) h (IsLone s.knobs dups_now) (λ _. shared_lone s.knobs dups_now (Merged s.dups.next) h)
        (λ apart alone. all_with_dup (λ r. in_group (tree_of s.knobs h.row) h.row.bytes r ≡ false) dup _
        (grind (
          arith,
          nat_tests,
          alone,
          apart,
          each_led s.rows there tree b.row.bytes k d lt,
          tree_is s.knobs are.by_node h.row,
          eq_bytes b.row.bytes h.row.bytes,
          to_first,
          same_page_refl h.row.page,
        ))
        (are.alone k d lt alone))) in
        rw (now_held, now_rows)
        (lone_changed s.knobs dups_now b.row.page into half half_order found_second
        (λ _. shared_lone s.knobs dups_now (Merged s.dups.next) b) half_alone)

    -- the pages are lawful once two of them became the items of a new dup
    pub lawful_paired : AreKept s.shape s.knobs rows later (set s.frames.items place frame)
    lawful_paired =
        let order : InPageOrder (rows_of rows.held) = rw both_rows (ordered_change _ _ _ (λ r. refl) half_order) in
        let tied : AreTied (rows_of rows.held) later.dups = rw whole (rw now_dups (tied_made _ _ _ _ are.order may.first_is may.second_is
        (own_not_merged _ may.first_alone) (own_not_merged _ may.second_alone) may.fresh _ lawful.numbers_below are.tied)) in
        grind (arith, are, order, tied, now_alone, is_made, turned, length-set s.frames.items place frame)

    abbrev of_new : ℕ → Option ℕ
    of_new = lodging (dup_rows later.dups) (set s.frames.items place frame)

    abbrev lay : Frames
    lay = frame_of (lodgings_of (of_dup s) s.rows.held)

    now_lie : frame_of (lodgings_of of_new rows.held) ≡ lies_on b.row.page (lay a.row.page) lay
    now_lie =
        let new_frame : of_new s.dups.next ≡ Some frame = rw now_rows (lodged_new _ _ _ _ lawful.numbers_below (rw are.room may.inside)) in
        let others : frame_of (lodgings_of of_new s.rows.held) ≡ lay = lodged_alike _ (λ page r n there merged.
        let unlike = ap (merged_into s.dups.next) (sym merged) ∙ find_all _ (λ x. merged_into s.dups.next x.state ≡ false) _ _ there may.fresh in
        rw now_rows (lodged_kept _ _ _ frame lawful.in_place_order n unlike (not_vacant _ _ page may.vacant there merged))) in
        let two = lodged_changed b.row.page into (λ h. refl) of_new half found_second in
        let one_moved = lodged_changed a.row.page into (λ h. refl) of_new s.rows.held found_first in
        grind (arith, now_held, two, one_moved, others, new_frame, frame_by (of_dup s) s.rows.held a.row.page, found_first, own_first, lies_same a.row.page {frames = lay})

    -- once two pages became the items of a new dup, the pages are seen as paired on the first one's frame
    pub told_paired : let now = seen (view_of (record s { rows = rows; dups = later; frames = with_frame s.frames place frame })) in
        IsOfBoth (λ r t. now ≡ paired place r t (seen p)) (row_at first p.rows) (row_at second p.rows)
    told_paired =
        let told = paired place a.row b.row (seen (view_of s)) in
        let changed : rows_of rows.held ≡ told.rows =
        both_rows ∙ ap (change_row b.row.page item) half_rows ∙ both_changed _ _ _ (λ r. refl) differ _ in
        let dups : dup_rows later.dups ≡ told.dups = now_rows ∙ ap (λ t. with_dup (record dup { tree = t }) (dup_rows s.dups.dups)) (in_tree b.row refl) in
        rw (row_seen s it.seen_as _ it.found) (rw (row_seen s it.seen_as _ it.also)
        ((λ i. record (seen (view_of s)) { rows = changed i; frame = now_lie i; dups = dups i; next = (is_made i).next })
        ∙ ap (λ v. paired place a.row b.row (seen v)) it.seen_as))
