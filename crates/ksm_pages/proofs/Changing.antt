-- The rows of what is held, their tally, where their pages lie, and which are said to be alone, once that of one page came,
-- went or changed; and rows that wait no more.
use Rattle.ksm_pages.proofs.Names.{[], All, All-append, All-cons, All-filter, All-map, AllPairs, ap₂, AreAlone, arith, beside, Bool, CanMove, change_held, change_row, comes_before, cond_both}
use Rattle.ksm_pages.proofs.Names.{count_by, count_by-le-length, count_change_row, count_with_row, count_without_page, DupRow, Entry, false, filter, filter_mapped, find_all, find_mapped, frame_of}
use Rattle.ksm_pages.proofs.Names.{frame_seen, get_or-map, GuestPage, Held, held_at, held_in, holds, if◌then◌else◌, in_group, InPageOrder, InTree, is_alone, IsMoved, IsTally, Knobs, length}
use Rattle.ksm_pages.proofs.Names.{length-map, lies_on, List, lodgings_of, map-append, map_mapped, mapping_of, marked, Named, None, one_if, Option, option_map, PageState, Private, refl, Row, row_at, rows_of}
use Rattle.ksm_pages.proofs.Names.{rules, same_page, same_page_eq, same_page_sym, settled, settled_state, shares, Slab, Some, sym, Tally, tree_of, true, true≢false, waiting_state, with_held, with_row}
use Rattle.ksm_pages.proofs.Names.{without_held, without_page, ℕ, ◌+◌, ◌<◌, ◌^◌, ◌∙◌, ◌∷◌, ◌≡◌, ◌≤◌}
use Rattle.ksm_pages.proofs.Options.{none_mapped}
use Rattle.ksm_pages.proofs.Found.{change_one, each_found, find_changed, find_changed_other, find_gone, find_gone_other}

-- where a change of what is held changes its row by g, the rows have g at the row of the page
pub rows_changed : (page : GuestPage) (f : Held → Held) (g : Row → Row) (held : List Held) → ((h : Held) → (f h).row ≡ g h.row) → rows_of (change_held page f held) ≡ change_row page g (rows_of held)
rows_changed page f g [] is = refl
rows_changed page f g (h ∷ hs) is = grind (arith, rows_changed page f g hs is)

-- the row of a page among the rows is the row of what is held of that page
pub row_found : (page : GuestPage) (held : List Held) → row_at page (rows_of held) ≡ option_map (λ h. h.row) (held_at page held)
row_found page held = grind (arith, find_mapped)

-- what is held of a page tells its row
pub row_told : (page : GuestPage) (held : List Held) {o : Option Held} → held_at page held ≡ o → row_at page (rows_of held) ≡ option_map (λ h. h.row) o
row_told page held is = search (rules, row_found)

-- nothing is held of a page without a row
pub nothing_held : (page : GuestPage) (held : List Held) → row_at page (rows_of held) ≡ None → held_at page held ≡ None
nothing_held page held absent = grind (arith, none_mapped, row_found)

-- what is held without a page has the rows without the row of that page
pub rows_without : (page : GuestPage) (held : List Held) → rows_of (without_held page held) ≡ without_page page (rows_of held)
rows_without page held = grind (arith, filter_mapped)

-- what is held with one row more has the rows with that row
pub rows_with : (h : Held) (held : List Held) → rows_of (with_held h held) ≡ with_row h.row (rows_of held)
rows_with h held = search (rules, map-append, filter_mapped)

-- whether the order says that a scan visits a page makes no difference to what is held
pub marked_same : (pass : ℕ) (slab : Slab Entry) (page : GuestPage) (m : Bool) (order : List Named) → held_in pass slab (marked page m order) ≡ held_in pass slab order
marked_same pass slab page m order = grind (arith, map_mapped)

-- a state that is settled twice is the state settled once
pub settled_again : (state : PageState) → settled_state (settled_state state) ≡ settled_state state
settled_again state = grind arith

-- a row that does not wait is settled
pub idle_settled : (r : Row) → waiting_state r.state ≡ false → settled r ≡ r
idle_settled r idle = grind arith

module _ {rows : List Row} (rise : InPageOrder rows) (page : GuestPage) {old : Row} (found : row_at page rows ≡ Some old) {tally : Tally} (later : Tally) (are : IsTally rows tally) where
  -- the row of a page went to another state
  module _ (new : Row) where
    abbrev changed : List Row
    changed = change_row page (λ _. new) rows

    room : length rows < 2 ^ 64 → (p : Row → Bool) {n : ℕ} → n ≡ count_by p rows → n + one_if (p new) < 2 ^ 64 + one_if (p old)
    room few p is = grind (arith, count_change_row p page (λ _. new) rows old rise found, count_by-le-length, length-map)

    has : (p : Row → Bool) {n : ℕ} → n ≡ count_by p rows → one_if (p old) ≤ n
    has p is = omega (arith, count_without_page p page rows old rise found, is)

    -- a tally of the rows can take one row from its state to another
    pub can_move : length rows < 2 ^ 64 → CanMove old.state new.state tally
    can_move few = search (rules, has, room few)

    meets : (p : Row → Bool) {n m : ℕ} → n ≡ count_by p rows → m + one_if (p old) ≡ n + one_if (p new) → m ≡ count_by p changed
    meets p is moved = grind (arith, count_change_row p page (λ _. new) rows old rise found)

    -- a tally moved from a row's old state to its new one counts the rows with that row changed
    pub tally_changed : IsMoved old.state new.state tally later → IsTally changed later
    tally_changed moved = search (rules, meets)

  -- the row of a page went
  left : (p : Row → Bool) {n m : ℕ} → n ≡ count_by p rows → m + one_if (p old) ≡ n + 0 → m ≡ count_by p (without_page page rows)
  left p is moved = grind (arith, count_without_page)

  -- a tally moved from a row's state to Private counts the rows without that row
  pub tally_gone : IsMoved old.state Private tally later → IsTally (without_page page rows) later
  tally_gone moved = search (rules, left)

-- a Private row that comes leaves the tally as it is
pub tally_put : {rows : List Row} (row : Row) {tally : Tally} → row_at row.page rows ≡ None → row.state ≡ Private → IsTally rows tally → IsTally (with_row row rows) tally
tally_put {rows} row absent alone are = search (rules, count_with_row)

-- where what is held of a page lies: on a frame, or on none where nothing is held
abbrev pub seat : (ℕ → Option ℕ) → Option Held → Option ℕ
seat of_dup None = None
seat of_dup (Some h) = frame_seen of_dup (mapping_of h.row.state) h.frame

-- a page lies where what is held of it says
pub frame_by : (of_dup : ℕ → Option ℕ) (held : List Held) (page : GuestPage) → frame_of (lodgings_of of_dup held) page ≡ seat of_dup (held_at page held)
frame_by of_dup [] page = refl
frame_by of_dup (h ∷ held) page = grind (arith, frame_by of_dup held page)

-- where something else is held of one page, and of any other what was, only that page moves
pub lodged_one : (of_dup : ℕ → Option ℕ) (page : GuestPage) (held later : List Held) {o : Option Held} → held_at page later ≡ o
    → ((p : GuestPage) → same_page page p ≡ false → held_at p later ≡ held_at p held)
    → frame_of (lodgings_of of_dup later) ≡ lies_on page (seat of_dup o) (frame_of (lodgings_of of_dup held))
lodged_one of_dup page held later {o} here others = λ i p. at p i
  where
    at : (p : GuestPage) → frame_of (lodgings_of of_dup later) p ≡ (if same_page p page then seat of_dup o else frame_of (lodgings_of of_dup held) p)
    at p = search (rules, same_page_eq, frame_by, same_page_sym)

abbrev pub page_of : Held → GuestPage
page_of h = h.row.page

-- the page comes to lie where its changed row says, and no other page moves
pub lodged_changed : (page : GuestPage) (f : Held → Held) → ((h : Held) → (f h).row.page ≡ h.row.page) → (of_dup : ℕ → Option ℕ) (held : List Held) {h : Held}
    → held_at page held ≡ Some h → frame_of (lodgings_of of_dup (change_held page f held)) ≡ lies_on page (seat of_dup (Some (f h))) (frame_of (lodgings_of of_dup held))
lodged_changed page f same of_dup held found =
    lodged_one _ _ _ _ (find_changed _ page f same _ _ found) (λ p apart. find_changed_other _ _ f same p _ apart)

-- a page whose row is gone lies on no frame
pub lodged_gone : (page : GuestPage) (of_dup : ℕ → Option ℕ) (held : List Held) → frame_of (lodgings_of of_dup (without_held page held)) ≡ lies_on page None (frame_of (lodgings_of of_dup held))
lodged_gone page of_dup held = lodged_one _ _ _ _ (find_gone page_of page _) (λ p apart. find_gone_other page_of _ p held apart)

-- no dup has the tree and bytes of a row, if it is said to be alone
abbrev pub IsLone : Knobs → List DupRow → Held → Type 0
IsLone knobs dups h = is_alone h.in_tree ≡ true → All (λ d. in_group (tree_of knobs h.row) h.row.bytes d ≡ false) dups

-- a row that may have dups of its content is not said to be alone
pub not_alone : (t : InTree) → is_alone (beside t) ≡ false
not_alone t = grind arith

-- a row that shares a frame is not said to be alone
pub shared_lone : (knobs : Knobs) (dups : List DupRow) (state : PageState) (h : Held) → IsLone knobs dups (shares state h)
shared_lone knobs dups state h is = absurd (true≢false (sym is ∙ not_alone h.in_tree))

-- what is kept of rows in order is in order
pub held_rise : (held : List Held) → InPageOrder (rows_of held) → AllPairs (λ h g. comes_before h.row.page g.row.page ≡ true) held
held_rise held rise i j d less lt =
    let row : Held → Row = λ h. h.row in
    ap₂ (λ (r s : Row). comes_before r.page s.page) (sym (get_or-map row held i d)) (sym (get_or-map row held j d))
    ∙ rise i j d.row less (omega (arith, lt, length-map held row))

-- of rows in order each is found at its page
pub each_held : (held : List Held) → InPageOrder (rows_of held) → All (λ h. held_at h.row.page held ≡ Some h) held
each_held held rise = each_found (λ (h : Held). h.row.page) held (held_rise held rise)

module _ (knobs : Knobs) (dups : List DupRow) where
  -- where the row of a page changes, and is alone if it says so, so are all
  pub lone_changed : (page : GuestPage) (f : Held → Held) (held : List Held) {h : Held} → InPageOrder (rows_of held)
      → held_at page held ≡ Some h → (IsLone knobs dups h → IsLone knobs dups (f h)) → AreAlone knobs held dups
      → AreAlone knobs (change_held page f held) dups
  lone_changed page f held {h} rise found keeps are =
      rw (change_one (λ (h : Held). h.row.page) page f held (held_rise held rise) found)
      (All-map (IsLone knobs dups) _ held (λ k d lt.
      cond_both _ _ _ (IsLone knobs dups) (λ _. keeps (find_all (holds page) (IsLone knobs dups) held h found are)) (λ _. are k d lt)))

  -- the same with one more
  pub lone_with : (h : Held) (held : List Held) → IsLone knobs dups h → AreAlone knobs held dups → AreAlone knobs (with_held h held) dups
  lone_with h held lone are =
      All-append (IsLone knobs dups) (filter (λ g. comes_before g.row.page h.row.page) held) _
      (All-filter _ (IsLone knobs dups) held are)
      (All-cons (IsLone knobs dups) h _ lone (All-filter _ (IsLone knobs dups) held are))
