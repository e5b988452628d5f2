-- The pages once the row of one page changed, or went: they are lawful still, and what is seen of them is changed so.
use Rattle.ksm_pages.proofs.Names.{altered, ap, AreAlone, AreKept, AreTied, arith, Bool, change_row, Dup, dup_rows, DupsState, false, find_passes, frame_of, Frames, GuestPage, Held, held_at}
use Rattle.ksm_pages.proofs.Names.{InPageOrder, Inside, is_some, IsAlone, IsKnown, Knobs, lies_on, List, lodging, lodgings_of, MatchOption, None, not, Option, option_map, ordered_change, PagesValue}
use Rattle.ksm_pages.proofs.Names.{PagesView, relaid, Row, row_at, rows_of, RowsView, same_page_eq, seen, shared_state, Some, subst, sym, tree_by, tree_of, true, ℕ, ◌==◌, ◌∙◌, ◌≡◌}
use Rattle.ksm_pages.proofs.Names.{Entry, held_of, IsHeld, refl, Spot, told_by}
use Rattle.ksm_pages.proofs.Changing.{frame_by, held_rise, IsLone, lodged_changed, lone_changed, page_of, row_told, rows_changed, seat}
use Rattle.ksm_pages.proofs.Found.{change_one}

-- where the items of each dup lie
abbrev pub of_dup : Inside → ℕ → Option ℕ
of_dup s = lodging (dup_rows s.dups.dups) s.frames.items

-- the tree of a row with a home
pub tree_is : (knobs : Knobs) {by_node : Bool} → by_node ≡ not (knobs.merge_across_nodes == 1) → (row : Row)
    → tree_by by_node row.home ≡ tree_of knobs row
tree_is knobs by row = grind arith

-- what is seen of the pages inside, as the value that tells pages apart
abbrev pub view_of : Inside → PagesValue
view_of s = record {
  shape = s.shape;
  rows = rows_of s.rows.held;
  lodgings = lodgings_of (of_dup s) s.rows.held;
  dups = dup_rows s.dups.dups;
  knobs = s.knobs;
  next = s.dups.next;
}

-- the pages inside are lawful
abbrev pub AreLawful : Inside → Type 0
AreLawful s = AreKept s.shape s.knobs s.rows s.dups s.frames.items

-- no dup has the tree and bytes of a row, if it is said to be alone
abbrev pub IsLoneIn : Inside → Held → Type 0
IsLoneIn s h = IsLone s.knobs (dup_rows s.dups.dups) h

-- the rows became these, and the unstable trees are of the nodes, or of all, as they were
pub record Become (old new : RowsView) (these : List Held) : Type 0 where
  pub held : new.held ≡ these
  pub by_node : new.by_node ≡ old.by_node

-- a call that changed rows, and at most the number of the pass with them, made them become these
pub held_as : {old new : RowsView} {held : List Held} {pass : ℕ} → new ≡ record old { held = held; pass = pass } → Become old new held
held_as same = record { held = λ i. (same i).held; by_node = λ i. (same i).by_node }

-- the pages with other rows and dups are lawful, and are seen as the new view says
pub record Comes (s : Inside) (rows : RowsView) (later : DupsState) (new : PagesView) : Type 0 where
  pub lawful : AreKept s.shape s.knobs rows later s.frames.items
  pub told_as : seen (view_of (record s { rows = rows; dups = later })) ≡ new

-- other rows come, and dups that have other items at most: the pages are lawful if the new rows are in order and tied to the new
-- dups, and those that are said to be alone are so
pub comes : (s : Inside) → AreLawful s → (rows : RowsView) {held : List Held} → Become s.rows rows held → {now : List Row}
    → rows_of held ≡ now → {ds : List Dup} {later : DupsState}
    → later ≡ record s.dups { dups = ds } → dup_rows ds ≡ dup_rows s.dups.dups
    → InPageOrder now → AreTied now ds → AreAlone s.knobs held (dup_rows s.dups.dups)
    → {lay : Frames} → frame_of (lodgings_of (of_dup s) held) ≡ lay
    → Comes s rows later (record (seen (view_of s)) { rows = now; frame = lay })
comes s are rows {held} new {now} is {ds} {later} rest alike order tied alone {lay} lain =
    let same : dup_rows later.dups ≡ dup_rows s.dups.dups = (λ i. dup_rows (rest i).dups) ∙ alike in
    let are_now : rows_of rows.held ≡ now = ap rows_of new.held ∙ is in
    let are_dups : later.dups ≡ ds = λ i. (rest i).dups in
    record {
      lawful = record {
        small = are.small;
        order = rw are_now order;
        tied = rw (are_now, are_dups) tied;
        places = (λ i. (rest i).places) ∙ are.places;
        by_node = new.by_node ∙ are.by_node;
        alone = rw (new.held, same) alone;
        room = are.room;
      };
      told_as =
          let lies_so = ap (λ rs. frame_of (lodgings_of (lodging rs s.frames.items) rows.held)) same
          ∙ ap (λ hs. frame_of (lodgings_of (of_dup s) hs)) new.held ∙ lain in
          λ i. record (seen (view_of s))
          { rows = are_now i; frame = lies_so i; dups = same i; next = (rest i).next };
    }

-- a page that comes to lie where it lay does not move
pub lies_same : (page : GuestPage) {frames : Frames} → lies_on page (frames page) frames ≡ frames
lies_same page = grind arith

module _ (s : Inside) {p : PagesValue} (seen_as : view_of s ≡ p) (page : GuestPage) where
  -- the row of a page that is seen is the row of what is held of the page
  pub row_seen : {o : Option Held} → held_at page s.rows.held ≡ o → row_at page p.rows ≡ option_map (λ g. g.row) o
  row_seen is = grind (arith, ap (λ (v : PagesValue). v.rows) seen_as, row_told)

  -- how a page lies is told by what is kept of its row
  pub held_so : (spot : Spot) → spot.page ≡ page → (e : Entry) → held_at page s.rows.held ≡ Some (held_of s.rows.pass e)
      → IsHeld (seen p) page (told_by spot e)
  held_so spot of e found = rw (← seen_as) (record {
    row = (held_of s.rows.pass e).row;
    found = row_told page _ found;
    spot = of;
    home = refl;
    shared = grind arith;
    own = grind (arith, frame_by);
  })

  -- a page that has a row among those seen is held
  pub known_there : held_at page s.rows.held ≡ None → IsKnown page p.rows → true ≡ false
  known_there gone known = sym known ∙ ap is_some (row_seen gone)

  -- a page with a frame of its own is held, with a row that is not shared
  pub alone_found : {o : Option Held} → held_at page s.rows.held ≡ o → IsAlone page p.rows
      → MatchOption (option_map (λ g. g.row) o) (true ≡ false) (λ r. shared_state r.state ≡ false)
  alone_found found alone = subst (λ o. MatchOption o (true ≡ false) (λ (r : Row). shared_state r.state ≡ false)) (row_seen found) alone

module _ (s : Inside) (are : AreLawful s) (page : GuestPage) {h : Held} (found : held_at page s.rows.held ≡ Some h) where
  abbrev old : Row
  old = h.row

  -- what is held of a page tells its row among the rows
  pub row_there : row_at page (rows_of s.rows.held) ≡ Some old
  row_there = row_told page _ found

  -- the row that is held of a page is of that page
  pub of_page : old.page ≡ page
  of_page = grind (arith, same_page_eq, find_passes, row_there)

  -- the page lies where its row says
  pub lies : {p : PagesValue} → view_of s ≡ p → seat (of_dup s) (Some h) ≡ frame_of p.lodgings page
  lies seen_as = grind (arith, frame_by)

  -- once a page's row changed, the page is seen with the new row, on the frame that the new row says
  pub turned_so : {p : PagesValue} → view_of s ≡ p → {rows : RowsView} (f : Held → Held) → rows ≡ altered page f s.rows
      → ((x : Held) → (f x).row.page ≡ x.row.page) → {ds : List Dup} {later : DupsState} → later ≡ record s.dups { dups = ds }
      → dup_rows ds ≡ dup_rows s.dups.dups → (to : Row → Row) → ((r : Row) → (to r).page ≡ r.page) → (f h).row ≡ to old
      → AreTied (change_row page (λ _. to old) (rows_of s.rows.held)) ds → (IsLoneIn s h → IsLoneIn s (f h))
      → {frame : Option ℕ} → seat (of_dup s) (Some (f h)) ≡ frame → Comes s rows later (relaid page to frame (seen p))
  turned_so seen_as {rows} f turned pages rest alike to same agree tied lone lodged =
      let as_old = change_one (λ (r : Row). r.page) page to _ are.order row_there in
      let new = ap rows_of (change_one page_of page f _ (held_rise _ are.order) found)
      ∙ rows_changed page (λ _. f h) (λ _. to old) _ (λ _. agree) ∙ sym as_old in
      let lain = lodged_changed _ f pages _ _ found
      ∙ ap (λ o. lies_on page o (frame_of (lodgings_of (of_dup s) s.rows.held))) lodged in
      rw (← seen_as)
      (comes s are rows (held_as turned) new rest alike (ordered_change _ to _ same are.order) (rw as_old tied)
      (lone_changed s.knobs _ page f _ are.order found lone are.alone) lain)
