-- What a visit finds of a row that it may change: the row to which the unstable tree leads from its content, the partner;
-- and the pages once the row waits.
use Rattle.ksm_pages.proofs.Names.{All, All-map, all_rows, altered, AreInTree, AreWaitersLed, arith, best_dup, best_found, best_of, Bool, bytes_eq-Decides, changed, cond_both, Dup, DupRow}
use Rattle.ksm_pages.proofs.Names.{DupsState, each_at_page, Entry, false, find_all, find_none, find_nothing, find_passes, get_or, GuestPage, has_content, Held, held_at, held_of, holds, IfNone}
use Rattle.ksm_pages.proofs.Names.{if◌then◌else◌, in_group, in_tree_by, InPageOrder, Inside, is_in, IsAlone, IsFree, Knobs, List, map_mapped, MatchOption, nat_tests, None, NoneHas, not, Option}
use Rattle.ksm_pages.proofs.Names.{option_and_then, option_map, out_of_tree, page_in_tree, PagesValue, partner, refl, Row, row_at, rows_of, RowsView, rules, same_page, same_page_eq, same_page_refl}
use Rattle.ksm_pages.proofs.Names.{same_Some, seen, shared_state, Some, subst, sym, tied_counted, tree_by, tree_of, true, Waiting, waiting_in, waiting_state, waits_for, ℕ, ◌&&◌, ◌==◌, ◌∙◌, ◌≡◌, ◌⊎◌}
use Rattle.ksm_pages.proofs.Changing.{each_held, idle_settled, page_of, row_told}
use Rattle.ksm_pages.proofs.Options.{mapped_some}
use Rattle.ksm_pages.proofs.Leaving.{AreLawful, comes, Comes, held_as, IsLoneIn, of_page, row_seen, tree_is, view_of}
use Rattle.ksm_pages.specs.Held.{is_alone as is_alone_in, is_restless as is_restless_entry}
use Rattle.ksm_pages.specs.Paged.{is_restless}
use Rattle.ksm_pages.proofs.Found.{find_changed_other}
use Rattle.ksm_pages.proofs.Spots.{restless_as}
use Rattle.ksm_pages.proofs.Turning.{own_left, rested}

-- a row that waits for another waits, is of another page, and has the same content
pub waits_parts : (knobs : Knobs) (row w : Row) → waits_for knobs row w ≡ true
    → (waiting_state w.state ≡ true) × (same_page w.page row.page ≡ false) × (tree_of knobs w ≡ tree_of knobs row) × (w.bytes ≡ row.bytes)
waits_parts knobs row w is = grind (arith, nat_tests, bytes_eq-Decides w.bytes row.bytes)

-- the row of a page, where it waits and is of another page than this
abbrev pub waits_at : List Row → GuestPage → GuestPage → Option Row
waits_at rows own page =
    option_and_then (λ w. if waiting_state w.state && not (same_page page own) then Some w else None) (row_at page rows)

-- a row that waits there is of that page
pub waits_page : (rows : List Row) (own page : GuestPage) (b : Bool)
    → MatchOption (row_at page rows) (b ≡ false) (λ r. b ≡ waiting_state r.state) → (same_page page own ≡ true → b ≡ false)
    → option_map (λ w. w.page) (waits_at rows own page) ≡ (if b then Some page else None)
waits_page rows own page b told apart = grind (arith, same_page_eq, find_passes)

module _ (v : RowsView) (found : AreInTree v) where
  -- each row in the tree with a tree and bytes is found by these
  pub each_led : (tree : ℕ) (bytes : List ℕ)
      → All (λ h. has_content v.by_node tree bytes h ≡ true → page_in_tree v tree bytes ≡ Some h.row.page) v.held
  each_led tree bytes k d lt has = grind (arith, nat_tests, bytes_eq-Decides)

  module _ (page : GuestPage) (h : Held) {tree : ℕ} (of_home : tree_by v.by_node h.row.home ≡ tree) where
    -- where the tree leads from the content of a page's row to none, or to that page, it leads to no other row
    pub free_by : (page_in_tree v tree h.row.bytes ≡ None) ⊎ (page_in_tree v tree h.row.bytes ≡ Some page) → IsFree v page h
    free_by is k d lt other = grind (arith, of_home, each_led tree h.row.bytes k d lt, is, same_page_refl)

    -- where it leads to a row that it leads to no more, it leads to none
    pub free_but : {other : GuestPage} → page_in_tree v tree h.row.bytes ≡ Some other → IsFree (altered other out_of_tree v) page h
    free_but is =
        All-map (λ g. holds page g ≡ false → has_content v.by_node (tree_by v.by_node h.row.home) h.row.bytes g ≡ false) _ v.held (λ k d lt apart.
        grind (arith, of_home, each_led tree h.row.bytes k d lt, is, same_page_refl (get_or v.held k d).row.page))

module _ (knobs : Knobs) (v : RowsView) (rise : InPageOrder (rows_of v.held))
    (by : v.by_node ≡ not (knobs.merge_across_nodes == 1))
    (led : AreWaitersLed v.held) (found : AreInTree v) (row : Row) where
  abbrev rows : List Row
  rows = rows_of v.held

  -- the page to which the tree leads from the row's content
  abbrev pub led_to : Option GuestPage
  led_to = page_in_tree v (tree_of knobs row) row.bytes

  each_waiter : All (λ r. waits_for knobs row r ≡ true → led_to ≡ Some r.page) rows
  each_waiter = All-map (λ r. waits_for knobs row r ≡ true → led_to ≡ Some r.page) (λ (h : Held). h.row) v.held (λ k d lt waits.
      let h = get_or v.held k d in
      let has : has_content v.by_node (tree_of knobs row) row.bytes h ≡ true = grind (arith, led k d lt, tree_is knobs by h.row, waits) in
      each_led v found _ _ k d lt has)

  -- a partner is the row to which the tree leads
  partner_led : {w : Row} → partner knobs rows row ≡ Some w
      → (led_to ≡ Some w.page) × (row_at w.page rows ≡ Some w) × (waits_for knobs row w ≡ true)
  partner_led {w} is =
      let led_there = find_all (waits_for knobs row) (λ r. waits_for knobs row r ≡ true → led_to ≡ Some r.page) rows w is each_waiter in
      let there = find_all (waits_for knobs row) (λ r. row_at r.page rows ≡ Some r) rows w is (each_at_page rows rise) in
      grind (arith, find_passes (waits_for knobs row) rows w is, led_there, there)

  -- a row of the page to which the tree leads has the content of the row
  content : {page : GuestPage} {w : Row} → led_to ≡ Some page → row_at page rows ≡ Some w
      → waits_for knobs row w ≡ (waiting_state w.state && not (same_page page row.page))
  content {page} {w} there at =
      let has = has_content v.by_node (tree_of knobs row) row.bytes in
      let h = mapped_some _ _ there in
      let here = find_all has (λ x. held_at x.row.page v.held ≡ Some x) v.held h.0 h.1 (each_held v.held rise) in
      let is_row : w ≡ h.0.row = grind (arith, row_told h.0.row.page v.held here, h.2, at) in
      grind (arith, find_passes has v.held h.0 h.1, is_row, h.2, tree_is knobs by h.0.row)

  -- the partner of the row is the row to which the tree leads, where that waits and is another
  partner_is : partner knobs rows row ≡ option_and_then (waits_at rows row.page) led_to
  partner_is = go _ refl
    where
      go : (o : Option Row) → partner knobs rows row ≡ o → o ≡ option_and_then (waits_at rows row.page) led_to
      go None is =
          let none = λ (page : GuestPage) (w : Row) (at : row_at page rows ≡ Some w). find_all (λ r. same_page r.page page)
          (λ r. waits_for knobs row r ≡ false) rows w at (find_none (waits_for knobs row) rows is) in
          grind (arith, none, content)
      go (Some w) is = grind (arith, partner_led is, content)

-- no row that waits has a partner
pub waiters_lonely : (knobs : Knobs) (v : RowsView) → InPageOrder (rows_of v.held) → v.by_node ≡ not (knobs.merge_across_nodes == 1)
    → AreWaitersLed v.held → AreInTree v
    → All (λ r. waiting_state r.state ≡ true → partner knobs (rows_of v.held) r ≡ None) (rows_of v.held)
waiters_lonely knobs v rise by led found =
    All-map (λ r. waiting_state r.state ≡ true → partner knobs (rows_of v.held) r ≡ None) (λ (h : Held). h.row) v.held (λ k d lt waits.
    let row = (get_or v.held k d).row in
    grind (arith, partner_is knobs v rise by led found row, tree_is knobs by row, found k d lt (led k d lt waits), same_page_refl row.page))

-- a row in the tree is found by its content
pub held_led : (knobs : Knobs) (v : RowsView) → v.by_node ≡ not (knobs.merge_across_nodes == 1) → AreInTree v → (page : GuestPage) {h : Held}
    → held_at page v.held ≡ Some h → is_in h.in_tree ≡ true → page_in_tree v (tree_of knobs h.row) h.row.bytes ≡ Some h.row.page
held_led knobs v by found page {h} at is =
    rw (← tree_is knobs by h.row)
    (find_all (holds page) (λ x. is_in x.in_tree ≡ true → page_in_tree v (tree_by v.by_node x.row.home) x.row.bytes ≡ Some x.row.page)
    v.held h at found is)

-- the partner of a page's row is the row to which the tree of its home leads from its bytes, where that waits and is another
pub partner_by : (s : Inside) → AreLawful s → {p : PagesValue} → view_of s ≡ p → (page : GuestPage) (e : Entry)
    → held_at page s.rows.held ≡ Some (held_of s.rows.pass e) → AreWaitersLed s.rows.held → AreInTree s.rows
    → {tree : ℕ} → ((r : Row) → r.home ≡ e.home → tree ≡ tree_of s.knobs r)
    → partner p.knobs p.rows (held_of s.rows.pass e).row ≡ option_and_then (waits_at (rows_of s.rows.held) page) (page_in_tree s.rows tree e.bytes)
partner_by s are seen_as page e found led found_by in_tree =
    let row = (held_of s.rows.pass e).row in
    rw (← seen_as, in_tree row refl, ← of_page s are page found) (partner_is s.knobs s.rows are.order are.by_node led found_by row)

-- groups that got other numbers leave the pages lawful
pub lawful_numbered : (s : Inside) {later : DupsState} → later ≡ record s.dups { numbers = later.numbers; most = later.most }
    → AreLawful s → AreLawful (record s { dups = later })
lawful_numbered s kept are = search rules

-- a visit may change the row of a page
pub record IsAsked (s : Inside) (p : PagesValue) (page : GuestPage) (e : Entry) : Type 0 where
  pub lawful : AreLawful s
  pub seen_as : view_of s ≡ p
  pub found : held_at page s.rows.held ≡ Some (held_of s.rows.pass e)
  pub restless : is_restless_entry e ≡ true

-- where no dup has the tree and bytes, a page may join none
pub none_best : (tree : ℕ) (bytes : List ℕ) (limit : ℕ) (dups : List Dup) → NoneHas tree bytes dups → best_of tree bytes limit dups ≡ None
none_best tree bytes limit dups none = find_nothing _ dups (λ k d lt. grind (arith, none k d lt))

-- a visit may change this row
pub asked : (s : Inside) → AreLawful s → {p : PagesValue} → view_of s ≡ p → {page : GuestPage} (e : Entry)
    → held_at page s.rows.held ≡ Some (held_of s.rows.pass e) → is_restless_entry e ≡ true → IsAsked s p page e
asked s are seen_as e found restless = search rules

module _ {s : Inside} {p : PagesValue} {page : GuestPage} {e : Entry} (it : IsAsked s p page e) where
  abbrev row : Row
  row = (held_of s.rows.pass e).row

  may : is_restless row ≡ true
  may = restless_as _ e ∙ it.restless

  -- a row that is asked has a frame of its own
  pub alone : shared_state row.state ≡ false
  alone = grind (arith, may)

  -- and so it is seen among the rows
  pub alone_seen : IsAlone page p.rows
  alone_seen = rw (row_seen s it.seen_as _ it.found) alone

  module _ {tree : ℕ} (in_tree : (r : Row) → r.home ≡ e.home → tree ≡ tree_of s.knobs r) where
    -- the row is of the page, a visit may change it, and the dup that it may join is the best by the tree of its home
    pub known : (row_at page p.rows ≡ Some row) × (row.page ≡ page) × (is_restless row ≡ true)
        × (best_dup p.knobs p.rows p.dups row ≡ option_map (λ d. d.row) (best_of tree e.bytes s.knobs.max_page_sharing s.dups.dups))
        × (tree ≡ tree_of s.knobs row)
    known = (
      row_seen s it.seen_as _ it.found,
      of_page s it.lawful _ it.found,
      may,
      rw (← it.seen_as, in_tree row refl) (sym (search (rules, best_found, tied_counted))),
      in_tree row refl,
    )

    -- no dup has the content of a row that is said to be alone
    pub lone_none : is_alone_in e.in_tree ≡ true → NoneHas tree row.bytes s.dups.dups
    lone_none is = rw (in_tree row refl) (all_rows (λ (d : DupRow). in_group (tree_of s.knobs row) row.bytes d ≡ false) s.dups.dups
        (find_all (holds page) (IsLoneIn s) s.rows.held (held_of s.rows.pass e) it.found it.lawful.alone is))

    -- a row that enters the tree is said to be alone only where no dup has its content
    pub entered_lone : (group : Option ℕ) → IfNone group (NoneHas tree e.bytes s.dups.dups)
        → IsLoneIn s (waiting_in (in_tree_by group) (held_of s.rows.pass e))
    entered_lone None none is =
        rw (← in_tree row refl) (All-map (λ (d : DupRow). in_group tree row.bytes d ≡ false) (λ (d : Dup). d.row) _ none)
    entered_lone (Some group) any is = cc

  module _ (other : GuestPage) (apart : same_page other page ≡ false) {b : Bool} (idle : b ≡ false)
      (told : MatchOption (row_at other (rows_of s.rows.held)) (b ≡ false) (λ r. b ≡ waiting_state r.state)) where
    abbrev gone : Held → Held
    gone h = if holds other h then out_of_tree h else h

    -- where the tree leads no more to a row that does not wait, the rows are what they were
    rows_stay : All (λ h. (gone h).row ≡ h.row) s.rows.held
    rows_stay k d lt =
        let h = get_or s.rows.held k d in
        grind (arith, same_page_eq h.row.page other, each_held s.rows.held it.lawful.order k d lt, row_told other s.rows.held {o = Some h}, told, idle, idle_settled h.row)

    -- and another row may still be asked
    pub still_asked : IsAsked (record s { rows = altered other out_of_tree s.rows }) p page e
    still_asked =
        let same = map_mapped _ gone _ s.rows.held rows_stay in
        let lodged = map_mapped _ gone _ s.rows.held (λ k d lt. grind (arith, rows_stay k d lt)) in
        let lone = All-map (IsLoneIn s) gone s.rows.held (λ k d lt.
        let h = get_or s.rows.held k d in
        cond_both (holds other h) (out_of_tree h) h (IsLoneIn s) (λ _ is. cc) (λ _. it.lawful.alone k d lt)) in
        record {
          lawful = (comes s it.lawful (altered other out_of_tree s.rows) (held_as refl) same {ds = s.dups.dups} {later = s.dups} refl refl
              it.lawful.order it.lawful.tied lone refl).lawful;
          seen_as = (λ i. record (view_of s) { rows = same i; lodgings = lodged i }) ∙ it.seen_as;
          found = find_changed_other page_of other out_of_tree (λ h. refl) page s.rows.held apart ∙ it.found;
          restless = it.restless;
        }

-- a row may enter the tree, which leads from its content to no other, and has no partner
pub record MayEnter (s : Inside) (p : PagesValue) (page : GuestPage) (e : Entry) (group : Option ℕ) : Type 0 where
  pub asked : IsAsked s p page e
  pub lone : IsLoneIn s (waiting_in (in_tree_by group) (held_of s.rows.pass e))
  pub lonely : partner p.knobs p.rows (held_of s.rows.pass e).row ≡ None
  pub free : IsFree s.rows page (held_of s.rows.pass e)

-- the pages are lawful once it has entered, and it is seen to wait
pub entered : {s : Inside} {p : PagesValue} {page : GuestPage} {e : Entry} {group : Option ℕ} → MayEnter s p page e group
    → {rows : RowsView} → rows ≡ altered page (waiting_in (in_tree_by group)) s.rows
    → Comes s rows s.dups (changed page (λ r. record r { state = Waiting }) (seen p))
entered {s} {group = group} it turned =
    let left = own_left it.asked.lawful it.asked.seen_as (alone_seen it.asked) in
    rested left (alone_seen it.asked) _ turned (λ r. record r { state = Waiting }) (λ x. (refl, refl)) (λ r. (refl, refl)) (λ x _. refl)
    (λ _. subst (λ h. IsLoneIn s (waiting_in (in_tree_by group) h)) (same_Some _ _ (sym it.asked.found ∙ left.found)) it.lone)
