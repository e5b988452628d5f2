-- The pages once a call changed the row of one page, or gave it one: they are lawful, and what is seen of them changed so.
use Rattle.ksm_pages.proofs.Names.{[], All, All-filter, All-map, altered, ap, AreAlone, AreTied, arith, Bool, change_held, changed, cond_both, dup_rows, DupsState, Err, false, frame_of, get_or}
use Rattle.ksm_pages.proofs.Names.{GuestPage, Held, held_at, if◌then◌else◌, inl, InPageOrder, inr, Inside, is_alone, IsAlone, IsKnown, IsLeft, Knobs, let_out, lies_on, List, lodgings_of, map}
use Rattle.ksm_pages.proofs.Names.{map_fixed, map_mapped, MatchOption, merged_state, None, not, Ok, on_row, OnErr, OnOk, Option, option_and_then, ordered_map, ordered_with, ordered_without}
use Rattle.ksm_pages.proofs.Names.{out_of_tree, PagesValue, PagesView, Private, refl, relaid, Result, Row, row_at, rows_of, rows_out, RowsView, rules, same_page, seen, settled, settled_state}
use Rattle.ksm_pages.proofs.Names.{shared_state, Some, subst, sym, tied_dropped, tied_inserted, tied_left, tied_mapped, true≢false, waiting_state, with_held, with_row, without_held, without_page, ℕ}
use Rattle.ksm_pages.proofs.Names.{⊤, ◌==◌, ◌∙◌, ◌∷◌, ◌≡◌, ◌⊎◌}
use Rattle.ksm_pages.proofs.Changing.{held_rise, idle_settled, IsLone, lodged_gone, lodged_one, lone_with, nothing_held, rows_with, rows_without, seat, settled_again}
use Rattle.ksm_pages.proofs.Joined.{own_not_merged, seen_own}
pub use Rattle.ksm_pages.proofs.Leaving.{Comes, held_as}
use Rattle.ksm_pages.proofs.Leaving.{alone_found, AreLawful, Become, comes, IsLoneIn, known_there, lies, lies_same, of_dup, of_page, row_there, tree_is, turned_so, view_of}
use Rattle.ksm_pages.proofs.Found.{find_put, find_put_other}

-- a page has a row, and is let out of its dup
pub record HasLeft (s : Inside) (p : PagesValue) (page : GuestPage) (later : DupsState) (frames : List ℕ) (lone : Option ℕ) : Type 0 where
  pub lawful : AreLawful s
  pub seen_as : view_of s ≡ p
  pub held : Held
  pub found : held_at page s.rows.held ≡ Some held
  pub left : IsLeft frames s.dups later lone held

module _ {s : Inside} {p : PagesValue} {page : GuestPage} {later : DupsState} {frames : List ℕ} {lone : Option ℕ} where
  -- a page that is known, and which was let out, has left
  pub known_left : AreLawful s → view_of s ≡ p → IsKnown page p.rows
      → MatchOption (held_at page s.rows.held) ⊤ (IsLeft frames s.dups later lone) → HasLeft s p page later frames lone
  known_left are seen_as known left = grind (arith, known_there, seen_as)

  module _ (it : HasLeft s p page later frames lone) where
    at : it.held.row.page ≡ page
    at = of_page s it.lawful page it.found

    there : row_at page (rows_of s.rows.held) ≡ Some it.held.row
    there = row_there s it.lawful page it.found

    out : later ≡ record s.dups { dups = let_out it.held.row.state page s.dups.dups }
    out = grind (arith, at, it.left.dups)

    -- its row is not shared, where it has a frame of its own
    pub is_own : IsAlone page p.rows → shared_state it.held.row.state ≡ false
    is_own = alone_found s it.seen_as page it.found

    -- then it lay on the frame that is held of it
    pub own_frame : IsAlone page p.rows → option_and_then (λ (h : Held). h.frame) (held_at page s.rows.held) ≡ frame_of p.lodgings page
    own_frame alone =
        ap (option_and_then (λ (h : Held). h.frame)) it.found ∙ sym (seen_own _ _ _ (is_own alone)) ∙ lies s it.lawful page it.found it.seen_as

    -- a page that has left comes to another row, and lies where that row and its frame say
    pub moved : {rows : RowsView} (f : Held → Held) → rows ≡ altered page f s.rows → ((x : Held) → (f x).row.page ≡ x.row.page)
        → (to : Row → Row) → ((r : Row) → (to r).page ≡ r.page) → (f it.held).row ≡ to it.held.row
        → merged_state (to it.held.row).state ≡ false → (IsLoneIn s it.held → IsLoneIn s (f it.held)) → {frame : Option ℕ}
        → seat (of_dup s) (Some (f it.held)) ≡ frame → Comes s rows later (relaid page to frame (seen p))
    moved f turned pages to same agree apart =
        turned_so s it.lawful page it.found it.seen_as f turned pages out (rows_out _ _ _) to same agree
        (tied_left _ _ _ it.lawful.order there _ _ apart it.lawful.tied)

    -- it gets a frame of its own, with a Private row
    pub relaid_on : {rows : RowsView} (f : Held → Held) → rows ≡ altered page f s.rows → (to : Row → Row) {frame : ℕ}
        → ((x : Held) → ((f x).row ≡ to x.row) × ((f x).frame ≡ Some frame)) → ((r : Row) → ((to r).page ≡ r.page) × ((to r).state ≡ Private))
        → (IsLoneIn s it.held → IsLoneIn s (f it.held)) → Comes s rows later (relaid page to (Some frame) (seen p))
    relaid_on f turned to alike private keeps =
        let h = it.held in
        moved f turned (λ x. (λ i. ((alike x).0 i).page) ∙ (private x.row).0) to (λ r. (private r).0) (alike h).0
        (grind (arith, private h.row)) keeps (grind (arith, alike h, private h.row))

    -- with a frame of its own it keeps that, where its row changes to one that is not shared
    pub rested : IsAlone page p.rows → {rows : RowsView} (f : Held → Held) → rows ≡ altered page f s.rows → (to : Row → Row)
        → ((x : Held) → ((f x).row.page ≡ x.row.page) × ((f x).frame ≡ x.frame))
        → ((r : Row) → ((to r).page ≡ r.page) × (shared_state (to r).state ≡ false))
        → ((x : Held) → shared_state x.row.state ≡ false → (f x).row ≡ to x.row)
        → (IsLoneIn s it.held → IsLoneIn s (f it.held)) → Comes s rows later (changed page to (seen p))
    rested alone_seen {rows} f turned to alike own agree keeps =
        let h = it.held in
        let alone = is_own alone_seen in
        subst (λ lay. Comes s rows later (record (changed page to (seen p)) { frame = lay })) (lies_same page)
        (moved f turned (λ x. (alike x).0) to (λ r. (own r).0) (agree h alone) (own_not_merged _ (own h.row).1) keeps
        (grind (arith, alike h, own h.row, agree h alone, alone, lies s it.lawful page it.found it.seen_as)))

    -- a page that has left and whose row is gone is seen no more, and lies on no frame
    pub parted : {rows : RowsView} → rows ≡ record s.rows { held = without_held page s.rows.held }
        → Comes s rows later (record (seen p) { rows = without_page page p.rows; frame = lies_on page None (frame_of p.lodgings) })
    parted {rows} gone =
        rw (← it.seen_as)
        (comes s it.lawful rows (held_as gone) (rows_without page _) out (rows_out _ _ _)
        (ordered_without _ _ it.lawful.order)
        (tied_dropped _ _ _ it.lawful.order there _ it.lawful.tied)
        (All-filter _ (IsLoneIn s) s.rows.held it.lawful.alone)
        (lodged_gone _ _ _))

-- a page with a frame of its own is in no dup, and leaves nothing
pub own_left : {s : Inside} {p : PagesValue} {page : GuestPage} → AreLawful s → view_of s ≡ p → IsAlone page p.rows
    → HasLeft s p page s.dups s.frames.items (frame_of p.lodgings page)
own_left {s} {p} {page} are seen_as alone = go _ refl
  where
    go : (o : Option Held) → held_at page s.rows.held ≡ o → HasLeft s p page s.dups s.frames.items (frame_of p.lodgings page)
    go None gone = absurd (true≢false (alone_found s seen_as page gone alone))
    go (Some h) found =
        let own = alone_found s seen_as page found alone in
        let left : IsLeft s.frames.items s.dups s.dups (frame_of p.lodgings page) h =
        grind (arith, own, lies s are page found seen_as) in
        record { lawful = are; seen_as = seen_as; held = h; found = found; left = left }

rows_by : (F : Held → Held) (f : Row → Row) → ((x : Held) → (F x).row ≡ f x.row) → (held : List Held)
    → rows_of (map F held) ≡ map f (rows_of held)
rows_by F f is [] = refl
rows_by F f is (h ∷ held) = grind (arith, is h, rows_by F f is held)

module _ (s : Inside) (are : AreLawful s) {p : PagesValue} (seen_as : view_of s ≡ p) where
  -- where rows change, but for pages and dups, and those that are said to be alone were so, all rows are seen changed so
  pub still : (F : Held → Held) (f : Row → Row) → ((x : Held) → (F x).row ≡ f x.row) → ((x : Held) → (F x).frame ≡ x.frame)
      → ((r : Row) → (f r).page ≡ r.page) → ((r : Row) → settled_state (f r).state ≡ settled_state r.state)
      → ((x : Held) → IsLoneIn s x → IsLoneIn s (F x))
      → (rows : RowsView) → Become s.rows rows (map F s.rows.held)
      → Comes s rows s.dups (record (seen p) { rows = map f p.rows })
  still F f is framed pages like keeps rows turned =
      rw (← seen_as)
      (comes s are rows turned (rows_by F f is s.rows.held) refl refl (ordered_map f _ pages are.order)
      (tied_mapped f _ _ (λ k d lt. (pages _, λ number. grind (arith, like (get_or (rows_of s.rows.held) k d)))) are.tied)
      (All-map (IsLoneIn s) F s.rows.held (λ k d lt. keeps _ (are.alone k d lt)))
      (ap frame_of (map_mapped _ F _ s.rows.held (λ k d lt.
      let h = get_or s.rows.held k d in
      grind (arith, is h, framed h, pages h.row, like h.row)))))

  -- where a row changes, but for its page and state, only that row is seen changed
  pub stays : (page : GuestPage) (g : Row → Row) → ((r : Row) → (g r).page ≡ r.page) → ((r : Row) → (g r).state ≡ r.state)
      → ((x : Held) → IsLoneIn s x → IsLoneIn s (record x { row = g x.row }))
      → (rows : RowsView) → Become s.rows rows (change_held page (λ h. record h { row = g h.row }) s.rows.held)
      → Comes s rows s.dups (changed page g (seen p))
  stays page g same states keeps rows turned =
      still (λ h. if same_page h.row.page page then record h { row = g h.row } else h) (λ r. if same_page r.page page then g r else r)
      (λ x. grind arith) (λ x. grind arith) (λ r. grind (arith, same r)) (λ r. grind (arith, states r))
      (λ x lone. cond_both _ _ _ (IsLoneIn s) (λ _. keeps x lone) (λ _. lone)) rows turned

  -- where no row waits any more, and the tree then leads to none or to those that it did, all rows are seen settled
  pub settle_then : {rows later : RowsView} {pass : ℕ} → rows ≡ record s.rows { held = map (on_row settled) s.rows.held; pass = pass }
      → (later ≡ rows) ⊎ (later ≡ record rows { held = map out_of_tree rows.held })
      → Comes s later s.dups (record (seen p) { rows = map settled p.rows })
  settle_then {rows} {later} turned (inl same) =
      still (on_row settled) settled (λ x. refl) (λ x. refl) (λ r. refl) (λ r. settled_again r.state) (λ x lone. lone) later
      (held_as (same ∙ turned))
  settle_then {rows} {later} turned (inr out) =
      still (λ h. out_of_tree (on_row settled h)) settled (λ x. (λ i. record x.row { state = settled_again x.row.state i })) (λ x. refl)
      (λ r. refl) (λ r. settled_again r.state) (λ x _ is. cc) later
      (record {
        held = (λ i. (out i).held) ∙ (λ i. map out_of_tree (turned i).held) ∙ map_mapped _ _ _ s.rows.held (λ k d lt. refl);
        by_node = (λ i. (out i).by_node) ∙ (λ i. (turned i).by_node);
      })

-- with these rows the pages are lawful under the knobs, and nothing else is seen of them anew
abbrev pub Tuned : Inside → Knobs → RowsView → Type 0
Tuned s knobs rows = AreLawful (record s { rows = rows; knobs = knobs })
    × (seen (view_of (record s { rows = rows; knobs = knobs })) ≡ record (seen (view_of s)) { knobs = knobs })

module _ (s : Inside) (are : AreLawful s) (knobs : Knobs) {by_node : Bool} (is : by_node ≡ not (knobs.merge_across_nodes == 1)) (rows : RowsView) where
  -- rows that are as they were but for their trees leave the pages lawful, where those that are said to be alone are so
  pub tuned_by : rows_of rows.held ≡ rows_of s.rows.held → lodgings_of (of_dup s) rows.held ≡ lodgings_of (of_dup s) s.rows.held
      → rows.by_node ≡ by_node → AreAlone knobs rows.held (dup_rows s.dups.dups) → Tuned s knobs rows
  tuned_by same lain by alone =
      let order : InPageOrder (rows_of rows.held) = rw same are.order in
      let tied : AreTied (rows_of rows.held) s.dups.dups = rw same are.tied in
      let kept : AreLawful (record s { rows = rows; knobs = knobs }) = search rules in
      (kept, λ i. record (seen (view_of s)) { rows = same i; frame = frame_of (lain i); knobs = knobs })

  -- knobs that keep the trees of the rows, or under which no row waits, leave the pages lawful, and are seen
  pub tuned : ((by_node ≡ s.rows.by_node) × (rows ≡ s.rows))
      ⊎ ((by_node ≡ not s.rows.by_node) × (rows ≡ record s.rows { held = map out_of_tree s.rows.held; by_node = by_node }))
      → (knobs.merge_across_nodes ≡ s.knobs.merge_across_nodes) ⊎ All (λ r. waiting_state r.state ≡ false) (rows_of s.rows.held)
      → Tuned s knobs rows
  tuned (inl same) may =
      tuned_by (λ i. rows_of (same.1 i).held) (λ i. lodgings_of (of_dup s) (same.1 i).held) (grind (arith, same)) (rw same.1 (λ k d lt alone.
      let row = (get_or s.rows.held k d).row in
      rw (← tree_is knobs is row, same.0, tree_is s.knobs are.by_node row) (are.alone k d lt alone)))
  tuned (inr went) (inr idle) =
      tuned_by (ap rows_of (λ i. (went.1 i).held) ∙ rows_by out_of_tree settled (λ x. refl) _ ∙ map_fixed settled _ (λ k d lt. idle_settled _ (idle k d lt)))
      (ap (lodgings_of (of_dup s)) (λ i. (went.1 i).held) ∙ map_mapped _ out_of_tree _ s.rows.held (λ k d lt. grind arith)) (λ i. (went.1 i).by_node)
      (rw went.1 (All-map (IsLone knobs (dup_rows s.dups.dups)) out_of_tree s.rows.held (λ k d lt is. cc)))
  tuned (inr went) (inl merge) = absurd (grind (arith, are.by_node, merge, is, went.0))

-- the page comes to lie where its row says, and no other page moves
lodged_put : (of_dup : ℕ → Option ℕ) (held : List Held) (h : Held) → InPageOrder (rows_of held) → held_at h.row.page held ≡ None
    → frame_of (lodgings_of of_dup (with_held h held)) ≡ lies_on h.row.page (seat of_dup (Some h)) (frame_of (lodgings_of of_dup held))
lodged_put of_dup held h rise absent = search (rules, lodged_one, find_put, find_put_other, held_rise)

module _ (s : Inside) (are : AreLawful s) {p : PagesValue} (seen_as : view_of s ≡ p) (h : Held)
    (absent : row_at h.row.page p.rows ≡ None) where
  away : row_at h.row.page (rows_of s.rows.held) ≡ None
  away = grind arith

  -- a page that comes with a row that is not merged, and in no tree, leaves the pages lawful, and is seen with that row
  pub entered : merged_state h.row.state ≡ false → is_alone h.in_tree ≡ false → (rows : RowsView)
      → Become s.rows rows (with_held h s.rows.held)
      → Comes s rows s.dups (record (seen p) {
        rows = with_row h.row p.rows;
        frame = lies_on h.row.page (seat (of_dup s) (Some h)) (frame_of p.lodgings);
      })
  entered apart out rows put =
      rw (← seen_as)
      (comes s are rows put (rows_with h _) {ds = s.dups.dups} {later = s.dups} refl refl (ordered_with _ _ are.order)
      (tied_inserted _ _ _ are.order away apart are.tied)
      (lone_with s.knobs _ h _ (λ is. absurd (true≢false (sym is ∙ out))) are.alone) (lodged_put (of_dup s) _ _ are.order (nothing_held h.row.page s.rows.held away)))

-- where a page comes to lie on a frame, that frame may be named as the one on which the page lies now
pub but_there : {new : PagesView} (old : PagesView) (rows : List Row) (page : GuestPage) (o : Option ℕ)
    → new ≡ record old { rows = rows; frame = lies_on page o old.frame }
    → (new ≡ record old { rows = rows; frame = new.frame }) × (new.frame ≡ lies_on page (new.frame page) old.frame)
but_there {new} old rows page o is = grind arith

-- what follows from the promise for Ok, and also from the promise for an error, follows
pub either_way : {T E P O Q : Type 0} (r : Result T E) → OnOk r P → OnErr r O → (P → Q) → (O → Q) → Q
either_way (Ok x) holds fails so too = so holds
either_way (Err e) holds fails so too = too fails
