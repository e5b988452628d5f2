-- The visit of a page that is due, by what was found of it: it takes over from none, but where a row further on waits
-- for it; and which pages are due then.
use Rattle.ksm_book.proofs.Names.{ap, AreDue, arith, before_differs, best_dup, BookState, BookValue, BookView, change_row, Comes, comes_before, due_visited, Dup, each_at_page, false, Find, find_all}
use Rattle.ksm_book.proofs.Names.{find_passes, FindsRow, freed, GuestPage, has_item, hidden_from, is_restless, IsAlone, IsLaid, IsSound, KeeperView, List, None, not, not_both, one_before, Option}
use Rattle.ksm_book.proofs.Names.{own_not_merged, OwnPage, page_visited, PagesView, Partner, refl, restless_at, row_at, row_visited, same_page, same_page_eq, same_page_refl, same_page_sym, settled}
use Rattle.ksm_book.proofs.Names.{count_by, has_gone_by, if◌then◌else◌, Reach, Some, state_of, StaysBefore, subst, sym, takes_over, TakesOver, true, view_of, visits, VisitsPage, waits_for, waits_tells, WaitsFor, waits_later, with_rows, ℕ, ◌&&◌, ◌-◌, ◌||◌, ◌∙◌}
use Rattle.ksm_book.proofs.Names.{◌∷◌, ◌≡◌}
use Rattle.ksm_book.proofs.DueKept.{calm_stays, calm_undue, freed_found, freed_sound, none_waits, IsDueNoMore, narrowed_over, own_due, row_undue}
use Rattle.ksm_book.proofs.RowVisits.{finds_it, Meets, page_is, restless_own, shared_visited, there_is, waits_visited}
use Rattle.ksm_book.proofs.Singles.{book}
use Rattle.ksm_pages.specs.declared.pages.Find.TheVariants as finds
use Rattle.ksm_book.proofs.ByPage.{filled_by, found_page}
use Rattle.ksm_book.proofs.Folded.{changed_comes, comes_by, comes_to}
use Rattle.ksm_book.proofs.SoFar.{KeepsLater, later_changed, one_later, row_later}

-- by what was found of a page, this was done then, where the page takes over from none and is due no longer
abbrev pub Leaves : Find → GuestPage → BookView → BookView → Type 0
Leaves finds.Gone page v w = w ≡ v
Leaves finds.Waits page v w = w ≡ v
Leaves finds.Changed page v w = true ≡ false
Leaves (Partner other) page v w = (comes_before other page ≡ true) × VisitsPage v w page
Leaves _ page v w = VisitsPage v w page

module _ {p : PagesView} {k : KeeperView} {cursor : Option GuestPage} {passes : ℕ} where
  module _ {v : BookView} {page : GuestPage} {q : PagesView} where
    -- a page that meets no earlier one is to wait in the stead of the other
    pub partner_takes : (other : GuestPage) → Meets (Partner other) p q k cursor passes v page
        → comes_before other page ≡ false → TakesOver (state_of p cursor passes) page other
    partner_takes other at none =
        let met = filled_by _ at.so.4 in
        record {
          row = at.row;
          found = at.found;
          takes = grind (arith, at.so, met.1, one_before, waits_tells, find_passes, page_is at);
          waiter = met.0;
          waits = met.1;
          is = met.2;
        }

    -- a page whose bytes had changed stays due
    pub changed_keeps : Meets finds.Changed p q k cursor passes v page → (due : List GuestPage)
        → has_item page due ≡ true → AreDue v.state due → AreDue (state_of q cursor passes) due
    changed_keeps at due there was =
        rw at.so.3
        (own_due (state_of p cursor passes) at.row.page (λ r. record r { unchanged = true; state = OwnPage }) at.row at.sound.rows_rise
        (there_is at) (own_not_merged _ (restless_own at.row at.so.0), refl) due due (grind (arith, page_is at)) (λ g _ is. is)
        (grind (arith, at.is)))

    -- and as many rows wait later
    pub changed_later : Meets finds.Changed p q k cursor passes v page → KeepsLater page v.state (state_of q cursor passes)
    changed_later at reach past =
        rw at.so.3 (grind (
          arith,
          page_is at,
          at.is,
          one_later (state_of p cursor passes) at.row (λ r. record r { unchanged = true; state = OwnPage }) (λ r. refl) reach,
        ))

  module _ (v w : BookValue) (page : GuestPage) where
    met_left : {f : Find} {q : PagesView} (at : Meets f p q k cursor passes (view_of v) page) → is_restless at.row ≡ true
        → takes_over (state_of p cursor passes) at.row ≡ false
        → (best_dup p.knobs p.rows p.dups at.row ≡ None → at.row.unchanged ≡ true)
        → Comes v w (λ s. page_visited s page) → Comes v w (λ s. due_visited s page) × IsDueNoMore page v.state w.state × KeepsLater page v.state w.state
    met_left at restless stays same comes = (
      comes_by v w _ _ comes (λ _ deed _. grind (arith, at.found, at.is)),
      λ pages was. let state : w.state ≡ row_visited (state_of p cursor passes) at.row =
          grind (arith, comes_to v w _ comes, at.found, at.is) in
          let due = subst (λ (x : BookView). AreDue x.state (page ∷ pages)) (sym at.is) was in
          rw state (row_undue _ at.sound at.row (there_is at) restless pages (rw (page_is at) due) same),
      λ reach past. let state : w.state ≡ row_visited (state_of p cursor passes) at.row =
          grind (arith, comes_to v w _ comes, at.found, at.is) in
          rw state (row_later (state_of p cursor passes) at.row stays restless reach (rw (page_is at) past)
          ∙ ap (λ (x : BookView). count_by (waits_later reach) x.state.rows) at.is),
    )

    -- that was the visit of what is due then, and the page is due no longer
    pub left_due : (f : Find) (q : PagesView) → IsSound (state_of p cursor passes) × IsLaid p k → book p k cursor passes ≡ view_of v
        → FindsRow p q page f → Leaves f page (book q k cursor passes) (view_of w)
        → Comes v w (λ s. due_visited s page) × IsDueNoMore page v.state w.state × KeepsLater page v.state w.state
    left_due finds.Gone q lawful told is did =
        let stays : view_of w ≡ view_of v = grind arith in
        let calm : restless_at page v.state.rows ≡ false = grind arith in (
          comes_by v w _ _ (changed_comes v w (λ b. b) stays) (λ _ deed _. sym (calm_stays (v.state, deed) page calm)),
          rw (ap (λ (x : BookView). x.state) stays) (calm_undue v.state page (grind arith) calm),
          λ reach past. ap (λ (x : BookView). count_by (waits_later reach) x.state.rows) stays,
        )
    left_due finds.Waits q lawful told is did =
        let at = finds_it finds.Waits (λ e. cc) lawful told q refl is in
        met_left at at.so.0 (grind (arith, at.so)) (λ _. at.so.2) (waits_visited v w at did).comes
    left_due finds.Changed q lawful told is did = cc
    left_due (Dup best) q lawful told is did =
        let at = finds_it (Dup best) (λ e. cc) lawful told q refl is in
        met_left at at.so.0 (grind (arith, at.so)) (grind (arith, at.so)) (shared_visited v w at at.so.0 at.so.2 did).comes
    left_due finds.Zero q lawful told is did =
        let at = finds_it finds.Zero (λ e. cc) lawful told q refl is in
        met_left at at.so.0 (grind (arith, at.so)) (λ _. at.so.2) (shared_visited v w at at.so.0 at.so.4 did).comes
    left_due (Partner other) q lawful told is did =
        let at = finds_it (Partner other) (λ e. cc) lawful told q refl is in
        met_left at at.so.0 (grind (arith, at.so, page_is at, not_both)) (λ _. at.so.2) (shared_visited v w at at.so.0 at.so.5 did.1).comes

-- a page waits in the stead of one further on
module _ {b : BookState} {page other : GuestPage} (sound : IsSound b) (at : TakesOver b page other) where
  taker_is : at.row.page ≡ page
  taker_is = found_page _ _ _ at.found

  there : row_at at.row.page b.rows ≡ Some at.row
  there = grind (arith, taker_is)

  tells : WaitsFor b.knobs at.row at.waiter
  tells = waits_tells _ _ _ (find_passes (waits_for b.knobs at.row) b.rows _ at.waits)

  -- the row that waits is found at the other page
  pub waits_at : row_at other b.rows ≡ Some at.waiter
  waits_at = rw at.is (find_all _ (λ r. row_at r.page b.rows ≡ Some r) _ _ at.waits (each_at_page _ sound.rows_rise))

  -- it has a frame of its own
  pub other_alone : IsAlone other b.rows
  other_alone = rw waits_at (grind (arith, tells))

  later : comes_before page other ≡ true
  later = grind (arith, taker_is)

-- the other row waits no more
module _ (v m w : BookValue) {page other : GuestPage} (sound : IsSound v.state) (at : TakesOver v.state page other)
    (freeing : view_of m ≡ with_rows (view_of v) (change_row other settled v.state.rows)) where
  frees : Comes v m (λ s. (record s.0 { rows = change_row other settled s.0.rows }, s.1))
  frees = grind (arith, changed_comes)

  -- where the page was visited then, that is the visit of what is due
  pub taken_comes : Comes m w (λ s. page_visited s page) → Comes v w (λ s. due_visited s page)
  taken_comes visits = comes_by v w _ _ (λ from s before. visits from _ (frees from s before))
      (λ _ deed _. grind (arith, taker_is sound at, freed_found v.state sound at.row at.waiter at.waits (there sound at)))

  -- where that visit was refused, nothing changed but which rows from the page on wait
  pub taken_refused : Comes m w (λ s. s) → StaysBefore page v w
  taken_refused none = λ from s before.
      let reached = none from _ (frees from s before) in
      let over = narrowed_over (λ q. comes_before q page) s.0 (λ r. same_page r.page other)
      (λ k d lt same. rw (same_page_eq _ other same) (not_both page other (later sound at))) in
      (ap (hidden_from page) reached.0 ∙ over, reached.1)

  -- as many rows wait later, but the other if it did
  pub taken_later : Comes m w (λ s. page_visited s page) → (reach : Reach) → has_gone_by reach page ≡ true
      → count_by (waits_later reach) w.state.rows
      ≡ count_by (waits_later reach) v.state.rows - (if has_gone_by reach other then 0 else 1)
  taken_later visits reach past =
      let b = freed v.state (Some at.waiter) in
      let state : w.state ≡ row_visited b at.row =
      grind (arith, comes_to v w _ (taken_comes visits), taker_is sound at, at.waits) in
      let none = none_waits v.state sound at.row at.waiter at.waits in
      let own : has_gone_by reach at.row.page ≡ true = rw (taker_is sound at) past in
      let waiter : waits_later reach at.waiter ≡ not (has_gone_by reach other) = rw at.is (grind (arith, tells sound at)) in
      let less : count_by (waits_later reach) b.rows ≡ count_by (waits_later reach) v.state.rows - (if waits_later reach at.waiter then 1 else 0) =
      (later_changed reach v.state at.waiter.page settled at.waiter sound.rows_rise (subst (λ (q : GuestPage). row_at q v.state.rows ≡ Some at.waiter) at.is (waits_at sound at)) (grind (arith, tells sound at))) in
      ap (λ (x : BookState). count_by (waits_later reach) x.rows) state ∙ row_later b at.row (grind (arith, none)) (grind (arith, at.takes)) reach own
      ∙ less ∙ (rw waiter (grind arith))

  module _ (old more new : List GuestPage)
      (added : (p : GuestPage) → has_item p more ≡ (same_page other p || has_item p old))
      (gone : (p : GuestPage) → has_item p new ≡ (has_item p more && not (same_page page p))) where
    -- the other page is due then, and the first one no longer
    pub taken_leaves : Comes m w (λ s. page_visited s page) → AreDue v.state old → AreDue w.state new
    taken_leaves visits due =
        let b = freed v.state (Some at.waiter) in
        let state : w.state ≡ row_visited b at.row =
        grind (arith, comes_to v w _ (taken_comes visits), taker_is sound at, at.waits) in
        let still : AreDue b (page ∷ new) = own_due v.state at.waiter.page settled at.waiter sound.rows_rise
        (subst (λ q. row_at q v.state.rows ≡ Some at.waiter) at.is (waits_at sound at)) (grind (arith, tells sound at)) old (page ∷ new)
        (λ _ out. absurd (grind (arith, added other, gone other, at.is, same_page_refl, before_differs page other (later sound at))))
        (grind (arith, added, gone, at.is, same_page_sym)) due in
        rw state (row_undue b (freed_sound v.state sound at.row at.waiter at.waits) at.row
        (freed_found v.state sound at.row at.waiter at.waits (there sound at)) (grind (arith, at.takes)) new (rw (taker_is sound at) still)
        (λ _. grind (arith, at.takes)))
