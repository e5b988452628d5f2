-- A walk from page to page comes to the visits of all pages ahead, where visits of those passed over do nothing.
use Rattle.ksm_book.proofs.Names.{after_cursor, ahead_before, ahead_up_to, All, All-cons, All-filter, and_parts, ap, AreAscending, arith, BookState, BookValue, Bool, cases_Bool, Comes, comes_before}
use Rattle.ksm_book.proofs.Names.{Deed, false, filter, filter_none, filter_passes, find_all, fold, fold-append, get_or, get_or_from_slice_get, GuestPage, has_item, HasVisited, inl, inr, is_restless}
use Rattle.ksm_book.proofs.Names.{IsSound, IsStill, List, mergeable_pages, not, one_before, Option, page_visited, pages_ahead, pairs_head, pairs_tail, Reached, refl, restless_at, same_page_eq}
use Rattle.ksm_book.proofs.Names.{slice_get_within, Some, Stage, StaysStill, subst, suc, sym, take, take-suc, true, up_to, [], ℕ, ◌&&◌, ◌-◌, ◌<◌, ◌∙◌, ◌∷◌, ◌≡◌}
use Rattle.ksm_book.proofs.Along.{after_later, Before, FitsPage, has_filter, place_of, place_splits, position}
use Rattle.ksm_book.proofs.Folded.{Agree, agrees, ascending_ahead, by_row, comes_to, Goes, page_goes, restless_mergeable}

-- the visit of a page, with what it does beside
abbrev pub Visit : Type 0
Visit = Stage → GuestPage → Stage

-- the visit of a page does nothing to a book
abbrev pub Rests : Visit → BookState → GuestPage → Type 0
Rests visit b page = (deed : Deed) → visit (b, deed) page ≡ (b, deed)

-- a visit keeps a book sound, and which pages scans visit; and does nothing where the page has no row that a visit may change
pub record IsVisit (visit : Visit) : Type 0 where
  pub goes : (b : BookState) (deed : Deed) (page : GuestPage) → IsSound b → Goes b (visit (b, deed) page).0
  pub calm : (b : BookState) (page : GuestPage) → restless_at page b.rows ≡ false → Rests visit b page

-- the pages ahead that are not behind a cursor were visited
abbrev pub walked_to : Visit → Option GuestPage → Stage → Stage
walked_to visit reached s = fold visit s (filter (λ p. not (after_cursor reached p)) (pages_ahead s.0))

module _ (visit : Visit) where
  -- visits that do nothing
  pub resting : (pages : List GuestPage) (s : Stage) → All (Rests visit s.0) pages → fold visit s pages ≡ s
  resting [] s rest = refl
  resting (page ∷ pages) s rest = grind (arith, rest 0 page, resting pages s (λ k d lt. rest (suc k) d (omega arith)))

  module _ (reached : Option GuestPage) (b : BookState) where
    abbrev passed : GuestPage → Bool
    passed p = not (after_cursor reached p)

    -- visits of more pages come to the same, where those of pages behind the cursor do nothing to the book reached
    more : (t : GuestPage → Bool) (pages : List GuestPage) (s c : Stage) → fold visit s (filter passed pages) ≡ c → b ≡ c.0
        → AreAscending pages → All (λ q. passed q ≡ true → t q ≡ true) pages
        → ((q : GuestPage) → after_cursor reached q ≡ true → t q ≡ true → Rests visit b q) → fold visit s (filter t pages) ≡ c
    more t [] s c came its rise near rest = came
    more t (p ∷ pages) s c came its rise near rest = elim (cases_Bool (after_cursor reached p)) [
      | inl here ↦
          let behind = All-cons (λ q. after_cursor reached q ≡ true) p pages here
          (λ k d lt. after_later reached p (get_or pages k d) here (pairs_head Before p pages rise k d lt)) in
          let same : s ≡ c = ap (fold visit s) (sym (filter_none passed (p ∷ pages) (grind (arith, behind)))) ∙ came in
          let there = All-filter t (λ q. after_cursor reached q ≡ true) (p ∷ pages) behind in
          resting (filter t (p ∷ pages)) s (λ k d lt. grind (arith, its, same, rest _ (there k d lt) (filter_passes t (p ∷ pages) k d lt))) ∙ same
      | inr over ↦
          rw (near 0 p (omega arith) (ap not over))
          (more t pages (visit s p) c (rw over at came) its (pairs_tail Before p pages rise)
          (λ k d lt. near (suc k) d (omega arith)) rest)
    ]

    -- of pages in order those were visited that are not behind the cursor
    module _ (s : Stage) (pages : List GuestPage) (rise : AreAscending pages) (its : b ≡ (fold visit s (filter passed pages)).0) where
      abbrev came : Stage
      came = fold visit s (filter passed pages)

      -- visits of pages between the cursor and one behind it do nothing
      module _ (page : GuestPage) (behind : after_cursor reached page ≡ true)
          (between : (q : GuestPage) → after_cursor reached q ≡ true → comes_before q page ≡ true → Rests visit b q) where
        before : fold visit s (filter (λ p. comes_before p page) pages) ≡ came
        before = more (λ p. comes_before p page) pages s came refl its rise (λ k d lt out. grind arith) between

        next : (has_item page pages ≡ false → Rests visit b page)
            → fold visit s (filter (λ p. not (comes_before page p)) pages) ≡ visit came page
        next out = elim (cases_Bool (has_item page pages)) [
          | inl there ↦
              let at = place_of page pages there in
              let splits = place_splits pages at.0 page rise at.1 in
              let more = take-suc pages at.0 page (slice_get_within pages at.0 page at.1) in
              let is = get_or_from_slice_get pages at.0 page page at.1 in
              grind (arith, splits.0, splits.1, before, fold-append visit s (take at.0 pages) (page ∷ []))
          | inr off ↦
              more (λ p. not (comes_before page p)) pages s came refl its rise
              (λ k d lt out. grind (arith, after_later reached page (get_or pages k d) behind))
              (λ q after up deed. grind (arith, between q after, one_before page q, same_page_eq page q, out off))
              ∙ sym (subst (λ z. Rests visit z page) its (out off) came.1)
        ]

-- a walk up to the last page has reached a page, and is told to be quiet or not
pub record IsWalking (visit : Visit) (last : Option GuestPage) (old now : BookValue) (reached : Option GuestPage) (quiet : Bool) : Type 0 where
  -- the book was sound, and is so, and scans visit the same pages
  pub began : IsSound old.state
  pub goes : Goes old.state now.state
  -- the pages ahead up to there were visited
  pub comes : Comes old now (walked_to visit reached)
  -- where it is quiet that changed nothing but which rows wait
  pub still : quiet ≡ true → StaysStill old (walked_to visit reached)
  -- it is not before the cursor
  pub behind : (p : GuestPage) → after_cursor reached p ≡ true → after_cursor old.state.cursor p ≡ true
  -- nor behind the last page
  pub within : (p : GuestPage) → after_cursor old.state.cursor p ≡ true → after_cursor reached p ≡ false
      → up_to last p ≡ true

-- a walk begins at the book's cursor
pub begins_walk : (visit : Visit) (v : BookValue) (reached : Option GuestPage) → reached ≡ v.state.cursor → (last : Option GuestPage) (quiet : Bool)
    → IsSound v.state → IsWalking visit last v v reached quiet
begins_walk visit v reached at last quiet sound = grind (arith, filter_none, filter_passes)

module _ {visit : Visit} (is : IsVisit visit) {last : Option GuestPage} {old mid : BookValue} {reached : Option GuestPage} {quiet : Bool}
    (w : IsWalking visit last old mid reached quiet) where
  abbrev pages : List GuestPage
  pages = pages_ahead old.state

  rises : AreAscending pages
  rises = ascending_ahead old.state w.began.rows_rise

  -- where visits of the pages left up to the last do nothing, all pages ahead up to it were visited
  pub walk_ends : ((q : GuestPage) → after_cursor reached q ≡ true → up_to last q ≡ true → Rests visit mid.state q)
      → Agree old (walked_to visit reached) (λ s. fold visit s (ahead_up_to last s.0))
  walk_ends rest = agrees old (λ from deed there. sym (more visit reached mid.state (up_to last) pages (old.state, deed) _ refl (w.comes from _ there).0 rises
      (λ k d lt out. w.within (get_or pages k d)
      (filter_passes (after_cursor old.state.cursor) (mergeable_pages old.state.rows) k d lt) (grind arith)) rest))

  -- so they do up to a page behind the one reached
  module _ (page : GuestPage) (behind : after_cursor reached page ≡ true)
      (between : (q : GuestPage) → after_cursor reached q ≡ true → comes_before q page ≡ true → Rests visit mid.state q) where
    -- where a visit may change its row, it is one of those ahead
    pub is_ahead : restless_at page mid.state.rows ≡ true → has_item page pages ≡ true
    is_ahead restless =
        grind (arith, has_filter, restless_mergeable page mid.state.rows restless, w.goes.1, w.behind page behind)

    -- the pages ahead before it were visited
    pub before_it : Agree old (walked_to visit reached) (λ s. fold visit s (ahead_before page s.0))
    before_it = agrees old (λ from deed there. sym (before visit reached mid.state (old.state, deed) pages rises
        (w.comes from _ there).0 page behind between))

    step : Agree old (walked_to visit (Some page)) (λ s. visit (walked_to visit reached s) page)
    step = agrees old (λ from deed there. next visit reached mid.state (old.state, deed) pages rises
        (w.comes from _ there).0 page behind between (λ off. is.calm mid.state page (grind (arith, is_ahead))))

    -- the walk has reached that page once it was visited, and is quiet if it was so, and the visit is
    pub walks_on : up_to last page ≡ true → {new : BookValue} {calm : Bool} → HasVisited mid new (λ s. visit s page) calm
        → IsWalking visit last old new (Some page) (quiet && calm)
    walks_on inside {new} {calm} visited =
        let went = is.goes mid.state _ page w.goes.0 in
        record {
          began = w.began;
          goes = rw (comes_to mid new (λ s. visit s page) visited.comes) (went.0, went.1 ∙ w.goes.1);
          comes = λ from s before.
              subst (Reached from new) (sym (step.same from s before)) (visited.comes from _ (w.comes from s before));
          still = λ both from s before. let parts = and_parts quiet calm both in subst (IsStill s) (sym (step.same from s before))
              (grind (arith, w.still parts.0 from s before, visited.still parts.1 from _ (w.comes from s before)));
          behind = λ p after. w.behind p (after_later reached page p behind after);
          within = λ p _ out. grind (arith, up_to);
        }

-- the visit of a page by the definitions is one that a walk may make
pub visits_page : IsVisit page_visited
visits_page = record {
  goes = λ b deed page. page_goes (b, deed) page;
  calm = λ b page calm deed. grind arith;
}

-- where no row behind a cursor that a visit may change is of a page that passes a test, visits of such pages do nothing
pub rests_where : (b : BookState) (reached : Option GuestPage) (test : GuestPage → Bool)
    → All (λ r. is_restless r ≡ true → after_cursor reached r.page ≡ true → test r.page ≡ false) b.rows → (q : GuestPage)
    → after_cursor reached q ≡ true → test q ≡ true → Rests page_visited b q
rests_where b reached test none q =
    by_row (λ p. after_cursor reached p ≡ true → test p ≡ true → Rests page_visited b p) q b.rows
    (λ calm _ _. visits_page.calm b q calm) (λ r found restless after inside.
    let behind = find_all _ (λ s. is_restless s ≡ true → after_cursor reached s.page ≡ true → test s.page ≡ false) _ r found none in
    absurd (grind (arith, behind)))

-- how many pages there may be behind a cursor
abbrev pub room_behind : Option GuestPage → ℕ
room_behind cursor = 281474976710656 - position cursor

-- there are fewer behind a page that is behind the cursor
pub less_room : (cursor : Option GuestPage) (page : GuestPage) → FitsPage (Some page) → after_cursor cursor page ≡ true
    → room_behind (Some page) < room_behind cursor
less_room cursor page h2 behind = grind arith
