-- A pass over what is due comes to what the pass of the definitions comes to; and where it stops, rows from a page on
-- wait no more.
use Rattle.ksm_book.proofs.Names.{after_cursor, ahead_before, ahead_up_to, All, ap, AreAscending, AreDue, arith, BookState, BookValue, Bool, change_row, Comes, comes_before, Deed, due_visited, each_at_page, Everywhere}
use Rattle.ksm_book.proofs.Names.{false, filter, filter_all, filter_passes, FindsFirstUpTo, FindsNext, fold, fold-append, get_or, get_or_from_slice_get, GuestPage, has_gone_by, has_item, hidden_from, IfSome, inl}
use Rattle.ksm_book.proofs.Names.{InPageOrder, inr, IsAlone, IsSound, IsStill, length, List, map_alike, map_mapped, mergeable_pages, None, not, not_both, on_its_own, one_before, Option, page_visited}
use Rattle.ksm_book.proofs.Names.{pages_ahead, pages_visited, part_before, part_visited, pass_begun, Reach, reach_at, reach_to, Reached, refl, restless_at, Row, same_page_eq, same_page_sym, settled}
use Rattle.ksm_book.proofs.Names.{slice_get-get_or, slice_get_within, so_far, Some, Stage, StaysBefore, StaysStill, Stops, subst, suc, sym, take, take-suc, take_all, true, up_to, view_of, zero, [], ℕ}
use Rattle.ksm_book.proofs.Names.{◌||◌, ◌∙◌, ◌∷◌, ◌≡◌, ◌≤◌, ◌⊎◌}
use Rattle.ksm_book.proofs.DueKept.{at_own_page, calm_stays, calmed, narrowed, narrowed_alike, one_due, still_undue, undue_rests}
use Rattle.ksm_book.proofs.Along.{after_later, has_filter, place_of, place_splits}
use Rattle.ksm_book.proofs.Folded.{ascending_ahead, begins, begun_ahead, comes_to, first, Goes, restless_mergeable}
use Rattle.ksm_book.proofs.SoFar.{ahead_so_far, settled_so_far}
use Rattle.ksm_book.proofs.Walked.{before_it, is_ahead, IsVisit, IsWalking, resting, Rests}

-- the visit of a page that is due is one that a walk may make
pub visits_due : IsVisit due_visited
visits_due = grind (arith, one_due, calm_stays)

-- a page that is not behind a cursor comes before one that is
gone_before : (cursor : Option GuestPage) (q page : GuestPage) → after_cursor cursor q ≡ false → after_cursor cursor page ≡ true
    → comes_before q page ≡ true
gone_before cursor q page past ahead = grind (arith, after_later cursor page q ahead, one_before q page, same_page_eq)

-- the last of the pages ahead of a cursor is not before one that is not behind the cursor
pub at_cursor : (cursor : Option GuestPage) (last : GuestPage) (pages : List GuestPage) → has_item last (filter (after_cursor cursor) pages) ≡ true
    → (q : GuestPage) → after_cursor cursor q ≡ false → comes_before last q ≡ false
at_cursor cursor last pages there q past = grind (arith, has_filter, not_both, gone_before cursor q last past)

-- a pass, or a part of one, begins in a sound book
module _ (b : BookState) (deed : Deed) (sound : IsSound b) where
  abbrev all : List GuestPage
  all = pages_ahead b

  -- the pass has gone by the pages up to the cursor
  abbrev pub gone : GuestPage → Bool
  gone q = not (after_cursor b.cursor q)

  -- our visits of the first n pages ahead
  abbrev ours : ℕ → Stage
  ours n = fold due_visited (b, deed) (take n all)

  rise : AreAscending all
  rise = ascending_ahead b sound.rows_rise

  -- where those of the pages ahead that pass a test are the first n, and the others gone by pass it, only these wait where
  -- only pages that pass it do
  as_first : (t : GuestPage → Bool) (n : ℕ) → filter t all ≡ take n all → ((q : GuestPage) → gone q ≡ true → t q ≡ true)
      → (c : BookState) → Goes b c → narrowed (λ q. gone q || has_item q (take n all)) c ≡ narrowed t c
  as_first t n are passed c goes =
      narrowed_alike (λ q. gone q || has_item q (take n all)) c t (λ k d lt waits.
      grind (arith, passed, restless_mergeable, at_own_page, goes.0.mergeable k d lt, each_at_page c.rows goes.0.rows_rise k d lt, has_filter, ap (has_item (get_or c.rows k d).page) are))

  -- the visits of the definitions do the same, but that no other pages wait
  first_alike : (n : ℕ) → n ≤ length all → Goes b (ours n).0
      × (pages_visited (narrowed gone b, deed) (take n all) ≡ (narrowed (λ q. gone q || has_item q (take n all)) (ours n).0, (ours n).1))
  first_alike zero fits = ((sound, refl), λ i. (narrowed_alike gone b (λ q. gone q || has_item q []) (grind arith) i, deed))
  first_alike (suc n) fits =
      let was = first_alike n (omega arith) in
      let page = get_or all n (record { guest = 0; page = 0 }) in
      let at = slice_get-get_or all n _ (omega arith) in
      let splits = place_splits all n page rise at in
      let ahead : after_cursor b.cursor page ≡ true = filter_passes (after_cursor b.cursor) (mergeable_pages b.rows) n _ (omega arith) in
      let more = λ (visit : Stage → GuestPage → Stage) (from : Stage). ap (fold visit from) (take-suc all n _ (omega arith))
      ∙ fold-append visit from (take n all) (page ∷ []) in
      let made = one_due (ours n).0 was.0.0 (ours n).1 page in
      let goes : Goes b (due_visited (ours n) page).0 = (made.0.0, made.0.1 ∙ was.0.1) in
      let low = as_first (λ q. comes_before q page) n splits.0 (λ q past. grind (arith, gone_before b.cursor q page, ahead)) (ours n).0 was.0 in
      let high = as_first (up_to (Some page)) (suc n) splits.1 (λ q past. grind (arith, gone_before b.cursor q page, ahead, not_both)) (due_visited (ours n) page).0 goes in
      rw (more due_visited (b, deed)) (
        goes,
        more page_visited (narrowed gone b, deed) ∙ ap (λ z. page_visited z page) (was.1 ∙ (λ i. (low i, (ours n).1)))
            ∙ made.1 ∙ (λ i. (sym high i, (due_visited (ours n) page).1)),
      )

  -- our visits of the pages ahead that pass a test are those of the definitions, where only such pages and those gone by wait
  alike : (t : GuestPage → Bool) (n : ℕ) → n ≤ length all → filter t all ≡ take n all → ((q : GuestPage) → gone q ≡ true → t q ≡ true)
      → let due = fold due_visited (b, deed) (filter t all) in
      pages_visited (narrowed gone b, deed) (filter t all) ≡ (narrowed t due.0, due.1)
  alike t n fits are passed =
      let like = first_alike n fits in
      grind (arith, are, like.1, as_first t n are passed (ours n).0 like.0)

  -- as a pass begins or goes on the rows wait that it has gone by
  begun_none : (reach : Reach) → b.cursor ≡ None → pass_begun (so_far reach b) ≡ narrowed gone b
  begun_none reach start =
      let same = map_mapped settled (calmed (λ r. not (has_gone_by reach r.page))) (calmed (λ r. not (gone r.page))) b.rows (λ k d lt. grind arith) in
      grind (arith, same)

  begun_gone : (reach : Reach) → (b.cursor ≡ None) ⊎ (reach ≡ reach_at b.cursor) → pass_begun (so_far reach b) ≡ narrowed gone b
  begun_gone reach (inl start) = begun_none reach start
  begun_gone reach (inr same) = by b.cursor refl (begun_none reach)
    where
      by : (cursor : Option GuestPage) → b.cursor ≡ cursor → (b.cursor ≡ None → pass_begun (so_far reach b) ≡ narrowed gone b) → pass_begun (so_far reach b) ≡ narrowed gone b
      by None start none = none start
      by (Some page) there none = grind (arith, same, there)

  -- the visits of what is due of the pages ahead up to the last, or of all, are those of the part
  pub due_part : (reach : Reach) → (b.cursor ≡ None) ⊎ (reach ≡ reach_at b.cursor) → (last : Option GuestPage)
      → IfSome last (λ page. has_item page all ≡ true)
      → let due = fold due_visited (b, deed) (ahead_up_to last b) in
      (so_far (reach_to last) due.0, due.1) ≡ part_visited last (so_far reach b, deed)
  due_part reach start None ahead =
      let end = alike (up_to None) (length all) (omega arith)
      (filter_all (up_to None) all (λ k d lt. refl) ∙ sym (take_all (length all) all (omega arith))) (λ q past. refl) in
      grind (arith, end, begun_gone reach start, ahead_so_far reach b, begun_ahead (so_far reach b))
  due_part reach start (Some page) there =
      let at = place_of page all there in
      let end = alike (up_to (Some page)) (suc at.0) (omega (arith, slice_get_within all at.0 page at.1))
      (place_splits all at.0 page rise at.1).1 (λ q past. grind (arith, gone_before b.cursor q page, there, has_filter, not_both)) in
      grind (arith, end, begun_gone reach start, ahead_so_far reach b, begun_ahead (so_far reach b))

  -- the visits of the pages before one that is ahead, once no row from there on waits
  pub before_part : (reach : Reach) → (b.cursor ≡ None) ⊎ (reach ≡ reach_at b.cursor) → (page : GuestPage) → has_item page all ≡ true
      → let due = fold due_visited (b, deed) (ahead_before page b) in
      (hidden_from page due.0, due.1) ≡ part_before page (so_far reach b, deed)
  before_part reach start page there =
      let at = place_of page all there in
      let end = alike (λ q. comes_before q page) at.0 (omega (arith, slice_get_within all at.0 page at.1))
      (place_splits all at.0 page rise at.1).0 (λ q past. grind (arith, gone_before b.cursor q page, there, has_filter)) in
      grind (arith, end, begun_gone reach start, ahead_so_far reach b, begun_ahead (so_far reach b))

-- where nothing is due as a pass begins, the whole pass changes nothing but which rows wait
pub whole_still : (old : BookValue) (reach : Reach) → IsSound old.state → old.state.cursor ≡ None → AreDue old.state []
    → StaysStill (record old { state = so_far reach old.state }) (part_visited None)
whole_still old reach sound start are from s before =
    let z : Stage = (so_far reach old.state, s.1) in
    let rest = resting due_visited (ahead_up_to None old.state) (old.state, s.1) (λ k d lt. undue_rests old.state [] sound are _ refl) in
    let is : (so_far Everywhere old.state, s.1) ≡ part_visited None z =
    ap (λ (d : Stage). (so_far Everywhere d.0, d.1)) (sym rest) ∙ due_part old.state s.1 sound reach (inl start) None tt in
    let still : IsStill z (so_far Everywhere old.state, s.1) =
    record { rest = refl; rows = settled_so_far Everywhere old.state ∙ sym (settled_so_far reach old.state); beside = refl } in
    subst (λ (x : Stage). IsStill x (part_visited None x)) (λ i. (before.0 i, s.1)) (subst (IsStill z) is still)

-- a walk has reached a book in which some pages are due
module _ {old mid : BookValue} {to last : Option GuestPage} (due : List GuestPage)
    (w : IsWalking due_visited to old mid last false) (are : AreDue mid.state due) where
  -- where none of them behind the page reached passes a test, visits of pages there that pass it do nothing
  pub rests_due : (test : GuestPage → Bool) → All (λ p. after_cursor last p ≡ true → test p ≡ false) due → (q : GuestPage)
      → after_cursor last q ≡ true → test q ≡ true → Rests due_visited mid.state q
  rests_due test none q after passes = undue_rests mid.state due w.goes.0 are q
      (grind (arith, place_of q due, get_or_from_slice_get, slice_get_within))

  -- where the first page that is due was not visited, and no row from there on waits any more, the part stopped before it
  pub part_stops : (reach : Reach) (next : BookValue) (page : GuestPage) → FindsFirstUpTo to last due (Some page)
      → (old.state.cursor ≡ None) ⊎ (reach ≡ reach_at old.state.cursor)
      → StaysBefore page mid next → restless_at page mid.state.rows ≡ true → (new : BookValue)
      → view_of new ≡ record (view_of next) { state = hidden_from page next.state }
      → Stops (record old { state = so_far reach old.state }) new to page (part_before page)
  part_stops reach next page first start stays restless new hides =
      let rests = rests_due (λ q. comes_before q page) first.1.2 in
      let there = is_ahead visits_due w page first.1.1 rests restless in
      let before = before_it visits_due w page first.1.1 rests in
      record {
        within = first.0;
        ahead = grind (arith, there, ahead_so_far reach old.state);
        comes = λ from s began.
            let deed : Reached from old (old.state, s.1) = (refl, began.1) in
            let part = before_part old.state s.1 w.began reach start page there in
            grind (arith, part, hides, began, stays from _ (w.comes from _ deed), before.same from _ deed);
      }

-- the pages behind a page that was visited are due, if those behind the page reached were, and only which rows wait changed
pub due_walks : (mid new : BookValue) (reached : Option GuestPage) (page : GuestPage) (all : List GuestPage) → IsSound mid.state
    → FindsNext reached mid.state.rows (Some page) → Comes mid new (λ s. page_visited s page) → StaysStill mid (λ s. page_visited s page)
    → AreDue mid.state (filter (after_cursor reached) all) → AreDue new.state (filter (after_cursor (Some page)) all)
due_walks mid new reached page all sound found comes still was = rw (comes_to mid new (λ s. page_visited s page) comes)
    (still_undue mid.state _ page sound (still mid (first mid) (begins mid)) _ (λ k d lt restless out.
    was k d lt restless (grind (arith, has_filter, found.1 k d lt restless, one_before, same_page_eq))))

-- as a walk begins before all pages, those that scans visit are due
pub due_begins : (b : BookState) → InPageOrder b.rows → AreDue b (filter (after_cursor None) (mergeable_pages b.rows))
due_begins b rise k d lt restless out = grind (arith, has_filter, restless_mergeable, each_at_page, rise)

-- it waits no more where it comes to be on its own
pub alone_settled : (page : GuestPage) (rows : List Row) → InPageOrder rows → IsAlone page rows
    → change_row page on_its_own rows ≡ change_row page settled rows
alone_settled page rows rise alone =
    map_alike _ _ rows (λ k d lt. grind (arith, at_own_page page rows rise k d lt, same_page_sym))
