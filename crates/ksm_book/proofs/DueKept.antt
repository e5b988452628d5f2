-- The visit of a page that is due does what that of the definitions does, where no row further on waits; it leaves what
-- waits on as it is, and what is due stays so.
use Rattle.ksm_book.proofs.Names.{All, All-cons, All-head, All-map, All-tail, all_changed, all_with_dup, ap, AreDue, arith, before_irrefl, best_dup, BookState, Bool, bytes_eq-Decides, cases_Bool}
use Rattle.ksm_book.proofs.Names.{change_row, change_rows, comes_before, comes_later, cond_both, count_by, count_mapped, Deed, due_visited, dup_frame, dup_of_row, DupRow, each_at_page, eqb-true}
use Rattle.ksm_book.proofs.Names.{false, find_all, find_changed, find_mapped, find_none, find_nothing, find_passes, Frames, freed, get_or, GuestPage, handled, has_item, hidden_from, if◌then◌else◌}
use Rattle.ksm_book.proofs.Names.{inl, InPageOrder, inr, is_best, is_for_zero, is_no_rival, is_no_worse, is_restless, is_stale, IsSound, IsStill, item_count, Knobs, List, list_all-from_AllPass}
use Rattle.ksm_book.proofs.Names.{made_dup, map_alike, map_mapped, may_join, mergeable_pages, Merged, merged_into, merged_state, nat_le, nat_lt, nat_tests, new_place, None, not, not_an_item, not_both}
use Rattle.ksm_book.proofs.Names.{one_before, one_of_each_page, Option, option_map, own_not_merged, OwnPage, page_visited, PageState, paired, partner, place_count, refl, restless_at, Row, row_at}
use Rattle.ksm_book.proofs.Names.{row_visited, same_page, same_page_eq, same_page_refl, same_page_sym, settled, settled_calmer, Some, sound_changed, Stage, subst, sym, takes_over, true, up_to}
use Rattle.ksm_book.proofs.Names.{visited, Waiting, waiting_state, waits_for, waits_on, waits_tells, with_dup, Zero, [], ℕ, ◌&&◌, ◌+◌, ◌==◌, ◌||◌, ◌∙◌, ◌∷◌, ◌≡◌}
use Rattle.ksm_book.proofs.Folded.{becomes, by_row, Goes, mergeable_kept, page_goes, then_idle}
use Rattle.ksm_book.proofs.ByPage.{row_of_page}
use Rattle.ksm_book.proofs.RowVisits.{restless_own}
use Rattle.ksm_book.proofs.Singles.{change_still}
use Rattle.ksm_book.proofs.Walked.{Rests}

-- each row of rows in order is found at its page
pub at_own_page : (page : GuestPage) (rows : List Row) → InPageOrder rows
    → All (λ r. same_page page r.page ≡ true → row_at page rows ≡ Some r) rows
at_own_page page rows rise k d lt same = grind (arith, same_page_eq, each_at_page rows rise k d lt)

abbrev pub calmed : (Row → Bool) → Row → Row
calmed test r = if test r then settled r else r

-- the book as it is where only rows wait whose page passes a test
abbrev pub narrowed : (GuestPage → Bool) → BookState → BookState
narrowed t b = record b { rows = change_rows (λ r. not (t r.page)) settled b.rows }

module _ (t : GuestPage → Bool) (b : BookState) where
  abbrev narrow : Row → Row
  narrow = calmed (λ r. not (t r.page))

  -- a test that agrees on each row that waits comes to the same
  pub narrowed_alike : (u : GuestPage → Bool) → All (λ r. waiting_state r.state ≡ true → t r.page ≡ u r.page) b.rows
      → narrowed t b ≡ narrowed u b
  narrowed_alike u same =
      λ i. record b { rows = map_alike narrow (calmed (λ r. not (u r.page))) b.rows (λ k d lt. grind (arith, same k d lt)) i }

  -- whether rows wait whose pages fail makes no difference
  pub narrowed_over : (test : Row → Bool) → All (λ r. test r ≡ true → t r.page ≡ false) b.rows
      → narrowed t (record b { rows = change_rows test settled b.rows }) ≡ narrowed t b
  narrowed_over test are =
      λ i. record b { rows = map_mapped narrow (calmed test) narrow b.rows (λ k d lt. grind (arith, are k d lt)) i }

-- what the best dup of a row goes by
pub ruleset by_counts = (best_dup, is_best, is_no_rival, may_join, is_no_worse)

-- where rows of a book wait no more
module _ (test : Row → Bool) (b : BookState) where
  abbrev calm_rows : List Row
  calm_rows = change_rows test settled b.rows

  pub calmed_at : (page : GuestPage) → row_at page calm_rows ≡ option_map (calmed test) (row_at page b.rows)
  calmed_at page = find_mapped (calmed test) (λ r. same_page r.page page) (λ r. same_page r.page page) b.rows (grind arith)

  pub items_kept : (d : DupRow) → item_count calm_rows d ≡ item_count b.rows d
  items_kept d = grind (arith, count_mapped)

  best_kept : (r : Row) → best_dup b.knobs calm_rows b.dups r ≡ best_dup b.knobs b.rows b.dups r
  best_kept r = simp (items_kept, by_counts)

  place_kept : new_place (place_count b.shape) calm_rows b.dups ≡ new_place (place_count b.shape) b.rows b.dups
  place_kept = simp (items_kept, new_place, is_stale)

  dup_frame_kept : (frame : Frames) (number : ℕ) → dup_frame frame calm_rows number ≡ dup_frame frame b.rows number
  dup_frame_kept frame number =
      grind (arith, find_mapped (calmed test) (λ r. merged_into number r.state) (λ r. merged_into number r.state) b.rows (grind arith))

-- in a sound book the rows that wait for a row are of one page
pub one_waits : (b : BookState) (r w : Row) → IsSound b → partner b.knobs b.rows r ≡ Some w
    → All (λ x. waits_for b.knobs r x ≡ true → x.page ≡ w.page) b.rows
one_waits b r w s found k d lt is =
    let of_w = waits_tells b.knobs r w (find_passes (waits_for b.knobs r) b.rows w found) in
    let alone = find_all (waits_for b.knobs r) (λ y. waiting_state y.state ≡ true → partner b.knobs b.rows y ≡ None) b.rows w found s.waiting in
    grind (arith, alone of_w.state, same_page_eq, find_none)

-- the visit of a row in a sound book, where rows from it on do not wait
module _ (b : BookState) (s : IsSound b) (r : Row) where
  abbrev waits : Row → Bool
  waits = waits_for b.knobs r

  abbrev is_on : Row → Bool
  is_on x = not (comes_before x.page r.page)

  abbrev covered : BookState
  covered = hidden_from r.page b

  abbrev cover : Row → Row
  cover = calmed is_on

  abbrev narrowed_after : BookState → BookState
  narrowed_after = narrowed (up_to (Some r.page))

  -- a change of its own row, and of none behind it, comes to the same then, but that its own row may wait
  change_alike : (by : GuestPage → Bool) (put : Bool) (state : PageState) (dups : List DupRow) (next : ℕ)
      → ((q : GuestPage) → same_page q r.page ≡ true → by q ≡ true)
      → ((q : GuestPage) → by q ≡ true → comes_before r.page q ≡ false)
      → record covered { rows = change_rows (λ x. by x.page) (becomes put state) covered.rows; dups = dups; next = next }
      ≡ narrowed_after (record b { rows = change_rows (λ x. by x.page) (becomes put state) b.rows; dups = dups; next = next })
  change_alike by put state dups next own apart = λ t. record b { rows = rows t; dups = dups; next = next }
    where
      change : Row → Row
      change x = if by x.page then becomes put state x else x

      rows : change_rows (λ x. by x.page) (becomes put state) covered.rows
          ≡ (narrowed_after (record b { rows = change_rows (λ x. by x.page) (becomes put state) b.rows })).rows
      rows = map_mapped change cover (λ x. narrow (up_to (Some r.page)) b (change x)) b.rows (λ k d lt. grind (arith, one_before, not_both))
          ∙ sym (map_mapped (narrow (up_to (Some r.page)) b) change _ b.rows (λ k d lt. refl))

  own_alike : (put : Bool) (state : PageState)
      → record covered { rows = change_row r.page (becomes put state) covered.rows }
      ≡ narrowed_after (record b { rows = change_row r.page (becomes put state) b.rows })
  own_alike put state =
      change_alike (λ q. same_page q r.page) put state b.dups b.next (λ q is. is) (grind (arith, same_page_eq, before_irrefl))

  near_found : (w : Row) → partner b.knobs b.rows r ≡ Some w → comes_before r.page w.page ≡ false
      → comes_before w.page r.page ≡ true
  near_found w found stays = grind (arith, one_before, waits_tells b.knobs r w (find_passes waits b.rows w found))

  near : (o : Option Row) → partner b.knobs b.rows r ≡ o → comes_later r.page o ≡ false
      → All (λ x. waits x ≡ true → comes_before x.page r.page ≡ true) b.rows
  near None none stays k d lt is = grind (arith, find_none)
  near (Some w) found stays k d lt is = rw (one_waits b r w s found k d lt is) (near_found w found stays)

  partner_alike : comes_later r.page (partner b.knobs b.rows r) ≡ false
      → partner b.knobs covered.rows r ≡ partner b.knobs b.rows r
  partner_alike stays =
      grind (arith, find_mapped cover waits waits b.rows (λ k d lt. grind (arith, near _ refl stays k d lt, not_both)), near_found)

  paired_alike : (o : Option Row) → partner b.knobs b.rows r ≡ o → comes_later r.page o ≡ false
      → paired o covered (settled r) ≡ narrowed_after (paired o b r)
  paired_alike None found stays = own_alike false Waiting
  paired_alike (Some w) found stays =
      ap (λ place. made_dup place covered w (settled r)) (place_kept is_on b)
      ∙ change_alike (λ q. same_page q w.page || same_page q r.page) false (Merged b.next) _ _ (grind arith)
      (grind (arith, near_found w found stays, same_page_eq, not_both, before_irrefl))

  -- a visit may change the row, which takes over from none
  module _ (is : is_restless r ≡ true) (stays : takes_over b r ≡ false) where
    handled_alike : (o : Option DupRow) → best_dup b.knobs b.rows b.dups r ≡ o
        → handled o covered (settled r) ≡ narrowed_after (handled o b r)
    handled_alike (Some d) best = own_alike false (Merged d.number)
    handled_alike None none =
        grind (arith, partner_alike, paired_alike (partner b.knobs b.rows r) refl, own_alike false Zero, own_alike true OwnPage)

    -- its visit does the same then; after it its own row may wait
    visit_alike : (deed : Deed) → visited (covered, deed) (Some (settled r))
        ≡ (narrowed_after (visited (b, deed) (Some r)).0, (visited (b, deed) (Some r)).1)
    visit_alike deed =
        let frames = dup_frame_kept is_on b deed.frame in
        grind (arith, best_kept is_on b r, handled_alike, partner_alike, frames, place_kept is_on b)

  module _ (w : Row) (found : partner b.knobs b.rows r ≡ Some w) where
    abbrev of_w : Row → Bool
    of_w x = same_page x.page w.page

    -- once none waits for it the book is sound, and the row is found where it was
    pub freed_sound : IsSound (freed b (Some w))
    freed_sound = sound_changed b of_w _ settled_calmer (λ x home. home) s

    pub freed_found : row_at r.page b.rows ≡ Some r → row_at r.page (freed b (Some w)).rows ≡ Some r
    freed_found at = grind (arith, calmed_at of_w b r.page, waits_tells b.knobs r w (find_passes waits b.rows w found), same_page_sym)

    pub none_waits : partner b.knobs (freed b (Some w)).rows r ≡ None
    none_waits = find_nothing waits _ (All-map (λ x. waits x ≡ false) (calmed of_w) b.rows (grind (arith, one_waits b r w s found, same_page_refl)))

-- the visit of a page that is none that a visit may change changes nothing
pub calm_stays : (s : Stage) (page : GuestPage) → restless_at page s.0.rows ≡ false → due_visited s page ≡ s
calm_stays s page calm = grind arith

-- our visit of a page keeps the book sound, and which pages scans visit; and the visit of the definitions does the same
-- where no rows from the page on wait, but that after it the row of the page may
abbrev pub IsAlike : BookState → Deed → GuestPage → Type 0
IsAlike b deed page =
    let due : Stage = due_visited (b, deed) page in
    Goes b due.0 × (page_visited (hidden_from page b, deed) page ≡ (narrowed (up_to (Some page)) due.0, due.1))

module _ (b : BookState) (s : IsSound b) (deed : Deed) where
  -- that is so where the visit of the definitions does in another book what ours does in this one
  by_visit : (r : Row) → is_restless r ≡ true → (o : BookState) → IsSound o → row_at r.page o.rows ≡ Some r
      → mergeable_pages o.rows ≡ mergeable_pages b.rows → hidden_from r.page o ≡ hidden_from r.page b → takes_over o r ≡ false
      → visited (o, deed) (Some r) ≡ due_visited (b, deed) r.page → IsAlike b deed r.page
  by_visit r restless o sound found same covers stays is =
      let at = calmed_at (is_on o sound r) o r.page ∙ ap (option_map (cover o sound r)) found
      ∙ ap (λ z. Some (if not z then settled r else r)) (before_irrefl r.page) in (
        subst (λ (z : Stage). Goes b z.0) is (let went = rw found at (page_goes (o, deed) r.page sound) in (went.0, went.1 ∙ same)),
        ap (λ c. page_visited (c, deed) r.page) (sym covers) ∙ ap (visited (covered o sound r, deed)) at
            ∙ visit_alike o sound r restless stays deed ∙ (λ t. (narrowed (up_to (Some r.page)) (is t).0, (is t).1)),
      )

  -- where the row takes over, that is the book where no row waits for it, and else the book itself
  row_due : (r : Row) → row_at r.page b.rows ≡ Some r → is_restless r ≡ true → IsAlike b deed r.page
  row_due r found restless = elim (cases_Bool (takes_over b r)) [
    | inl takes ↦
        let w : (w : Row) × (partner b.knobs b.rows r ≡ Some w) × (comes_before r.page w.page ≡ true) = grind arith in
        by_visit r restless (freed b (Some w.0)) (freed_sound b s r w.0 w.1) (freed_found b s r w.0 w.1 found)
        (mergeable_kept (calmed (λ x. same_page x.page w.0.page)) (grind arith) b.rows)
        (narrowed_over (λ q. comes_before q r.page) b (λ x. same_page x.page w.0.page) (λ k d lt is. grind (arith, same_page_eq, not_both, w.2)))
        (grind (arith, none_waits b s r w.0 w.1)) (grind (arith, w.1))
    | inr stays ↦
        by_visit r restless b s found refl refl stays (grind arith)
  ]

  pub one_due : (page : GuestPage) → IsAlike b deed page
  one_due page = by_row (IsAlike b deed) page b.rows (λ calm.
      let still = narrowed_alike (λ q. comes_before q page) b (up_to (Some page)) (λ k d lt waits.
      grind (arith, at_own_page page b.rows s.rows_rise k d lt, s.mergeable k d lt, one_before, not_both, before_irrefl)) in
      let at = calmed_at (λ x. not (comes_before x.page page)) b page in
      rw (calm_stays (b, deed) page calm) ((s, refl), grind (arith, at) ∙ (λ t. (still t, deed)))) row_due

-- dups that pass a test, with how many items each has
module _ (may : DupRow → Bool) (items : DupRow → ℕ) where
  -- the second may not be joined, or is no better than the first
  abbrev rival : DupRow → DupRow → Bool
  rival d e = not (may e) || (nat_lt (items e) (items d) || (items e == items d && nat_le d.number e.number))

  through : (e b d : DupRow) → may b ≡ true → rival e b ≡ true → rival b d ≡ true → rival e d ≡ true
  through e b d passes above r = grind (arith, nat_tests)

  -- what is so of a dup that passes the test, and of all of some others, is so of the best of these
  top_from : (P : DupRow → Type 0) (b : DupRow) (dups : List DupRow) → may b ≡ true → P b → All P dups
      → (d : DupRow) × P d × (may d ≡ true) × (rival d b ≡ true) × All (λ e. rival d e ≡ true) dups
  top_from P b [] passes here all = (b, here, passes, grind (arith, nat_tests), λ k d lt. absurd (omega arith))
  top_from P b (x ∷ dups) passes here all = elim (cases_Bool (rival b x)) [
    | inl above ↦ grind (arith, top_from P b dups passes here (All-tail P x dups all), All-cons, through)
    | inr worse ↦
        let t = top_from P x dups (grind arith) (All-head P x dups all) (All-tail P x dups all) in
        (t.0, t.1, t.2, through t.0 x b (grind arith) t.3 (grind (arith, nat_tests)), All-cons (λ e. rival t.0 e ≡ true) x dups t.3 t.4)
  ]

module _ (knobs : Knobs) (rows : List Row) (row : Row) where
  -- the row may join none of these dups
  abbrev pub JoinsNone : List DupRow → Type 0
  JoinsNone dups = All (λ d. may_join knobs rows row d ≡ false) dups

  none_to_join : (dups : List DupRow) → best_dup knobs rows dups row ≡ None → JoinsNone dups
  none_to_join dups none k d lt =
      let fails = find_none (is_best knobs rows dups row) dups none in
      grind (arith, top_from (may_join knobs rows row) (item_count rows) (λ e. is_best knobs rows dups row e ≡ false) (get_or dups k d) dups, fails k d lt, fails, list_all-from_AllPass)

  none_is_best : (dups : List DupRow) → JoinsNone dups → best_dup knobs rows dups row ≡ None
  none_is_best dups none = find_nothing _ _ (λ k d lt. rw (none k d lt))

-- a row that waits on does so beside other rows and dups, where it may join none then
pub on_still : (b : BookState) (new : List Row) (dups : List DupRow) (next : ℕ) (r : Row)
    → (JoinsNone b.knobs b.rows r b.dups → JoinsNone b.knobs new r dups)
    → waits_on b r ≡ true → waits_on (record b { rows = new; dups = dups; next = next }) r ≡ true
on_still b new dups next r joins_none is = grind (arith, none_is_best, none_to_join)

-- where a visit may change the row, it is of one of these pages, or waits on
abbrev pub WaitsElse : BookState → List GuestPage → Row → Type 0
WaitsElse b pages r = is_restless r ≡ true → has_item r.page pages ≡ false → waits_on b r ≡ true

-- where some pages are due, more may be
pub more_due : (b : BookState) (some more : List GuestPage)
    → ((p : GuestPage) → has_item p some ≡ true → has_item p more ≡ true) → AreDue b some → AreDue b more
more_due b some more has due = grind arith

-- a change that merges no other rows into a number leaves the count of those merged into it
pub count_kept : (number : ℕ) (test : Row → Bool) (f : Row → Row) (rows : List Row)
    → All (λ r. test r ≡ true → merged_into number (f r).state ≡ merged_into number r.state) rows
    → count_by (λ r. merged_into number r.state) (change_rows test f rows) ≡ count_by (λ r. merged_into number r.state) rows
count_kept number test f rows same = grind (arith, count_mapped)

abbrev merge : ℕ → Row → Row
merge number r = record r { state = Merged number }

-- the row of a page changes, which is not merged, before or after
module _ (b : BookState) (page : GuestPage) (f : Row → Row) (row : Row) (rise : InPageOrder b.rows)
    (found : row_at page b.rows ≡ Some row) (single : (merged_state row.state ≡ false) × (merged_state (f row).state ≡ false)) where
  abbrev after : BookState
  after = record b { rows = change_row page f b.rows }

  is : All (λ r. same_page r.page page ≡ true → r ≡ row) b.rows
  is = row_of_page page b.rows row rise found

  on_kept : (r : Row) → waits_on after r ≡ waits_on b r
  on_kept r =
      let same_items = λ (d : DupRow). count_kept d.number (λ r. same_page r.page page) f b.rows (grind (arith, not_an_item, is)) in
      simp (same_items, waits_on, by_counts)

  -- the page is due then, if a visit may change its row and it does not wait on; the others are as they were
  pub own_due : (due more : List GuestPage) → WaitsElse b more (f row)
      → ((p : GuestPage) → same_page p page ≡ false → has_item p due ≡ true → has_item p more ≡ true)
      → AreDue b due → AreDue after more
  own_due due more ours others was =
      all_changed (WaitsElse after more) (λ r. same_page r.page page) f b.rows
      (λ k d lt passes restless out. grind (arith, is k d lt passes, on_kept (f row), ours))
      (λ k d lt fails restless out. grind (arith, on_kept (get_or b.rows k d), was k d lt, others (get_or b.rows k d).page fails))

-- the visit of a row
module _ (b : BookState) (sound : IsSound b) (row : Row) (found : row_at row.page b.rows ≡ Some row) (restless : is_restless row ≡ true) where
  only : All (λ r. same_page r.page row.page ≡ true → r ≡ row) b.rows
  only = row_of_page _ _ row sound.rows_rise found

  unmerged : merged_state row.state ≡ false
  unmerged = own_not_merged _ (restless_own row restless)

  module _ (pages : List GuestPage) (was : AreDue b (row.page ∷ pages)) where
    -- the row gets another state that is not merged, and waits on then, or no visit may change it
    alone_due : (f : Row → Row) → merged_state (f row).state ≡ false → WaitsElse b pages (f row)
        → AreDue (record b { rows = change_row row.page f b.rows }) pages
    alone_due f single ours =
        own_due b row.page f row sound.rows_rise found (unmerged, single) (row.page ∷ pages) pages ours
        (grind (arith, same_page_sym)) was

    -- rows become merged, its own among them: the others wait on that did, where they may join no dup then
    merged_due : (test : Row → Bool) (number : ℕ) (dups : List DupRow) (next : ℕ)
        → ((r : Row) → test r ≡ false → same_page row.page r.page ≡ false)
        → All (λ r. test r ≡ false → waiting_state r.state ≡ true → JoinsNone b.knobs b.rows r b.dups
        → JoinsNone b.knobs (change_rows test (merge number) b.rows) r dups) b.rows
        → AreDue (record b { rows = change_rows test (merge number) b.rows; dups = dups; next = next }) pages
    merged_due test number dups next own still =
        let c = record b { rows = change_rows test (merge number) b.rows; dups = dups; next = next } in
        all_changed (WaitsElse c pages) test (merge number) b.rows (grind arith)
        (λ k d lt fails calm out.
        let on = was k d lt calm (grind (arith, own (get_or b.rows k d) fails)) in
        on_still b c.rows dups next (get_or b.rows k d) (still k d lt fails (grind arith)) on)

    other_count : (test : Row → Bool) (number : ℕ) → All (λ r. test r ≡ true → merged_state r.state ≡ false) b.rows
        → (e : DupRow) → (e.number == number) ≡ false
        → item_count (change_rows test (merge number) b.rows) e ≡ item_count b.rows e
    other_count test number single e other = count_kept e.number test (merge number) b.rows
        (λ k d lt passes. grind (arith, nat_tests, single k d lt passes, not_an_item))

    -- the row joins a dup, which has an item and room: a row that may join none is of another tree or content
    joined_due : (dup : DupRow) → best_dup b.knobs b.rows b.dups row ≡ Some dup
        → AreDue (record b { rows = change_row row.page (merge dup.number) b.rows }) pages
    joined_due dup best = merged_due of_page dup.number b.dups b.next (λ r other. same_page_sym row.page r.page ∙ other)
        (λ k d lt _ _ none j e lt_e. each (get_or b.rows k d) (get_or b.dups j e) (none j e lt_e))
      where
        of_page : Row → Bool
        of_page r = same_page r.page row.page

        same_number : (e : DupRow) → (e.number == dup.number) ≡ true → item_count b.rows e ≡ item_count b.rows dup
        same_number e same = ap (λ n. count_by (λ r. merged_into n r.state) b.rows) (eqb-true _ _ same)

        each : (r : Row) (e : DupRow) → may_join b.knobs b.rows r e ≡ false
            → may_join b.knobs (change_rows of_page (merge dup.number) b.rows) r e ≡ false
        each r e none = grind (arith, find_passes, same_number e, other_count of_page dup.number (grind (arith, only, unmerged)) e)

    -- the row makes a dup with the one that waits for it: no other row that waits is of its tree and content
    made_due : (place : ℕ) (w : Row) → partner b.knobs b.rows row ≡ Some w → AreDue (made_dup place b w row) pages
    made_due place w waits = merged_due test b.next (with_dup new b.dups) (b.next + 1) (grind (arith, same_page_sym)) (λ k d lt fails waiting none.
        all_with_dup (λ e. may_join b.knobs (change_rows test (merge b.next) b.rows) (get_or b.rows k d) e ≡ false) new b.dups
        (grind (arith, nat_tests, one_waits b row w sound waits k d lt, same_page_refl, bytes_eq-Decides))
        (λ j e lt_e. grind (arith, nat_tests, none j e lt_e, sound.numbers j e lt_e, other_count test b.next single (get_or b.dups j e))))
      where
        test : Row → Bool
        test r = same_page r.page w.page || same_page r.page row.page

        new : DupRow
        new = dup_of_row b.knobs b.next place row

        single : All (λ r. test r ≡ true → merged_state r.state ≡ false) b.rows
        single k d lt passes =
            let waiter_only = find_all (waits_for b.knobs row)
            (λ r. All (λ t. same_page t.page r.page ≡ true → t ≡ r) b.rows) b.rows w waits
            (one_of_each_page _ sound.rows_rise) in
            grind (arith, waiter_only k d lt, only k d lt, unmerged, find_passes)

    handled_due : (o : Option DupRow) → best_dup b.knobs b.rows b.dups row ≡ o → (o ≡ None → row.unchanged ≡ true)
        → AreDue (handled o b row) pages
    handled_due (Some dup) best same = joined_due dup best
    handled_due None best same =
        cond_both row.unchanged _ _ (λ c. AreDue c pages)
        (λ _. cond_both (is_for_zero b.knobs row) _ _ (λ c. AreDue c pages)
        (λ _. alone_due (λ r. record r { state = Zero }) refl (grind arith)) (paired_due _ refl))
        (λ changed. absurd (grind (arith, same refl)))
      where
        paired_due : (o : Option Row) → partner b.knobs b.rows row ≡ o → is_for_zero b.knobs row ≡ false → AreDue (paired o b row) pages
        paired_due (Some w) waits other = made_due _ w waits
        paired_due None alone other = alone_due (λ r. record r { state = Waiting }) refl (grind (arith, best, same))

    -- once a row was visited its page is due no longer, but where its bytes had changed
    pub row_undue : (best_dup b.knobs b.rows b.dups row ≡ None → row.unchanged ≡ true) → AreDue (row_visited b row) pages
    row_undue same = grind (arith, handled_due _ refl same, restless_own row restless)

-- where the page was due, it is so no longer, and every other page is due as it was
abbrev pub IsDueNoMore : GuestPage → BookState → BookState → Type 0
IsDueNoMore page old new = (pages : List GuestPage) → AreDue old (page ∷ pages) → AreDue new pages

-- a page is not due whose row, if it has one, no visit may change
pub calm_undue : (b : BookState) (page : GuestPage) → InPageOrder b.rows → restless_at page b.rows ≡ false → IsDueNoMore page b b
calm_undue b page rise calm pages was k d lt restless out = grind (arith, was k d lt, at_own_page page b.rows rise k d lt)

-- where the visit of a page changes nothing but which rows wait, the page is due no longer
pub still_undue : (b : BookState) (deed : Deed) (page : GuestPage) → IsSound b → IsStill (b, deed) (page_visited (b, deed) page)
    → IsDueNoMore page b (page_visited (b, deed) page).0
still_undue b deed page sound =
    by_row (λ p. IsStill (b, deed) (page_visited (b, deed) p) → IsDueNoMore p b (page_visited (b, deed) p).0) page b.rows
    (λ calm _. let same : page_visited (b, deed) page ≡ (b, deed) = grind arith in
    rw same (calm_undue b page sound.rows_rise calm))
    (λ r found restless still pages was.
    let mark : Row → Row = λ s. record s { unchanged = true; state = OwnPage } in
    let at = λ (rows : List Row). find_mapped settled (λ s. same_page s.page r.page) (λ s. same_page s.page r.page) rows (λ k d lt. refl) in
    let same = rw (found, restless) at still in
    rw (found, restless) (row_undue b sound r found restless pages was (λ none.
    grind (arith, ap (row_at r.page) same.rows, at b.rows, at (change_row r.page mark b.rows), find_changed (λ (s : Row). s.page) r.page mark (λ s. refl) b.rows r found))))

-- the visit of a page that is not due does nothing
pub undue_rests : (b : BookState) (due : List GuestPage) → IsSound b → AreDue b due → (page : GuestPage) → has_item page due ≡ false
    → Rests due_visited b page
undue_rests b due sound are page =
    by_row (λ p. has_item p due ≡ false → Rests due_visited b p) page b.rows
    (λ calm _ deed. calm_stays (b, deed) page calm) (λ r found restless out deed.
    let among = λ (P : Row → Type 0). find_all (λ x. same_page x.page r.page) P b.rows r found in
    let alone = among (λ x. waiting_state x.state ≡ true → partner b.knobs b.rows x ≡ None) sound.waiting in
    let still = change_still r.page (λ x. record x { state = Waiting }) b.rows (grind (arith, row_of_page, among (WaitsElse b due))) in
    grind (arith, among (WaitsElse b due) are restless out, then_idle))
