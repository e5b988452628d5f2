-- The visits of a pass are a fold over its pages: what they keep, what the parts of a scan come to, and what of it was reached.
use Rattle.ksm_book.proofs.Names.{after_cursor, Ahead, ahead_before, AllPairs-filter, and_right, ap, append-nil, AreAscending, arith, At, begun, BookState, BookValue, Bool, cases_Bool, Comes}
use Rattle.ksm_book.proofs.Names.{comes_before, Deed, drop, drop_all, drop_more, each_at_page, EndsAt, false, filter, filter_all, filter_mapped, find_all, find_passes, get_or_from_slice_get}
use Rattle.ksm_book.proofs.Names.{GuestPage, has_item, idle, inl, InPageOrder, inr, is_none, is_nowhere, is_restless, is_some, IsSound, IsStill, last_of, last_of_take, last_visited, length}
use Rattle.ksm_book.proofs.Names.{length-take-le, List, map, map_mapped, mapped_some, mergeable_pages, next_row, next_visited, None, Option, option_map, page_visited, pages_ahead, pages_visited}
use Rattle.ksm_book.proofs.Names.{PageState, pairs_mapped, pass_begun, pass_ended_at_last, passes_ended, Reached, refl, restless_at, Row, row_at, row_visited, rowwise_visits, settled, slice_get}
use Rattle.ksm_book.proofs.Names.{slice_get_within, Some, sound_cursor, sound_row_visited, sound_settings, sound_visit_begun, Stage, subst, suc, suc-mul, sym, take, take_all, then_doing, true}
use Rattle.ksm_book.proofs.Names.{true≢false, up_to, view_of, visit, visit_begun, visit_of, visits, visits_beside, zero, [], ℕ, ⊤, ◌*◌, ◌+◌, ◌-◌, ◌<◌, ◌||◌, ◌∙◌, ◌∷◌, ◌≡◌, ◌≤◌}
use Rattle.ksm_book.proofs.Along.{Before, behind_first, place_of, place_splits}
use Rattle.ksm_book.proofs.ByPage.{found_page, row_of_page}
use Rattle.ksm_book.proofs.Made.{made_none}

-- the next row is that of the first page ahead
pub next_first : (cursor : Option GuestPage) (rows : List Row)
    → option_map (λ r. r.page) (next_row cursor rows) ≡ slice_get (filter (after_cursor cursor) (mergeable_pages rows)) 0
next_first cursor [] = refl
next_first cursor (r ∷ rows) = grind (arith, next_first cursor rows)

some_next : (c : BookState) {page : GuestPage} {more : List GuestPage} → pages_ahead c ≡ page ∷ more
    → (row : Row) × (next_row c.cursor c.rows ≡ Some row) × (row.page ≡ page)
some_next c is = mapped_some _ _ (grind (arith, next_first))

-- a pass with a page ahead does not end
pub pass_goes_on : (c : BookState) (page : GuestPage) (more : List GuestPage) → pages_ahead c ≡ page ∷ more → pass_ended_at_last c ≡ c
pass_goes_on c page more is = rw (and_right _ _ (ap is_none (some_next c is).1))

ascending_mergeable : (rows : List Row) → InPageOrder rows → AreAscending (mergeable_pages rows)
ascending_mergeable rows rise =
    let S : Row → Row → Type 0 = λ a b. Before a.page b.page in
    pairs_mapped S _ (λ _. ⊤) _ (λ a b _ _ before. before) _ (λ i d lt. tt) (AllPairs-filter S _ _ rise)

-- the pages ahead ascend where the rows are in page order
pub ascending_ahead : (b : BookState) → InPageOrder b.rows → AreAscending (pages_ahead b)
ascending_ahead b rise = AllPairs-filter Before _ _ (ascending_mergeable _ rise)

-- rows that settled are settled
pub settled_twice : (rows : List Row) → map settled (map settled rows) ≡ map settled rows
settled_twice rows = grind (arith, map_mapped)

-- every page is behind an empty cursor
pub every_page : (rows : List Row) → filter (after_cursor None) (mergeable_pages rows) ≡ mergeable_pages rows
every_page rows = filter_all (after_cursor None) _ (λ k d lt. refl)

-- the same book with the cursor elsewhere, and with another count of passes
abbrev pub elsewhere : Option GuestPage → ℕ → BookState → BookState
elsewhere cursor passes b = record b { cursor = cursor; passes = passes }

-- where a change keeps each row's page and whether scans visit it, scans visit the same pages
pub mergeable_kept : (change : Row → Row)
    → ((r : Row) → ((change r).page ≡ r.page) × ((change r).mergeable ≡ r.mergeable))
    → (rows : List Row) → mergeable_pages (map change rows) ≡ mergeable_pages rows
mergeable_kept change keeps rows =
    grind (arith, filter_mapped change (λ r. r.mergeable) (λ r. r.mergeable) rows (grind (arith, keeps)), map_mapped)

-- a row with another state; the flag that its bytes have stayed is put, or stays
abbrev pub becomes : Bool → PageState → Row → Row
becomes put state r = record r { unchanged = put || r.unchanged; state = state }

-- scans visit the same pages after the visit of a row
row_keeps : (b : BookState) (row : Row) → mergeable_pages (row_visited b row).rows ≡ mergeable_pages b.rows
row_keeps b row = grind (arith, mergeable_kept)

-- a book is sound then, and scans visit the same pages as in another
abbrev pub Goes : BookState → BookState → Type 0
Goes old new = IsSound new × (mergeable_pages new.rows ≡ mergeable_pages old.rows)

-- what is so of a page whose row no visit may change, and of that of each row that one may, is so of each page
pub by_row : (P : GuestPage → Type 0) (page : GuestPage) (rows : List Row) → (restless_at page rows ≡ false → P page)
    → ((r : Row) → row_at r.page rows ≡ Some r → is_restless r ≡ true → P r.page) → P page
by_row P page rows calm some = elim (cases_Bool (restless_at page rows)) [
  | inl is ↦
      let r : (r : Row) × (row_at page rows ≡ Some r) × (is_restless r ≡ true) = grind arith in
      let at = found_page page rows r.0 r.1 in subst P at (some r.0 (grind arith) r.2)
  | inr stays ↦ calm stays
]

-- a deed and then no step is that deed alone
pub then_idle : (deed : Deed) → then_doing deed (idle deed.frame) ≡ deed
then_idle deed = grind (arith, append-nil deed.steps)

-- n visits and then k come to the same as n + k visits
pub beside_on : (n k m : ℕ) (s : Stage) → m ≡ n + k → visits_beside m s ≡ visits_beside k (visits_beside n s)
beside_on n zero m s sum = grind arith
beside_on n (suc k) m s sum =
    (let more : m ≡ suc (n + k) = omega arith in rw more) ∙ ap (λ s. visits_beside 1 s)
    (beside_on n k (n + k) s refl)

-- the book after n visits with what they do to the frames is the book after n visits
pub beside_state : (n : ℕ) (s : Stage) → (visits_beside n s).0 ≡ visits n s.0
beside_state zero s = refl
beside_state (suc n) s = by (begun (visits_beside n s)) _ ∙ ap visit (beside_state n s)
  where
    by : (t : Stage) (o : Option Row) → (next_visited t o).0 ≡ visit_of t.0 o
    by t o = grind arith

-- visits keep which pages scans visit
pub visits_mergeable : (n : ℕ) (s : Stage) → mergeable_pages (visits_beside n s).0.rows ≡ mergeable_pages s.0.rows
visits_mergeable n s = rw (beside_state n s) (grind (arith, (rowwise_visits n s.0).rows, mergeable_kept))

-- the visit of a page keeps a book sound, and which pages scans visit
pub page_goes : (s : Stage) (page : GuestPage) → IsSound s.0 → Goes s.0 (page_visited s page).0
page_goes s page sound = by_row (λ p. Goes s.0 (page_visited s p).0) page s.0.rows (grind arith)
    (λ r found restless. grind (arith, sound_row_visited s.0 r (grind (arith, row_of_page)), row_keeps s.0 r))

-- so do the visits of pages
pub pages_go : (pages : List GuestPage) (s : Stage) → IsSound s.0 → Goes s.0 (pages_visited s pages).0
pages_go [] s sound = (sound, refl)
pages_go (page ∷ pages) s sound = grind (arith, page_goes s page sound, pages_go pages (page_visited s page))

-- visits of pages do the same wherever the cursor stands and however many passes have ended
module _ (cursor : Option GuestPage) (passes : ℕ) where
  abbrev moved : Stage → Stage
  moved s = (elsewhere cursor passes s.0, s.1)

  page_alike : (s : Stage) (page : GuestPage) → page_visited (moved s) page ≡ moved (page_visited s page)
  page_alike s page = grind arith

  -- visits of pages from another cursor and count of passes come to the same but for these
  pub pages_alike : (pages : List GuestPage) (s : Stage) → pages_visited (moved s) pages ≡ moved (pages_visited s pages)
  pages_alike [] s = refl
  pages_alike (page ∷ pages) s = rw (page_alike s _) (pages_alike pages (page_visited s page))

-- visits of pages leave the cursor and the count of passes
pub pages_stay : (pages : List GuestPage) (s : Stage)
    → ((pages_visited s pages).0.cursor ≡ s.0.cursor) × ((pages_visited s pages).0.passes ≡ s.0.passes)
pages_stay pages s = grind (arith, pages_alike s.0.cursor s.0.passes pages s)

-- visits that begin from a state
module _ (s : Stage) where
  -- the pages ahead once a visit begins
  abbrev pub ahead : List GuestPage
  ahead = pages_ahead (visit_begun s.0)

  -- after the visits of pages
  abbrev pub after : List GuestPage → Stage
  after pages = pages_visited (begun s) pages

  -- pages were visited, with the cursor at the last
  abbrev pub stood : List GuestPage → Stage
  stood pages = (record (after pages).0 { cursor = last_of (visit_begun s.0).cursor pages }, (after pages).1)

-- so many visits led to a sound book, with a page at its cursor and others ahead; the pass ends if none is
abbrev Led : Stage → Stage → List GuestPage → ℕ → Type 0
Led s t others made =
    IsSound t.0 × (pages_ahead t.0 ≡ others) × (is_some t.0.cursor ≡ true) × (visits_beside made s ≡ (pass_ended_at_last t.0, t.1))

-- the first page ahead is visited next
first_visited : (s : Stage) (page : GuestPage) (more : List GuestPage) → IsSound (begun s).0 → ahead s ≡ page ∷ more
    → Led s (stood s (page ∷ [])) more 1
first_visited s page more sound is =
    let next = some_next (begun s).0 is in
    let there = find_all _ (λ r. row_at r.page (begun s).0.rows ≡ Some r) _ next.0 next.1 (each_at_page _ sound.rows_rise) in
    let went = page_goes (begun s) page sound in (
      sound_cursor _ _ went.0,
      ap (filter (after_cursor (Some page))) went.1 ∙ behind_first _ _ page more (ascending_mergeable _ sound.rows_rise) is,
      refl,
      grind (arith, next.1, next.2, find_passes _ (begun s).0.rows next.0 next.1, then_idle s.1),
    )

-- visits are those of the pages ahead, one after another; the pass ends with the last of them
pub visits_folded : (n : ℕ) (s : Stage) (pages : List GuestPage) → IsSound (begun s).0 → ahead s ≡ pages → n < length pages
    → Led s (stood s (take (suc n) pages)) (drop (suc n) pages) (suc n)
visits_folded n s [] sound is lt = absurd (omega arith)
visits_folded zero s (p ∷ pages) sound is lt = first_visited s p pages sound is
visits_folded (suc n) s (p ∷ []) sound is lt = absurd (omega arith)
visits_folded (suc n) s (p ∷ q ∷ pages) sound is lt =
    let first = first_visited s p (q ∷ pages) sound is in
    let t = stood s (p ∷ []) in
    let from : begun t ≡ t = grind (arith, pass_goes_on t.0 q pages first.1) in
    let later = visits_folded n t (q ∷ pages) (subst (λ (z : Stage). IsSound z.0) (sym from) first.0) (ap (λ (z : Stage). pages_ahead z.0) from ∙ first.1) (omega arith) in
    let one : visits_beside 1 s ≡ t = first.3 ∙ grind (arith, pass_goes_on t.0 q pages first.1) in
    let done = page_visited (begun s) p in
    let same : stood t (take (suc n) (q ∷ pages)) ≡ stood s (p ∷ take (suc n) (q ∷ pages)) =
    grind (arith, from, pages_alike (Some p) done.0.passes (take (suc n) (q ∷ pages)) done, pages_stay (take (suc n) (q ∷ pages)) done) in
    subst (λ z. Led s z (drop (suc n) (q ∷ pages)) (suc (suc n))) same
    (later.0, later.1, later.2, beside_on 1 (suc n) (suc (suc n)) s (omega arith) ∙ ap (visits_beside (suc n)) one ∙ later.3)

module _ (s : Stage) (sound : IsSound s.0) where
  -- the book is sound once a visit begins
  pub begun_sound : IsSound (visit_begun s.0)
  begun_sound = sound_visit_begun s.0 sound

  -- the pages ahead once a visit begins ascend
  pub ascending : AreAscending (ahead s)
  ascending = ascending_ahead (visit_begun s.0) begun_sound.rows_rise

  -- the visit behind those of the first n pages ahead begins where these have led
  pub begun_folded : (n : ℕ) (page : GuestPage) → slice_get (ahead s) n ≡ Some page
      → begun (visits_beside n s) ≡ stood s (take n (ahead s))
  begun_folded zero page at = refl
  begun_folded (suc n) page at =
      let lt = slice_get_within (ahead s) (suc n) page at in
      let made = visits_folded n s (ahead s) begun_sound refl (omega arith) in
      grind (arith, made.2, made.3, pass_goes_on (stood s (take (suc n) (ahead s))).0 _ _ (made.1 ∙ drop_more (ahead s) (suc n) page lt))

-- a pass has gone through all pages where so many visits end nowhere
pub nowhere_is : (b : BookState) (most : ℕ) (ahead : Ahead) → EndsAt (pages_ahead b) most ahead
    → is_nowhere ahead ≡ is_none (next_row b.cursor b.rows)
nowhere_is b most ahead ends =
    first _ ahead ends ∙ ap is_none (sym (next_first b.cursor b.rows)) ∙ (grind arith)
  where
    first : (pages : List GuestPage) (ahead : Ahead) → EndsAt pages most ahead
        → is_nowhere ahead ≡ is_none (slice_get pages 0)
    first [] ahead ends = grind arith
    first (page ∷ pages) ahead ends = grind arith

-- as a pass begins the pages ahead are the same
pub begun_ahead : (b : BookState) → pages_ahead (pass_begun b) ≡ pages_ahead b
begun_ahead b = grind (arith, mergeable_kept)

-- where there is a page to visit, one is ahead once a visit begins
pub some_ahead : (b : BookState) → 1 ≤ length (mergeable_pages b.rows) → 1 ≤ length (pages_ahead (visit_begun b))
some_ahead b some = grind (arith, slice_get_within (pages_ahead b) 0, next_first b.cursor b.rows, begun_ahead, every_page b.rows)

-- scans visit a restless page
pub restless_mergeable : (page : GuestPage) (rows : List Row) → restless_at page rows ≡ true → has_item page (mergeable_pages rows) ≡ true
restless_mergeable page [] is = absurd (true≢false (sym is))
restless_mergeable page (r ∷ rows) is = grind (arith, restless_mergeable page rows)

module _ (s : Stage) where
  abbrev passed : Stage
  passed = after s (filter (up_to None) (ahead s))

  abbrev ended : ℕ → Stage
  ended times = (passes_ended times passed.0, passed.1)

module _ (s : Stage) (sound : IsSound s.0) where
  -- as many visits as lead up to a page are the visits of the pages ahead up to it, with the cursor there
  pub page_made : (most : ℕ) (page : GuestPage) → 1 ≤ most → EndsAt (ahead s) most (At page)
      → (
        record (after s (filter (up_to (Some page)) (ahead s))).0 { cursor = Some page },
        (after s (filter (up_to (Some page)) (ahead s))).1,
      )
      ≡ visits_beside most s
  page_made most page some ends =
      let n = most - 1 in
      let one : suc n ≡ most = omega arith in
      let made = visits_folded n s (ahead s) (begun_sound s sound) refl (omega arith) in
      let stays = pass_goes_on (stood s (take (suc n) (ahead s))).0 _ _ (made.1 ∙ drop_more (ahead s) (suc n) page (omega arith)) in
      grind (arith, made.3, place_splits (ahead s) n page (ascending s sound) ends.1, last_of_take (ahead s) n (visit_begun s.0).cursor ends.1)

  -- as many visits as there are pages ahead are the visits of all of them, and then the end of the pass
  pass_made : 1 ≤ length (ahead s) → visits_beside (length (ahead s)) s ≡ ended s 1
  pass_made some =
      let n = length (ahead s) - 1 in
      let one : suc n ≡ length (ahead s) = omega arith in
      let made = visits_folded n s (ahead s) (begun_sound s sound) refl (omega arith) in
      let all = filter_all (up_to None) (ahead s) (λ k d lt. refl) in
      grind (arith, made, next_first (stood s (take (suc n) (ahead s))).0.cursor, drop_all, take_all)

module _ (s : Stage) (sound : IsSound s.0) (some : 1 ≤ length (mergeable_pages s.0.rows)) where
  abbrev size : ℕ
  size = length (ahead s)

  -- where a whole pass changed nothing but which rows wait, as many visits more are one such pass more
  again : (visit_begun s.0).cursor ≡ None → IsStill (begun s) (passed s) → (times : ℕ)
      → visits_beside size (ended s times) ≡ ended s (suc times)
  again none still times =
      let went = (pages_go (filter (up_to None) (ahead s)) (begun s) (begun_sound s sound)).0 in
      let start : begun (ended s times) ≡ (elsewhere None (ended s times).0.passes (visit_begun s.0), s.1) =
      grind (arith, settled_twice, none, still) in
      let same : ahead (ended s times) ≡ ahead s = grind (arith, none) in
      let made = pass_made (ended s times) (sound_settings (passed s).0 _ _ None went.knobs refl refl (omega arith) went) (rw same (some_ahead s.0 some)) in
      grind (arith, pages_alike None (ended s times).0.passes (filter (up_to None) (ahead s)) (begun s), still.beside)

  -- a pass is as many visits as there are pages ahead, and so are several, where the first is whole and still
  pub passes_made : (times : ℕ) → 1 ≤ times
      → (1 < times → ((visit_begun s.0).cursor ≡ None) × IsStill (begun s) (passed s))
      → ended s times ≡ visits_beside (times * size) s
  passes_made zero one more = absurd (omega arith)
  passes_made (suc zero) one more = grind (arith, pass_made s sound (some_ahead s.0 some))
  passes_made (suc (suc n)) one more =
      let whole = more (omega arith) in
      sym (again whole.0 whole.1 (suc n)) ∙ ap (visits_beside size) (passes_made (suc n) (omega arith) (λ lt. whole))
      ∙ sym (beside_on (suc n * size) size (suc (suc n) * size) s (omega (arith, suc-mul (suc n) size)))

-- visits that stop before a page that was ahead
module _ (s : Stage) (sound : IsSound s.0) (page : GuestPage) (there : has_item page (ahead s) ≡ true) where
  abbrev before_it : List GuestPage
  before_it = filter (λ p. comes_before p page) (ahead s)

  abbrev stopped : Stage
  stopped = after s before_it

  abbrev place : ℕ
  place = (place_of page (ahead s) there).0

  stands : slice_get (ahead s) place ≡ Some page
  stands = (place_of _ _ there).1

  first_are : ahead_before page stopped.0 ≡ take place (ahead s)
  first_are = grind (arith, pages_go, begun_sound, pages_stay, place_splits _ _ _ (ascending s sound) stands)

  many : length (ahead_before page stopped.0) ≡ place
  many = grind (arith, first_are, length-take-le, slice_get_within)

  -- visits of the pages ahead before the page, with the cursor at the last, are as many visits and one more begun
  pub stopped_made : (record stopped.0 { cursor = last_of stopped.0.cursor (ahead_before page stopped.0) }, stopped.1)
      ≡ begun (visits_beside (length (ahead_before page stopped.0)) s)
  stopped_made = grind (arith, begun_folded s sound place page stands, many, place_splits _ _ _ (ascending s sound) stands, first_are, pages_stay before_it (begun s))

  -- where so many visits would visit the page, fewer pages ahead come before it
  pub stopped_fewer : {most : ℕ} (a : Ahead) → 1 ≤ most → EndsAt (ahead s) most a
      → up_to (last_visited a) page ≡ true
      → length (ahead_before page stopped.0) < most
  stopped_fewer {most} a some comes passes =
      let order = ascending s sound (most - 1) place page in
      grind (arith, many, stands, get_or_from_slice_get, slice_get_within (ahead s) place page stands)

-- the state of a book, and a deed without a step
abbrev pub first : BookValue → Stage
first v = (v.state, idle (view_of v).frame)

-- a book has reached its own state with no step made
pub begins : (v : BookValue) → Reached v v (first v)
begins v = (refl, record { made = made_none refl; frame = refl })

-- the state that was reached is what the change makes of the first one
pub comes_to : (v w : BookValue) (change : Stage → Stage) → Comes v w change → w.state ≡ (change (first v)).0
comes_to v w change comes = (comes v (first v) (begins v)).0

-- and the keeper is of the same table
pub comes_own : (v w : BookValue) (change : Stage → Stage) → Comes v w change → w.keeper.table ≡ v.keeper.table
comes_own v w change comes = ap (λ k. k.table) (comes v (first v) (begins v)).1.made.after

-- where the state alone changed, that change was reached
pub changed_comes : (v w : BookValue) (f : BookState → BookState) → view_of w ≡ record (view_of v) { state = f v.state }
    → Comes v w (λ s. (f s.0, s.1))
changed_comes v w f same from s before = grind (arith, same, before)

-- two changes come to the same of whatever was reached with a book
pub record Agree (v : BookValue) (f g : Stage → Stage) : Type 0 where
  pub same : (from : BookValue) (s : Stage) → Reached from v s → f s ≡ g s

-- so they do where they come to the same of the book's state, with whatever deed was reached
pub agrees : (v : BookValue) {f g : Stage → Stage}
    → ((from : BookValue) (deed : Deed) → Reached from v (v.state, deed) → f (v.state, deed) ≡ g (v.state, deed)) → Agree v f g
agrees v {f} {g} each = record { same = λ from s before. grind (arith, each from s.1, before) }

-- what comes of the one comes of the other then
pub comes_as : {v : BookValue} (w : BookValue) {f g : Stage → Stage} → Agree v f g → Comes v w f → Comes v w g
comes_as w agree comes from s before = subst (Reached from w) (agree.same from s before) (comes from s before)

-- so what comes of the one comes of the other where they come to the same of the book's state
pub comes_by : (v w : BookValue) (f g : Stage → Stage) → Comes v w f
    → ((from : BookValue) (deed : Deed) → Reached from v (v.state, deed) → f (v.state, deed) ≡ g (v.state, deed)) → Comes v w g
comes_by v w f g comes each = comes_as w (agrees v each) comes
