-- A pass over what is due has gone so far: what the book is then, of whose rows those do not wait that it has not gone by.
use Rattle.ksm_book.proofs.Names.{after_cursor, All, All-cons, All-filter, All-head, All-tail, Answer, any_found, ap, AreDue, arith, Before, before_irrefl, best_dup, BookState, BookValue, Bool, bytes_of, cases_Bool, change_row, change_rows, comes_before, comes_later, count_alike, counters_of}
use Rattle.ksm_book.proofs.Names.{count_by, count_change_row, count_mapped, count_more, count_none, count_without_page, CountsLater, Done, DueView, DupRow, each_at_page, Err, Everywhere, false, filter, filter_mapped, find_mapped, find_none, filter_passes, find_passes, FindsNext, FindsUpTo, get_or}
use Rattle.ksm_book.proofs.Names.{GuestPage, has_gone_by, has_items, if◌then◌else◌, inl, InPageOrder, inr, is_known, is_restless, IsCarried, IsDupOf, IsSound, Knobs, List, list_any, live_dup_at, map, map-id, map_alike, map_fixed, map_mapped, mappers_of, MatchOption, mergeable_pages, Merged, merged_into, merged_state, nat_lt, None}
use Rattle.ksm_book.proofs.Names.{none_counted, not, Nowhere, Ok, one_before, Option, option_map, OwnPage, paired, pages_ahead, partner, pass_ended_at_last, private_state, Reach, reach_at, refl, Row, row_at, row_visited, shown_so_far}
use Rattle.ksm_book.proofs.Names.{same_page, same_page_eq, settled, settled_calmer, so_far, Some, sound_changed, Store, stored, sym, takes_over, ticket_of, true, up_to, UpTo, view_of, Waiting, waiting_state, waits_for, waits_later}
use Rattle.ksm_book.proofs.Names.{waits_tells, without_page, Zero, zero_state, [], ℕ, ◌&&◌, ◌+◌, ◌-◌, ◌||◌, ◌∙◌, ◌∷◌, ◌≡◌, ◌≤◌, ◌⊎◌}
use Rattle.ksm_book.proofs.Along.{after_later}
use Rattle.ksm_book.proofs.ByPage.{found_page}
use Rattle.ksm_book.proofs.DueKept.{calmed, calmed_at, items_kept, narrowed, narrowed_alike}
use Rattle.ksm_book.proofs.Folded.{mergeable_kept}

-- whether the row of a page waits, if it has one
abbrev pub waits_row : Option Row → Bool
waits_row None = false
waits_row (Some r) = waiting_state r.state

abbrev pub waits_at : GuestPage → List Row → Bool
waits_at page rows = waits_row (row_at page rows)

module _ (reach : Reach) (b : BookState) where
  abbrev pub over : Row → Bool
  over r = not (has_gone_by reach r.page)

  -- the book is sound then
  pub sound_so_far : IsSound b → IsSound (so_far reach b)
  sound_so_far s = sound_changed b over settled settled_calmer (λ r home. home) s

  -- where no row waits later it is as it was
  pub all_so_far : count_by (waits_later reach) b.rows ≡ 0 → so_far reach b ≡ b
  all_so_far none =
      let fails = none_counted (waits_later reach) b.rows none in
      λ i. record b { rows = map_fixed (calmed over) b.rows (λ k d lt. grind (arith, fails k d lt)) i }

  -- scans visit the same pages
  pub mergeable_so_far : mergeable_pages (so_far reach b).rows ≡ mergeable_pages b.rows
  mergeable_so_far = mergeable_kept (calmed over) (grind arith) b.rows

  pub any_mergeable : list_any (λ r. r.mergeable) (so_far reach b).rows ≡ list_any (λ r. r.mergeable) b.rows
  any_mergeable = grind (arith, any_found, find_mapped (calmed over) (λ r. r.mergeable) (λ r. r.mergeable) b.rows (grind arith))

  pub ahead_so_far : pages_ahead (so_far reach b) ≡ pages_ahead b
  ahead_so_far = ap (filter (after_cursor b.cursor)) mergeable_so_far

  -- settled, its rows are the same
  pub settled_so_far : map settled (so_far reach b).rows ≡ map settled b.rows
  settled_so_far = map_mapped settled (calmed over) settled b.rows (grind arith)

  -- a pass that has gone through all pages ends
  pub ended_so_far : pass_ended_at_last (so_far reach b) ≡ so_far reach (pass_ended_at_last b)
  ended_so_far = grind (arith, find_mapped (calmed over) (λ r. r.mergeable && after_cursor b.cursor r.page) (λ r. r.mergeable && after_cursor b.cursor r.page) b.rows)

  -- what is read of it is the same
  pub bytes_so_far : (page : GuestPage) → bytes_of page (so_far reach b) ≡ bytes_of page b
  bytes_so_far page = grind (arith, calmed_at over b page)

  pub known_so_far : (page : GuestPage) → is_known (so_far reach b) page ≡ is_known b page
  known_so_far page = grind (arith, calmed_at over b page)

  pub ticket_so_far : (page : GuestPage) → ticket_of page (so_far reach b) ≡ ticket_of page b
  ticket_so_far page = grind (arith, calmed_at over b page)

  live_so_far : (place : ℕ) → live_dup_at (so_far reach b) place ≡ live_dup_at b place
  live_so_far place = simp (items_kept over b, live_dup_at, has_items)

  items_so_far : (d : DupRow) → map (λ r. r.page) (filter (λ r. merged_into d.number r.state) (so_far reach b).rows)
      ≡ map (λ r. r.page) (filter (λ r. merged_into d.number r.state) b.rows)
  items_so_far d =
      ap (map (λ (r : Row). r.page)) (filter_mapped (calmed over) (λ r. merged_into d.number r.state) (λ r. merged_into d.number r.state) b.rows (grind arith))
      ∙ map_mapped (λ (r : Row). r.page) (calmed over) (λ r. r.page) (filter (λ r. merged_into d.number r.state) b.rows) (grind arith)

  pub mappers_so_far : (place : ℕ) → mappers_of place (so_far reach b) ≡ mappers_of place b
  mappers_so_far place = by (live_dup_at b place) refl
    where
      by : (o : Option DupRow) → live_dup_at b place ≡ o → mappers_of place (so_far reach b) ≡ mappers_of place b
      by None none = grind (arith, live_so_far place)
      by (Some d) found = grind (arith, live_so_far place, items_so_far d)

-- where no pass over what is due goes on, the book is as it was
pub shown_whole : (due : DueView) (v : BookValue) → due.later ≡ 0 → CountsLater due v.state → shown_so_far due v ≡ v
shown_whole due v none counts = λ i. record v { state = all_so_far due.reach v.state (sym counts ∙ none) i }

pub none_later : (rows : List Row) → 0 ≡ count_by (waits_later Everywhere) rows
none_later rows = sym (count_none (waits_later Everywhere) rows (λ k d lt. grind arith))

pub shown_ended : (due : DueView) (v : BookValue) → due.reach ≡ Everywhere → shown_so_far due v ≡ v
shown_ended due v ended =
    let none : count_by (waits_later due.reach) v.state.rows ≡ 0 = rw ended (sym (none_later v.state.rows)) in
    λ i. record v { state = all_so_far due.reach v.state none i }

pub counts_ended : (due : DueView) (b : BookState) → (due.reach ≡ Everywhere) × (due.later ≡ 0) → CountsLater due b
counts_ended due b ended = ended.1 ∙ rw ended.0 (none_later b.rows)

-- rows that wait later are counted private
unshared_in : (reach : Reach) (rows : List Row)
    → count_by (λ r. waiting_state r.state) (change_rows (λ r. not (has_gone_by reach r.page)) settled rows) + count_by (waits_later reach) rows
    ≡ count_by (λ r. waiting_state r.state) rows
unshared_in reach [] = refl
unshared_in reach (r ∷ rows) =
    let waits : Row → Bool = λ x. waiting_state x.state in
    let more = count_more waits (calmed (λ x. not (has_gone_by reach x.page)) r) (change_rows (λ x. not (has_gone_by reach x.page)) settled rows) in
    grind (arith, more, count_more waits r rows, count_more (waits_later reach) r rows, unshared_in reach rows)

volatile_in : (reach : Reach) (rows : List Row) → All (λ r. private_state r.state ≡ false → r.mergeable ≡ true) rows
    → count_by (λ r. r.mergeable && private_state r.state) (change_rows (λ r. not (has_gone_by reach r.page)) settled rows)
    ≡ count_by (λ r. r.mergeable && private_state r.state) rows + count_by (waits_later reach) rows
volatile_in reach [] all = refl
volatile_in reach (r ∷ rows) all =
    let counts : Row → Bool = λ x. x.mergeable && private_state x.state in
    let more = count_more counts (calmed (λ x. not (has_gone_by reach x.page)) r) (change_rows (λ x. not (has_gone_by reach x.page)) settled rows) in
    let rest = volatile_in reach rows (All-tail (λ x. private_state x.state ≡ false → x.mergeable ≡ true) r rows all) in
    grind (arith, more, count_more counts r rows, count_more (waits_later reach) r rows, all 0 r, rest)

-- the counters are those of the book, but for the rows that wait later
module _ (reach : Reach) (b : BookState) where
  pub unshared_so_far : count_by (λ r. waiting_state r.state) (so_far reach b).rows + count_by (waits_later reach) b.rows
      ≡ count_by (λ r. waiting_state r.state) b.rows
  unshared_so_far = unshared_in reach b.rows

  pub volatile_so_far : IsSound b → count_by (λ r. r.mergeable && private_state r.state) (so_far reach b).rows
      ≡ count_by (λ r. r.mergeable && private_state r.state) b.rows + count_by (waits_later reach) b.rows
  volatile_so_far sound = volatile_in reach b.rows sound.mergeable

  -- bytes stored to a page come to the same so far
  pub stored_so_far : (page : GuestPage) (bytes : List ℕ)
      → so_far reach (record b { rows = change_row page (stored bytes) b.rows })
      ≡ record (so_far reach b) { rows = change_row page (stored bytes) (so_far reach b).rows }
  stored_so_far page bytes = λ i. record b { rows = same i }
    where
      same : change_rows (over reach b) settled (change_row page (stored bytes) b.rows)
          ≡ change_row page (stored bytes) (change_rows (over reach b) settled b.rows)
      same = map_mapped (calmed (over reach b)) (λ r. if same_page r.page page then stored bytes r else r)
          (λ r. if same_page r.page page then stored bytes r else calmed (over reach b) r) b.rows (λ k d lt. grind arith)
          ∙ sym (map_mapped (λ r. if same_page r.page page then stored bytes r else r) (calmed (over reach b)) _ b.rows (λ k d lt. grind arith))

  -- where the row of a page becomes another that does not wait, as many wait later, but that one if it did
  pub later_changed : (page : GuestPage) (f : Row → Row) (row : Row) → InPageOrder b.rows → row_at page b.rows ≡ Some row
      → waiting_state (f row).state ≡ false
      → count_by (waits_later reach) (change_row page f b.rows) ≡ count_by (waits_later reach) b.rows - (if waits_later reach row then 1 else 0)
  later_changed page f row rise found calm =
      grind (arith, count_change_row (waits_later reach) page f b.rows row rise found, calm)

  -- all of them, where it did not
  pub later_still : (page : GuestPage) (f : Row → Row) (row : Row) → InPageOrder b.rows → row_at page b.rows ≡ Some row
      → waiting_state row.state ≡ false → waiting_state (f row).state ≡ false
      → count_by (waits_later reach) (change_row page f b.rows) ≡ count_by (waits_later reach) b.rows
  later_still page f row rise found calm calm_then = grind (arith, later_changed page f row rise found calm_then, calm)

  -- where rows that the pass has gone by change, and keep their pages, as many wait later
  pub later_kept : (test : Row → Bool) (f : Row → Row) → ((r : Row) → (f r).page ≡ r.page)
      → All (λ r. test r ≡ true → has_gone_by reach r.page ≡ true) b.rows
      → count_by (waits_later reach) (change_rows test f b.rows) ≡ count_by (waits_later reach) b.rows
  later_kept test f keeps gone = count_mapped (λ r. if test r then f r else r) _ _ b.rows (λ k d lt. grind (arith, keeps, gone k d lt))

module _ (b : BookState) where
  -- the pass reaches a page behind the cursor, where no row between that a visit may change
  pub later_passed : (sound : IsSound b) (reached : Option GuestPage) (page : GuestPage) → FindsNext reached b.rows (Some page)
      → count_by (waits_later (reach_at reached)) b.rows
      ≡ count_by (waits_later (UpTo page)) b.rows + (if waits_at page b.rows then 1 else 0)
  later_passed sound reached page next = by (row_at page b.rows) refl
    where
      alike : All (λ r. same_page r.page page ≡ false → waits_later (reach_at reached) r ≡ waits_later (UpTo page) r) b.rows
      alike k d lt other = grind (arith, sound.mergeable k d lt, next.1 k d lt, next.0, after_later, one_before)

      others : count_by (waits_later (reach_at reached)) (without_page page b.rows) ≡ count_by (waits_later (UpTo page)) (without_page page b.rows)
      others = count_alike (waits_later (reach_at reached)) (waits_later (UpTo page)) (without_page page b.rows) (λ k d lt.
          All-filter (λ r. not (same_page r.page page)) (λ r. same_page r.page page ≡ false → waits_later (reach_at reached) r ≡ waits_later (UpTo page) r) b.rows alike k d lt
          (grind (arith, filter_passes (λ r. not (same_page r.page page)) b.rows k d lt)))

      by : (o : Option Row) → row_at page b.rows ≡ o → count_by (waits_later (reach_at reached)) b.rows
          ≡ count_by (waits_later (UpTo page)) b.rows + (if waits_at page b.rows then 1 else 0)
      by None none =
          let fails = find_none (λ (r : Row). same_page r.page page) b.rows none in
          let same = count_alike (waits_later (reach_at reached)) (waits_later (UpTo page)) b.rows (λ k d lt. alike k d lt (fails k d lt)) in
          rw none (omega (arith, same))
      by (Some row) found =
          let is = found_page page b.rows row found in
          let one = count_without_page (waits_later (reach_at reached)) page b.rows row sound.rows_rise found in
          let two = count_without_page (waits_later (UpTo page)) page b.rows row sound.rows_rise found in
          let own : waits_later (UpTo page) row ≡ false = rw (is, before_irrefl page) (grind arith) in
          let was : waits_later (reach_at reached) row ≡ waiting_state row.state = rw is (grind (arith, next.0)) in
          rw found (grind (arith, others, one, two, own, was))

-- where a page comes before one that the pass has gone by, it has gone by that too
gone_too : (reach : Reach) (q page : GuestPage) → comes_before q page ≡ true → has_gone_by reach page ≡ true → has_gone_by reach q ≡ true
gone_too Everywhere q page before past = refl
gone_too (UpTo last) q page before past = grind (arith, after_later (Some last) q page)
gone_too (Before next) q page before past = grind (arith, after_later (Some q) page next)
gone_too Nowhere q page before past = cc

-- so it has by each of two pages that it has gone by
either_gone : (reach : Reach) (q w page : GuestPage) → has_gone_by reach w ≡ true → has_gone_by reach page ≡ true
    → (same_page q w || same_page q page) ≡ true → has_gone_by reach q ≡ true
either_gone reach q w page one other same = elim (cases_Bool (same_page q w)) [
  | inl is ↦ rw (same_page_eq q w is) one
  | inr out ↦ rw (same_page_eq q page (rw out at same)) other
]

-- as many rows wait later, where the pass has gone by the page
abbrev pub KeepsLater : GuestPage → BookState → BookState → Type 0
KeepsLater page old new = (reach : Reach) → has_gone_by reach page ≡ true
    → count_by (waits_later reach) new.rows ≡ count_by (waits_later reach) old.rows

-- so they do after the visit of a row that takes over from none
module _ (b : BookState) (row : Row) where
  pub one_later : (f : Row → Row) → ((r : Row) → (f r).page ≡ r.page) → KeepsLater row.page b (record b { rows = change_row row.page f b.rows })
  one_later f keeps reach past = later_kept reach b (λ r. same_page r.page row.page) f keeps (λ k d lt same. grind (arith, same_page_eq))

  paired_later : (o : Option Row) → partner b.knobs b.rows row ≡ o → comes_later row.page o ≡ false → KeepsLater row.page b (paired o b row)
  paired_later None found near reach past = one_later (λ r. record r { state = Waiting }) (λ r. refl) reach past
  paired_later (Some w) found near reach past =
      let met = waits_tells b.knobs row w (find_passes (waits_for b.knobs row) b.rows w found) in
      let gone = gone_too reach w.page row.page (grind (arith, one_before, met)) past in
      later_kept reach b (λ r. same_page r.page w.page || same_page r.page row.page) (λ r. record r { state = Merged b.next }) (λ r. refl)
      (λ k d lt. either_gone reach (get_or b.rows k d).page w.page row.page gone past)

  pub row_later : takes_over b row ≡ false → is_restless row ≡ true → KeepsLater row.page b (row_visited b row)
  row_later stays is reach past = by (best_dup b.knobs b.rows b.dups row) refl
    where
      by : (o : Option DupRow) → best_dup b.knobs b.rows b.dups row ≡ o
          → count_by (waits_later reach) (row_visited b row).rows ≡ count_by (waits_later reach) b.rows
      by (Some d) best = grind (arith, one_later (λ r. record r { state = Merged d.number }) (λ r. refl) reach past)
      by None none =
          grind (
            arith,
            one_later (λ r. record r { state = Zero }) (λ r. refl) reach past,
            one_later (λ r. record r { unchanged = true; state = OwnPage }) (λ r. refl) reach past,
            paired_later _ refl,
          )

-- a walk over rows that a visit may change, up to the last page, ends
pub later_ends : (b : BookState) → IsSound b → (reached : Option GuestPage) (last : GuestPage) → FindsUpTo (Some last) reached b.rows None
    → ((q : GuestPage) → after_cursor reached q ≡ false → comes_before last q ≡ false)
    → count_by (waits_later (reach_at reached)) b.rows ≡ count_by (waits_later (UpTo last)) b.rows
later_ends b sound reached last none within =
    count_alike _ _ b.rows (λ k d lt. grind (arith, sound.mergeable k d lt, none k d lt, within (get_or b.rows k d).page, reached))

-- a store that was carried out was so of the book as it is so far
pub stored_carried : (reach : Reach) (v w : BookValue) (page : GuestPage) (bytes : List ℕ) (answer : Answer)
    → IsCarried (view_of v) (view_of w) (Store page bytes) answer
    → IsCarried (record (view_of v) { state = so_far reach v.state }) (record (view_of w) { state = so_far reach w.state }) (Store page bytes) answer
stored_carried reach v w page bytes answer h = by (row_at page v.state.rows) answer refl h
  where
    at : row_at page (so_far reach v.state).rows ≡ option_map (calmed (over reach v.state)) (row_at page v.state.rows)
    at = calmed_at (over reach v.state) v.state page

    by : (o : Option Row) (answer : Answer) → row_at page v.state.rows ≡ o → IsCarried (view_of v) (view_of w) (Store page bytes) answer
        → IsCarried (record (view_of v) { state = so_far reach v.state }) (record (view_of w) { state = so_far reach w.state }) (Store page bytes) answer
    by (Some row) (Ok Done) found h =
        let stored = ap (so_far reach) h.state ∙ stored_so_far reach v.state page bytes in
        record {
          answer = grind (arith, h.answer, at, found);
          state = stored;
          steps = grind (arith, h.steps, at, found, found_page page v.state.rows row found);
        }
    by o (Ok reply) found h = grind (arith, h.answer, h.state, h.steps, at, found)
    by o (Err fault) found h = grind (arith, h.answer, h.state, h.steps, at, found)

-- of the mergeable rows some are private
pub few_volatile : (rows : List Row) → count_by (λ r. r.mergeable && private_state r.state) rows ≤ count_by (λ r. r.mergeable) rows
few_volatile [] = omega arith
few_volatile (r ∷ rows) =
    grind (arith, count_more (λ (x : Row). x.mergeable && private_state x.state) r rows, count_more (λ (x : Row). x.mergeable) r rows, few_volatile rows)

pub mergeable_counted : (reach : Reach) (b : BookState) → count_by (λ r. r.mergeable) (so_far reach b).rows ≡ count_by (λ r. r.mergeable) b.rows
mergeable_counted reach b = count_mapped (calmed (over reach b)) (λ r. r.mergeable) (λ r. r.mergeable) b.rows (grind arith)

-- the counters tell rows that wait later as private
pub counted_so_far : (reach : Reach) (b : BookState) → IsSound b → let later = count_by (waits_later reach) b.rows in
    counters_of (so_far reach b) ≡ record (counters_of b) {
      unshared = (counters_of b).unshared - later;
      volatile = (counters_of b).volatile + later;
    }
counted_so_far reach b sound =
    let items = items_kept (over reach b) b in
    let shared : count_by (has_items (so_far reach b).rows) b.dups ≡ count_by (has_items b.rows) b.dups =
    count_alike _ _ b.dups (λ k d lt. ap (nat_lt 0) (items (get_or b.dups k d))) in
    let merged = count_mapped (calmed (over reach b)) (λ r. merged_state r.state) (λ r. merged_state r.state) b.rows (grind arith) in
    let zeroes = count_mapped (calmed (over reach b)) (λ r. zero_state r.state) (λ r. zero_state r.state) b.rows (grind arith) in
    let waiting = unshared_so_far reach b in
    grind (arith, shared, merged, zeroes, waiting, volatile_so_far reach b sound)

-- what is so of each row once some wait no more is so of each as it was, where that makes no difference to it
uncalmed : (test : Row → Bool) (P : Row → Type 0) → ((r : Row) → P (calmed test r) → P r) → (rows : List Row) → All P (map (calmed test) rows) → All P rows
uncalmed test P back [] all = λ k d lt. absurd (omega arith)
uncalmed test P back (r ∷ rows) all = All-cons P r rows (back r (All-head P _ _ all)) (uncalmed test P back rows (All-tail P _ _ all))

-- rows that the pass has not gone by stop waiting, page by page
module _ (b : BookState) (sound : IsSound b) (reach : Reach) where
  abbrev passed_to : Option GuestPage → BookState
  passed_to reached = narrowed (λ q. after_cursor reached q || has_gone_by reach q) b

  pub settles_first : passed_to None ≡ b
  settles_first = λ i. record b { rows = map-id b.rows i }

  module _ (reached : Option GuestPage) where
    pub settles_last : FindsUpTo None reached (passed_to reached).rows None → passed_to reached ≡ so_far reach b
    settles_last none =
        let left = uncalmed (λ r. not (after_cursor reached r.page || has_gone_by reach r.page))
        (λ r. is_restless r ≡ true → after_cursor reached r.page ≡ true → up_to None r.page ≡ false) (λ r h. grind (arith, h)) b.rows none in
        narrowed_alike _ b (has_gone_by reach) (λ k d lt waits. grind (arith, left k d lt, sound.mergeable k d lt))

    module _ (page : GuestPage) (next : FindsNext reached (passed_to reached).rows (Some page)) where
      behind : All (λ r. is_restless r ≡ true → after_cursor reached r.page ≡ true → comes_before r.page page ≡ false) b.rows
      behind = uncalmed (λ r. not (after_cursor reached r.page || has_gone_by reach r.page))
          (λ r. is_restless r ≡ true → after_cursor reached r.page ≡ true → comes_before r.page page ≡ false) (λ r h. grind (arith, h)) b.rows next.1

      -- a row that no visit may change is settled
      calm_row : (r : Row) → is_restless r ≡ false → (private_state r.state ≡ false → r.mergeable ≡ true) → settled r ≡ r
      calm_row r calm keeps = grind arith

      further : (q : GuestPage) → after_cursor reached q ≡ false → after_cursor (Some page) q ≡ false
      further q not_yet = grind (arith, after_later reached page q next.0)

      -- the row of another page is as it was, and so is each row that is not behind the page reached
      other_row : (r : Row) → (is_restless r ≡ true → after_cursor reached r.page ≡ true → comes_before r.page page ≡ false)
          → (private_state r.state ≡ false → r.mergeable ≡ true) → same_page r.page page ≡ false
          → calmed (λ x. not (after_cursor reached x.page || has_gone_by reach x.page)) r ≡ calmed (λ x. not (after_cursor (Some page) x.page || has_gone_by reach x.page)) r
      other_row r near keeps other = elim (cases_Bool (after_cursor reached r.page)) [
        | inl here ↦ elim (cases_Bool (is_restless r)) [
          | inl restless ↦ let late : after_cursor (Some page) r.page ≡ true = grind (arith, near restless here, one_before r.page page) in rw (here, late) refl
          | inr calm ↦ rw here (grind (arith, calm_row r calm keeps))
        ]
        | inr out ↦ rw (out, further r.page out) refl
      ]

      pub settles_one : has_gone_by reach page ≡ false
          → record (passed_to reached) { rows = change_row page settled (passed_to reached).rows } ≡ passed_to (Some page)
      settles_one out = λ i. record b { rows = same i }
        where
          own : (r : Row) → same_page r.page page ≡ true → settled (calmed (λ x. not (after_cursor reached x.page || has_gone_by reach x.page)) r)
              ≡ calmed (λ x. not (after_cursor (Some page) x.page || has_gone_by reach x.page)) r
          own r is = let at = same_page_eq r.page page is in rw (at, before_irrefl page, out) (grind arith)

          same : change_row page settled (passed_to reached).rows ≡ (passed_to (Some page)).rows
          same = map_mapped (λ r. if same_page r.page page then settled r else r) (calmed (λ r. not (after_cursor reached r.page || has_gone_by reach r.page)))
              (calmed (λ r. not (after_cursor (Some page) r.page || has_gone_by reach r.page))) b.rows
              (λ k d lt. let r = get_or b.rows k d in elim (cases_Bool (same_page r.page page)) [
                | inl is ↦ grind (arith, own r is)
                | inr other ↦ grind (arith, other_row r (behind k d lt) (sound.mergeable k d lt) other)
              ])

      pub settles_none : (has_gone_by reach page ≡ true) ⊎ (waits_at page (passed_to reached).rows ≡ false) → passed_to reached ≡ passed_to (Some page)
      settles_none why = λ i. record b {
        rows = map_alike (calmed (λ r. not (after_cursor reached r.page || has_gone_by reach r.page)))
            (calmed (λ r. not (after_cursor (Some page) r.page || has_gone_by reach r.page))) b.rows each i;
      }
        where
          at : row_at page (passed_to reached).rows ≡ option_map (calmed (λ r. not (after_cursor reached r.page || has_gone_by reach r.page))) (row_at page b.rows)
          at = calmed_at (λ r. not (after_cursor reached r.page || has_gone_by reach r.page)) b page

          own : (r : Row) → r.page ≡ page → row_at page b.rows ≡ Some r → calmed (λ x. not (after_cursor reached x.page || has_gone_by reach x.page)) r
              ≡ calmed (λ x. not (after_cursor (Some page) x.page || has_gone_by reach x.page)) r
          own r is found = grind (arith, at, why, next.0, before_irrefl page, is)

          each : All (λ r. calmed (λ x. not (after_cursor reached x.page || has_gone_by reach x.page)) r
              ≡ calmed (λ x. not (after_cursor (Some page) x.page || has_gone_by reach x.page)) r) b.rows
          each k d lt = let r = get_or b.rows k d in elim (cases_Bool (same_page r.page page)) [
            | inl is ↦ let eq = same_page_eq r.page page is in own r eq (rw (← eq) (each_at_page b.rows sound.rows_rise k d lt))
            | inr other ↦ other_row r (behind k d lt) (sound.mergeable k d lt) other
          ]

-- where it is told of the row of a page whether that waits later, the pass has not gone by the page, or it has, or the row does not wait
pub stops_later : (reach : Reach) (page : GuestPage) (rows : List Row) (told : Bool)
    → MatchOption (row_at page rows) (told ≡ false) (λ r. told ≡ waits_later reach r)
    → (told ≡ true → has_gone_by reach page ≡ false) × (told ≡ false → (has_gone_by reach page ≡ true) ⊎ (waits_at page rows ≡ false))
stops_later reach page rows told is = by (row_at page rows) refl is
  where
    by : (o : Option Row) → row_at page rows ≡ o → MatchOption o (told ≡ false) (λ r. told ≡ waits_later reach r)
        → (told ≡ true → has_gone_by reach page ≡ false) × (told ≡ false → (has_gone_by reach page ≡ true) ⊎ (waits_at page rows ≡ false))
    by None none is = (λ yes. grind (arith, is), λ not_told. inr (grind (arith, none)))
    by (Some r) found is =
        let at = found_page page rows r found in
        (λ yes. grind (arith, is, at), λ not_told. elim (cases_Bool (has_gone_by reach page)) [ inl gone ↦ inl gone | inr out ↦ inr (grind (arith, found, is, at)) ])

-- where a page was not gone by, its row waits later exactly if it waits; where it was, it does not
pub tells_later : (reach : Reach) (page : GuestPage) (rows : List Row) (waits : Bool)
    → MatchOption (row_at page rows) (waits ≡ false) (λ r. waits ≡ waiting_state r.state)
    → MatchOption (row_at page rows) ((not (has_gone_by reach page) && waits) ≡ false) (λ r. (not (has_gone_by reach page) && waits) ≡ waits_later reach r)
tells_later reach page rows waits = by (row_at page rows) refl
  where
    by : (o : Option Row) → row_at page rows ≡ o → MatchOption o (waits ≡ false) (λ r. waits ≡ waiting_state r.state)
        → MatchOption o ((not (has_gone_by reach page) && waits) ≡ false) (λ r. (not (has_gone_by reach page) && waits) ≡ waits_later reach r)
    by None none is = grind (arith, is)
    by (Some r) found is = let at = found_page page rows r found in grind (arith, is, at)

pub gone_later : (reach : Reach) (page : GuestPage) (rows : List Row) (told : Bool) → told ≡ false → has_gone_by reach page ≡ true
    → MatchOption (row_at page rows) (told ≡ false) (λ r. told ≡ waits_later reach r)
gone_later reach page rows told out gone = by (row_at page rows) refl
  where
    by : (o : Option Row) → row_at page rows ≡ o → MatchOption o (told ≡ false) (λ r. told ≡ waits_later reach r)
    by None none = out
    by (Some r) found = let at = found_page page rows r found in grind (arith, out, gone, at)

-- where all rows settled are sound without dups and with other knobs, they are so as they are, if each that waits has no partner then
pub regrouped_sound : (b : BookState) (knobs : Knobs) → IsSound b → IsSound (record b { rows = map settled b.rows; dups = []; knobs = knobs })
    → All (λ r. waiting_state r.state ≡ true → partner knobs b.rows r ≡ None) b.rows → IsSound (record b { dups = []; knobs = knobs })
regrouped_sound b knobs s t alone = record {
  shape = s.shape;
  knobs = t.knobs;
  passes = s.passes;
  rows_rise = s.rows_rise;
  homes = s.homes;
  mergeable = s.mergeable;
  zero = s.zero;
  waiting = alone;
  items = uncalmed (λ r. true) (λ r. (number : ℕ) → r.state ≡ Merged number → (dup : DupRow) × IsDupOf knobs [] r number dup)
      (λ r h number is. let of : (settled r).state ≡ Merged number = grind arith in grind (arith, h number of)) b.rows t.items;
  dups_rise = t.dups_rise;
  numbers = t.numbers;
  trees = t.trees;
  limit = λ k d lt. absurd (omega arith);
}

-- what is due stays so under such knobs, where no dup is there
pub regrouped_due : (b : BookState) (knobs : Knobs) (pages : List GuestPage) → knobs.use_zero_pages ≡ b.knobs.use_zero_pages → AreDue b pages
    → AreDue (record b { dups = []; knobs = knobs }) pages
regrouped_due b knobs pages same due k d lt restless out = grind (arith, same, due k d lt restless out)
