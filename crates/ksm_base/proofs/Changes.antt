-- Each command changes what is said of it, and nothing else.
use Rattle.std.proofs.Common.{◌≡◌, ◌≢◌, ℕ, zero, suc, Bool, true, false, List, [], ◌∷◌, get_or, map, Option, Some, None, Ok, inl, inr, refl, arith}
use Rattle.std.specs.Prelude.{◌&&◌, ◌⊎◌, not, filter, find, slice_get, Contains, if◌then◌else◌}
use Rattle.std.specs.List.{AllZip}
use Rattle.std.specs.Option.{option_or}
use Rattle.std.proofs.lemmas.Bool.{cases_Bool}
use Rattle.std.proofs.lemmas.Bool.Decides.{nat_tests}
use Rattle.std.proofs.lemmas.List.Elements.{All-filter, All-contains_itself, filter_passes}
use Rattle.std.proofs.lemmas.List.Folds.{find-append}
use Rattle.std.proofs.lemmas.List.Sums.{length-filter}
use Rattle.std.proofs.lemmas.Option.{slice_get_past}
use Rattle.std.proofs.lemmas.Slice.Eq.{bytes_eq-Decides}
use Rattle.ksm_base.specs.declared.page.GuestPage.{GuestPage}
use Rattle.ksm_base.specs.declared.row.Row.{Row}
use Rattle.ksm_base.specs.declared.command.Command.{Command}
use Rattle.ksm_base.specs.declared.command.Command.TheVariants as commands
use Rattle.ksm_base.specs.declared.reply.Reply.{Reply}
use Rattle.ksm_base.specs.declared.reply.Reply.TheVariants as told
use Rattle.ksm_base.specs.declared.fault.Fault.{Fault}
use Rattle.ksm_base.specs.declared.fault.Fault.TheVariants as faults
use Rattle.ksm_base.specs.Rows.{comes_before, same_page, row_at, with_row, without_page, change_rows, shared_state, settled, has_items}
use Rattle.ksm_base.specs.State.{BookState, without_stale, with_none_waiting}
use Rattle.ksm_base.specs.Visit.{next_row, row_visited, visit, visit_begun, visit_of, visits}
use Rattle.ksm_base.specs.Refusals.{is_of}
use Rattle.ksm_base.specs.Answers.{IsAnswer, shared_rows, every_row}
use Rattle.ksm_base.specs.Apply.{fresh_row, stored, moved, let_go, unshared, is_before, scan_stopped, after}
use Rattle.ksm_base.specs.Reasons.{IsDoneAlone, Replies, done, scanned, nothing_to_scan, scan_stopped as scan_stopped_at, pruned, unmerged, unmerging_stopped}
use Rattle.ksm_base.specs.Reasons.{all_unshared, unsharing_stopped, HasReason, replies}
use Rattle.ksm_base.specs.Changes.{Where, StaleGone, IsStored, IsMoved, IsAlone, IsCalmed, IsVisited, Changes}
use Rattle.ksm_base.proofs.Pages.{same_page_refl, same_page_eq, after_differs, one_before, not_both}
use Rattle.ksm_base.proofs.Edits.{find_over}
use Rattle.ksm_base.proofs.Visits.{IsRowwise, and_then, rowwise_begun, rowwise_visits}
use Rattle.ksm_base.proofs.Reasons.{Decides-page, Decides-item, has_reason}

-- what holds between each row and its change holds between the rows and those changed
zip_map : (R : Row → Row → Type 0) (f : Row → Row) → ((r : Row) → R r (f r)) → (rows : List Row)
    → AllZip R rows (map f rows)
zip_map R f each [] = tt
zip_map R f each (r ∷ rs) = (each r, zip_map R f each rs)

-- so it does where those rows change that pass a test
zip_where : (R : Row → Row → Type 0) (test : Row → Bool) (f : Row → Row) → ((r : Row) → R r (if test r then f r else r))
    → (rows : List Row) → AllZip R rows (change_rows test f rows)
zip_where R test f = zip_map R (λ r. if test r then f r else r)

-- a search looks among those that pass a test in vain, or as among all, where all that it looks for pass it or fail it
find_kept : {X : Type 0} (p q : X → Bool) (c : Bool) → ((x : X) → p x ≡ true → q x ≡ c) → (xs : List X)
    → find p (filter q xs) ≡ (if c then find p xs else None)
find_kept p q c same [] = grind arith
find_kept p q c same (x ∷ xs) = grind (arith, same x, find_kept p q c same xs)

-- what passes a test is among those that pass it
pub contains_filter : {X : Type 0} (t : X → Bool) (xs : List X) (x : X) → Contains xs x → t x ≡ true
    → Contains (filter t xs) x
contains_filter t [] x has e = absurd (let lt = has.1 in omega arith)
contains_filter t (y ∷ ys) x (zero, lt, is) e = let here : t y ≡ true = grind arith in rw here (0, omega arith, is)
contains_filter t (y ∷ ys) x (suc i, lt, is) e =
    let rest = contains_filter t ys x (i, omega arith, is) e in
    elim (cases_Bool (t y)) [ inl kept ↦ rw kept (suc rest.0, omega arith, rest.2) | inr gone ↦ rw gone rest ]

or_nothing : (found : Option Row) → option_or found None ≡ found
or_nothing None = refl
or_nothing (Some r) = refl

-- another page has the row that it had where a row is put in
other_with : (row : Row) (rows : List Row) (other : GuestPage) → other ≢ row.page
    → row_at other (with_row row rows) ≡ row_at other rows
other_with row rows other differs =
    let of_other : Row → Bool = λ r. same_page r.page other in
    let below : Row → Bool = λ r. comes_before r.page row.page in
    let above : Row → Bool = λ r. comes_before row.page r.page in
    let first = find_kept of_other below (comes_before other row.page) (λ r same. grind (arith, same_page_eq r.page other)) rows in
    let second = find_kept of_other above (comes_before row.page other) (λ r same. grind (arith, same_page_eq r.page other)) rows in
    let apart : same_page row.page other ≡ false = grind (arith, same_page_eq row.page other) in
    grind (arith, find_over of_other (filter below rows) (filter above rows) row, find-append of_other (filter below rows) (filter above rows), or_nothing, one_before row.page other, not_both other row.page)

own_with : (row : Row) (rows : List Row) → row_at row.page (with_row row rows) ≡ Some row
own_with row rows =
    let of_page : Row → Bool = λ r. same_page r.page row.page in
    let below : Row → Bool = λ r. comes_before r.page row.page in
    let above : Row → Bool = λ r. comes_before row.page r.page in
    let none = find_kept of_page below false (λ r same. grind (arith, after_differs r.page row.page)) rows in
    grind (arith, find-append of_page (filter below rows) (row ∷ filter above rows), same_page_refl row.page)

other_without : (page : GuestPage) (rows : List Row) (other : GuestPage) → other ≢ page
    → row_at other (without_page page rows) ≡ row_at other rows
other_without page rows other differs =
    find_kept (λ r. same_page r.page other) (λ r. not (same_page r.page page)) true (λ r same. grind (arith, same_page_eq r.page)) rows

own_without : (page : GuestPage) (rows : List Row) → row_at page (without_page page rows) ≡ None
own_without page rows =
    find_kept (λ r. same_page r.page page) (λ r. not (same_page r.page page)) false (λ r same. grind arith) rows

-- the stale dups go, the others stay
stale_gone : (b c : BookState) → c.dups ≡ filter (has_items b.rows) b.dups → StaleGone b c
stale_gone b c dups =
    let live = has_items b.rows in
    let itself = All-contains_itself b.dups in
    record {
      stay = λ k d lt has. rw dups (contains_filter live b.dups (get_or b.dups k d) (itself k d lt) ((Decides-item b (get_or b.dups k d)).1 has));
      no_more = rw dups (λ k d lt. (
        All-filter live (Contains b.dups) b.dups itself k d lt,
        (Decides-item b (get_or (filter live b.dups) k d)).0 (filter_passes live b.dups k d lt),
      ));
    }

module _ (start : BookState) where
  -- shape and knobs are those with which the visits began
  abbrev Same : BookState → Type 0
  Same b = (b.shape ≡ start.shape) × (b.knobs ≡ start.knobs)

  same_begun : (b : BookState) → Same b → Same (visit_begun b)
  same_begun b h = grind arith

  same_row_visited : (b : BookState) (row : Row) → Same b → Same (row_visited b row)
  same_row_visited b row h = grind arith

  same_visit_of : (b : BookState) (row : Option Row) → Same b → Same (visit_of b row)
  same_visit_of b None h = h
  same_visit_of b (Some row) h = grind (arith, same_row_visited b row h)

  same_visit : (b : BookState) → Same b → Same (visit b)
  same_visit b h =
      let begun = visit_begun b in same_visit_of begun (next_row begun.cursor begun.rows) (same_begun b h)

  same_visits : (n : ℕ) (b : BookState) → Same b → Same (visits n b)
  same_visits zero b h = h
  same_visits (suc n) b h = same_visit (visits n b) (same_visits n b h)

  same_but : (c : BookState) → Same c → c ≡ record start { rows = c.rows; dups = c.dups; cursor = c.cursor; passes = c.passes; next = c.next }
  same_but c h = grind arith

zip_rowwise : (old new : List Row) → IsRowwise old new → AllZip IsVisited old new
zip_rowwise old new h = rw h.rows (zip_map IsVisited h.change (λ r. grind (arith, h.keeps r)) old)

module _ (b : BookState) where
  scan_changes : (n v : ℕ) (stop : Option Fault)
      → Changes (commands.Scan n) (told.Scanned v stop) b (scan_stopped stop (visits v b))
  scan_changes n v None =
      (same_but b (visits v b) (same_visits b v b (refl, refl)), zip_rowwise b.rows (visits v b).rows (rowwise_visits v b))
  scan_changes n v (Some fault) =
      let done = visits v b in (
        same_but b (visit_begun done) (same_begun b done (same_visits b v b (refl, refl))),
        zip_rowwise b.rows (visit_begun done).rows (and_then b.rows done.rows (visit_begun done).rows (rowwise_visits v b) (rowwise_begun done)),
      )

  done_changes : (c : Command) → IsDoneAlone c → Changes c told.Done b (after b c (Ok told.Done))
  done_changes (commands.Register page node bytes) is =
      (refl, other_with (fresh_row page node bytes) b.rows, own_with (fresh_row page node bytes) b.rows)
  done_changes (commands.Drop page) is = (refl, other_without page b.rows, own_without page b.rows)
  done_changes (commands.Store page bytes) is =
      (refl, zip_where (Where (λ r. r.page ≡ page) (IsStored bytes)) (λ r. same_page r.page page) (stored bytes) (λ r. grind (arith, Decides-page page r, bytes_eq-Decides r.bytes bytes)) b.rows)
  done_changes (commands.Mergeable guest) is =
      (refl, zip_where (Where (λ r. r.page.guest ≡ guest) (λ r s. s ≡ record r { mergeable = true })) (is_of guest) (λ r. record r { mergeable = true }) (λ r. grind (arith, nat_tests)) b.rows)
  done_changes (commands.MovePage page node) is =
      (refl, zip_where (Where (λ r. r.page ≡ page) (IsMoved node)) (λ r. same_page r.page page) (moved node) (λ r. grind (arith, nat_tests, Decides-page page r)) b.rows)
  done_changes (commands.SetAcross v) is =
      let dropped = with_none_waiting (without_stale b) in
      let set : BookState = record dropped { knobs = record b.knobs { merge_across_nodes = v } } in
      grind (arith, nat_tests, zip_map IsCalmed settled (λ r. grind arith) b.rows, stale_gone b set refl)
  done_changes (commands.SetLimit v) is =
      let set : BookState = record (without_stale b) { knobs = record b.knobs { max_page_sharing = v } } in
      grind (arith, nat_tests, stale_gone b set refl)
  done_changes c is = grind arith

  -- a command that is answered so changes this alone
  pub changes : {c : Command} {reply : Reply} → Replies b c reply → Changes c reply b (after b c (Ok reply))
  changes (done {c = c} is) = done_changes c is
  changes (scanned {n = n} some) = scan_changes n n None
  changes (nothing_to_scan {n = n} none) = scan_changes n 0 None
  changes (scan_stopped_at {n = n} {v = v} some below) = scan_changes n v (Some faults.Memory)
  changes (pruned count) = (refl, stale_gone b (without_stale b) refl)
  changes (unmerged {guest = guest} {k = k} count) =
      let test : Row → Bool = λ r. is_of guest r && shared_state r.state in
      let past : slice_get (shared_rows (is_of guest) b) k ≡ None = grind (arith, length-filter test b.rows, slice_get_past) in (
        refl,
        rw past (zip_where (Where (λ r. r.page.guest ≡ guest) (IsAlone false false)) (λ r. is_of guest r && true) let_go (λ r. grind (arith, nat_tests)) b.rows),
      )
  changes (unmerging_stopped {guest = guest} {k = k} s) =
      (refl, zip_where (Where (λ r. r.page.guest ≡ guest) (λ r s. IsAlone false false r s ⊎ (s ≡ r))) (λ r. is_of guest r && is_before (slice_get (shared_rows (is_of guest) b) k) r) let_go (λ r. grind (arith, nat_tests)) b.rows)
  changes (all_unshared two count) =
      (refl, zip_map (λ r s. IsAlone r.mergeable false r s) unshared (λ r. grind arith) b.rows)
  changes (unsharing_stopped {k = k} two s) =
      (refl, zip_where (Where (λ r. shared_state r.state ≡ true) (λ r s. IsAlone r.mergeable false r s ⊎ (s ≡ r))) (λ r. shared_state r.state && is_before (slice_get (shared_rows every_row b) k) r) unshared (λ r. grind arith) b.rows)

  changes_of : {c : Command} {reply : Reply} → HasReason b c (Ok reply) → Changes c reply b (after b c (Ok reply))
  changes_of (replies taken r) = changes r

  -- a command that may be answered so changes this alone
  pub changes_alone : (c : Command) (reply : Reply) → IsAnswer b c (Ok reply) → Changes c reply b (after b c (Ok reply))
  changes_alone c reply h = changes_of (has_reason b c (Ok reply) h)
