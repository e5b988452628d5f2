-- Each answer has its reason, and each reason its answer.
use Rattle.std.proofs.Common.{◌≡◌, ◌≢◌, ℕ, zero, suc, ◌+◌, Bool, true, List, [], ◌∷◌, ◌++◌, length, Option, Some, None, Ok, Err, inl, inr, refl, arith}
use Rattle.std.specs.Prelude.{◌==◌, ◌&&◌, not, nat_lt, filter, find, count_by, slice_get, MatchOption, Any, is_some}
use Rattle.std.specs.List.{list_any}
use Rattle.std.specs.Bool.{Decides}
use Rattle.std.proofs.lemmas.Bool.{cases_Bool}
use Rattle.std.proofs.lemmas.Bool.Decides.{Decides-eqb, Decides-and, nat_tests}
use Rattle.std.proofs.lemmas.List.Sums.{length-filter}
use Rattle.std.proofs.lemmas.List.Folds.{Any-from_list_any, list_any-from_Any}
use Rattle.ksm_base.specs.declared.page.GuestPage.{GuestPage}
use Rattle.ksm_base.specs.declared.row.PageState.{PageState}
use Rattle.ksm_base.specs.declared.row.PageState.TheVariants.{Merged}
use Rattle.ksm_base.specs.declared.row.Row.{Row}
use Rattle.ksm_base.specs.declared.row.DupRow.{DupRow}
use Rattle.ksm_base.specs.declared.command.Command.{Command}
use Rattle.ksm_base.specs.declared.command.Command.TheVariants.{Register, Store, Scan, Prune, Unmerge, MovePage, MoveDup, SetRun}
use Rattle.ksm_base.specs.declared.knobs.Knob.{Knob}
use Rattle.ksm_base.specs.declared.reply.Reply.{Reply}
use Rattle.ksm_base.specs.declared.reply.Reply.TheVariants.{Done}
use Rattle.ksm_base.specs.declared.fault.Fault.{Fault}
use Rattle.ksm_base.specs.declared.fault.Fault.TheVariants.{UnknownPage, NoFrame, InUse, SharedPages, BadValue}
use Rattle.ksm_base.specs.Knobs.{traits, set_by, is_in_range, value_in}
use Rattle.ksm_base.specs.Rows.{same_page, merged_into, shared_state, is_stale, has_items}
use Rattle.ksm_base.specs.State.{BookState}
use Rattle.ksm_base.specs.Counting.{shared_count}
use Rattle.ksm_base.specs.Refusals.{is_known, is_of, has_guest, live_dup_at, setting_refusal, refusal}
use Rattle.ksm_base.specs.Answers.{Answer, frame_needed, any_mergeable, IsAccepted, IsAnswerUnless, IsAnswer}
use Rattle.ksm_base.specs.Reasons.{HasRow, GuestHasRow, HasItem, LivesAt, SharesPages, HasMergeable, IsOutside, Refuses, register_on_no_node, register_again, HasNoRow, without_row, scan_stands}
use Rattle.ksm_base.specs.Reasons.{move_to_no_node, move_dup_to_no_node, move_no_dup, move_dup_across, value_outside}
use Rattle.ksm_base.specs.Reasons.{shared_pages_stay, Wants, for_a_new_page, for_a_shared_page, elsewhere, for_a_dup, StopsAt, Replies}
use Rattle.ksm_base.specs.Reasons.{IsDoneAlone, done, scanned, nothing_to_scan, scan_stopped, pruned, unmerged, unmerging_stopped, all_unshared}
use Rattle.ksm_base.specs.Reasons.{unsharing_stopped, IsTaken, HasReason, refuses, replies, finds_no_frame, finds_in_use}
use Rattle.ksm_base.proofs.Pages.{same_page_refl, same_page_eq}
use Rattle.ksm_base.proofs.Edits.{count_more}

found_is_any : {X : Type 0} (t : X → Bool) (xs : List X) → is_some (find t xs) ≡ list_any t xs
found_is_any t [] = refl
found_is_any t (x ∷ xs) = grind (arith, found_is_any t xs)

counted_is_any : {X : Type 0} (t : X → Bool) (xs : List X) → nat_lt 0 (count_by t xs) ≡ list_any t xs
counted_is_any t [] = refl
counted_is_any t (x ∷ xs) = grind (arith, nat_tests, count_more t x xs, counted_is_any t xs)

module _ {X : Type 0} (t : X → Bool) (P : X → Type 0) (each : (x : X) → Decides (t x) (P x)) (xs : List X) where
  -- a list has an element that passes exactly where there is such an element
  pub Decides-any : Decides (list_any t xs) (Any P xs)
  Decides-any = (
    λ h. let a = Any-from_list_any t xs h in (a.0, a.1, a.2, a.3, (each a.1).0 a.4),
    λ a. list_any-from_Any t xs (a.0, a.1, a.2, a.3, (each a.1).1 a.4),
  )

  -- a search finds something exactly where there is such an element
  pub Decides-find : Decides (is_some (find t xs)) (Any P xs)
  Decides-find = rw found_is_any Decides-any

  -- what is counted is above 0 exactly where there is such an element
  pub Decides-counted : Decides (nat_lt 0 (count_by t xs)) (Any P xs)
  Decides-counted = rw counted_is_any Decides-any

-- a row tests as of a page exactly where it is
pub Decides-page : (page : GuestPage) (r : Row) → Decides (same_page r.page page) (r.page ≡ page)
Decides-page page r = (same_page_eq r.page page, λ same. rw same (same_page_refl page))

Decides-merged : (number : ℕ) (state : PageState) → Decides (merged_into number state) (state ≡ Merged number)
Decides-merged number state = (λ h. grind (arith, nat_tests), λ h. grind (arith, nat_tests))

Decides-outside : (knob : Knob) (v : ℕ) → Decides (not (is_in_range knob v)) (IsOutside knob v)
Decides-outside knob v = (λ h. grind (arith, nat_tests), λ h. grind (arith, nat_tests))

module _ (b : BookState) where
  Decides-row : (page : GuestPage) → Decides (is_known b page) (HasRow b page)
  Decides-row page = Decides-find (λ r. same_page r.page page) (λ r. r.page ≡ page) (Decides-page page) b.rows

  Decides-guest : (guest : ℕ) → Decides (has_guest b guest) (GuestHasRow b guest)
  Decides-guest guest =
      Decides-any (is_of guest) (λ r. r.page.guest ≡ guest) (λ r. Decides-eqb r.page.guest guest) b.rows

  -- a dup tests as living exactly where it has an item
  pub Decides-item : (d : DupRow) → Decides (has_items b.rows d) (HasItem b d)
  Decides-item d =
      Decides-counted (λ r. merged_into d.number r.state) (λ r. r.state ≡ Merged d.number) (λ r. Decides-merged d.number r.state) b.rows

  Decides-lives : (place : ℕ) → Decides (is_some (live_dup_at b place)) (LivesAt b place)
  Decides-lives place =
      Decides-find (λ d. d.place == place && has_items b.rows d) (λ d. (d.place ≡ place) × HasItem b d)
      (λ d. Decides-and (d.place == place) (has_items b.rows d) (Decides-eqb d.place place) (Decides-item d)) b.dups

  Decides-shared : Decides (nat_lt 0 (shared_count b.rows b.dups)) (SharesPages b)
  Decides-shared = Decides-counted (has_items b.rows) (HasItem b) Decides-item b.dups

  Decides-mergeable : Decides (any_mergeable b) (HasMergeable b)
  Decides-mergeable = Decides-any (λ r. r.mergeable) (λ r. r.mergeable ≡ true) (λ r. (λ h. h, λ h. h)) b.rows

  -- so has one of a knob
  setting_reason : (c : Command) (set : Option (Knob × ℕ)) → set_by c ≡ set → (f : Fault) → setting_refusal b set ≡ Some f → Refuses b c f
  setting_reason c None by f h = absurd cc
  setting_reason c (Some (knob, v)) by f h =
      let outside : IsOutside knob v → Refuses b c BadValue = value_outside by in
      let shared : ¬ (IsOutside knob v) → (traits knob).fixed_while_shared ≡ true → v ≢ value_in knob b.knobs → SharesPages b → Refuses b c SharedPages = shared_pages_stay by in
      grind (arith, nat_tests, outside, shared, Decides-shared, Decides-outside knob v)

  -- a refusal has its reason
  pub reason : (c : Command) (f : Fault) → refusal b c ≡ Some f → Refuses b c f
  reason (Register page node bytes) f h =
      grind (arith, nat_tests, register_on_no_node, register_again, Decides-row page)
  reason (MovePage page node) f h =
      let gone : HasNoRow b (MovePage page node) → Refuses b (MovePage page node) UnknownPage = without_row in
      grind (arith, nat_tests, move_to_no_node, gone, Decides-row page)
  reason (MoveDup place node) f h =
      grind (arith, nat_tests, move_dup_to_no_node, move_no_dup, move_dup_across, Decides-lives place)
  reason (Scan n) f h = grind (arith, nat_tests, scan_stands)
  reason c f h =
      let gone : HasNoRow b c → Refuses b c UnknownPage = without_row in
      grind (arith, gone, setting_reason c (set_by c) refl f, Decides-row, Decides-guest)

  -- a command that sets a knob is refused as its setting
  set_refused : (c : Command) (knob : Knob) (v : ℕ) → {f : Option Fault} → set_by c ≡ Some (knob, v) → setting_refusal b (Some (knob, v)) ≡ f → refusal b c ≡ f
  set_refused c knob v by is = grind (arith, by, is)

  no_row_refused : (c : Command) → HasNoRow b c → refusal b c ≡ Some UnknownPage
  no_row_refused c h = grind (arith, nat_tests, Decides-row, Decides-guest)

  -- what has a reason is refused
  pub refused : {c : Command} {f : Fault} → Refuses b c f → refusal b c ≡ Some f
  refused (register_on_no_node n) = grind (arith, nat_tests)
  refused (register_again n h) = grind (arith, nat_tests, Decides-row)
  refused (without_row {c = c} h) = no_row_refused c h
  refused (scan_stands h) = grind (arith, nat_tests)
  refused (move_to_no_node n) = grind (arith, nat_tests)
  refused (move_dup_to_no_node n) = grind (arith, nat_tests)
  refused (move_no_dup n h) = grind (arith, nat_tests, Decides-lives)
  refused (move_dup_across n found by_node other) = grind (arith, nat_tests)
  refused (value_outside {c = c} by h) = set_refused c _ _ by (grind (arith, nat_tests))
  refused (shared_pages_stay {c = c} by inside fixed other shares) = set_refused c _ _ by (grind (arith, nat_tests, Decides-shared))

abbrev StopHome : (Row → Bool) → List Row → ℕ → ℕ → Type 0
StopHome test rows k n = MatchOption (slice_get (filter test rows) k) ⊥ (λ r. n ≡ r.home)

behind_one : {test : Row → Bool} {rs : List Row} {k n : ℕ} (r : Row) (m : ℕ) → count_by test (r ∷ []) + k ≡ m
    → StopsAt test rs k n → StopsAt test (r ∷ rs) m n
behind_one {test = test} r m one s =
    record {
      before = r ∷ s.before;
      row = s.row;
      behind = s.behind;
      splits = grind arith;
      passes = s.passes;
      count = grind (arith, count_more test r s.before);
      home = s.home;
    }

at_or_behind : (test : Row → Bool) (r : Row) (rs : List Row) (k n : ℕ) → test r ≡ true
    → ((j : ℕ) → StopHome test rs j n → StopsAt test rs j n)
    → MatchOption (slice_get (r ∷ filter test rs) k) ⊥ (λ x. n ≡ x.home) → StopsAt test (r ∷ rs) k n
at_or_behind test r rs zero n passes rest at =
    record { before = []; row = r; behind = rs; splits = refl; passes = passes; count = refl; home = at }
at_or_behind test r rs (suc k) n passes rest at = behind_one r (suc k) (grind (arith, count_more)) (rest k at)

-- where an unmerging of the rows that pass stops, one of them stands, with so many before it
stops : (test : Row → Bool) (rows : List Row) (k n : ℕ) → StopHome test rows k n → StopsAt test rows k n
stops test [] k n at = absurd at
stops test (r ∷ rs) k n at =
    elim (cases_Bool (test r)) [
      | inl passes ↦ at_or_behind test r rs k n passes (λ j. stops test rs j n) (rw passes at at)
      | inr fails ↦ behind_one r k (grind (arith, count_more)) (stops test rs k n (rw fails at at))
    ]

stands : (test : Row → Bool) (before behind : List Row) (row : Row) (n : ℕ) → test row ≡ true → n ≡ row.home
    → StopHome test (before ++ row ∷ behind) (count_by test before) n
stands test [] behind row n passes home = rw passes home
stands test (r ∷ before) behind row n passes home =
    grind (arith, count_more test r before, stands test before behind row n passes home)

stopped_at : (test : Row → Bool) (rows : List Row) (k n : ℕ) → StopsAt test rows k n → StopHome test rows k n
stopped_at test rows k n s = grind (arith, stands test s.before s.behind s.row n s.passes s.home)

-- the stale dups are all but those that have an item
stale_beside : (rows : List Row) (dups : List DupRow)
    → count_by (is_stale rows) dups + count_by (has_items rows) dups ≡ length dups
stale_beside rows [] = refl
stale_beside rows (d ∷ ds) =
    grind (arith, nat_tests, count_more (is_stale rows) d ds, count_more (has_items rows) d ds, stale_beside rows ds)

module _ (b : BookState) where
  copied : (page : GuestPage) (bytes : List ℕ) (n : ℕ) → frame_needed b (Store page bytes) ≡ Some n
      → Wants b (Store page bytes) n
  copied page bytes n h = grind (arith, for_a_shared_page)

  -- what is answered to a command that is not refused has its reason
  accepted : (c : Command) (a : Answer) → IsTaken b c → IsAccepted b c a → HasReason b c a
  accepted (Register page node bytes) a taken h = grind (arith, replies, done, finds_no_frame, for_a_new_page)
  accepted (Store page bytes) a taken h = grind (arith, replies, done, finds_no_frame, copied)
  accepted (Scan n) a taken h = grind (arith, replies, scanned, nothing_to_scan, scan_stopped, Decides-mergeable)
  accepted Prune a taken h = grind (arith, replies, pruned, stale_beside b.rows b.dups)
  accepted (Unmerge guest) a taken h =
      let test : Row → Bool = λ r. is_of guest r && shared_state r.state in
      grind (arith, replies, unmerged, unmerging_stopped, stops test b.rows, length-filter test b.rows)
  accepted (MovePage page node) a taken h = grind (arith, nat_tests, replies, done, finds_no_frame, elsewhere)
  accepted (MoveDup place node) a taken h = grind (arith, replies, done, finds_no_frame, for_a_dup, finds_in_use)
  accepted (SetRun v) a taken h =
      let test : Row → Bool = λ r. shared_state r.state in
      let set : v ≢ 2 → Replies b (SetRun v) Done = done in
      grind (arith, nat_tests, replies, set, all_unshared, unsharing_stopped, stops test b.rows, length-filter test b.rows)
  accepted c a taken h = let is : Replies b c Done = done tt in grind (arith, replies, is)

  -- each answer has its reason
  pub has_reason : (c : Command) (a : Answer) → IsAnswer b c a → HasReason b c a
  has_reason c a h = grind (arith, reason b c, refuses, accepted c a, refused)

  wanted : {c : Command} {n : ℕ} → Wants b c n → frame_needed b c ≡ Some n
  wanted w = grind (arith, nat_tests)

  answers : {c : Command} (a : Answer) → IsTaken b c → IsAccepted b c a → (r : Option Fault) → refusal b c ≡ r
      → IsAnswerUnless r b c a
  answers a taken h None is = h
  answers a taken h (Some fault) is = absurd (taken fault (reason b _ fault is))

  may_be_done : (c : Command) → IsDoneAlone c → IsAccepted b c (Ok Done)
  may_be_done c is = grind (arith, nat_tests)

  replied : {c : Command} {r : Reply} → Replies b c r → IsAccepted b c (Ok r)
  replied (scanned some) = grind (arith, Decides-mergeable b)
  replied (nothing_to_scan none) = grind (arith, Decides-mergeable b)
  replied (scan_stopped some below) = grind (arith, Decides-mergeable b)
  replied (pruned count) = grind (arith, stale_beside b.rows b.dups)
  replied (unmerged {guest = guest} count) = grind (arith, length-filter (λ r. is_of guest r && shared_state r.state) b.rows)
  replied (unmerging_stopped s) = grind (arith, stopped_at _ _ _ _ s)
  replied (done {c = c} is) = may_be_done c is
  replied (all_unshared two count) = grind (arith, length-filter (λ (r : Row). shared_state r.state) b.rows)
  replied (unsharing_stopped two s) = grind (arith, stopped_at _ _ _ _ s)

  without_frame : (c : Command) (n : ℕ) → Wants b c n → IsAccepted b c (Err (NoFrame n))
  without_frame c n w = grind (arith, wanted w)

  -- what has a reason may be answered
  pub may_answer : {c : Command} {a : Answer} → HasReason b c a → IsAnswer b c a
  may_answer (refuses r) = grind (arith, refused b r)
  may_answer (replies taken r) = answers (Ok _) taken (replied r) _ refl
  may_answer (finds_no_frame {c = c} taken w) = answers (Err (NoFrame _)) taken (without_frame c _ w) _ refl
  may_answer (finds_in_use taken) = answers (Err InUse) taken tt _ refl
