-- A new dup of two pages keeps a book sound.
use Rattle.std.proofs.Common.{◌≡◌, ℕ, suc, ◌+◌, ◌<◌, ◌≤◌, Bool, true, false, List, [], ◌∷◌, get_or, Some, refl, sym, inl, inr, arith}
use Rattle.std.specs.Prelude.{◌==◌, ◌||◌, nat_lt, All, filter, find, if◌then◌else◌}
use Rattle.std.proofs.lemmas.Bool.{cases_Bool, or_cases}
use Rattle.std.proofs.lemmas.Bool.Decides.{nat_tests}
use Rattle.std.proofs.lemmas.List.Elements.{All-cons, All-filter}
use Rattle.std.proofs.lemmas.List.Folds.{find-append}
use Rattle.std.proofs.lemmas.Slice.Eq.{bytes_eq-Decides}
use Rattle.ksm_base.specs.declared.row.PageState.{PageState}
use Rattle.ksm_base.specs.declared.row.PageState.TheVariants.{Merged}
use Rattle.ksm_base.specs.declared.row.Row.{Row}
use Rattle.ksm_base.specs.declared.row.DupRow.{DupRow}
use Rattle.ksm_base.specs.declared.knobs.Knobs.{Knobs}
use Rattle.ksm_base.specs.Rows.{same_page, waiting_state, merged_into, item_count, is_stale, has_items, with_dup, change_rows, dup_numbered, InPlaceOrder}
use Rattle.ksm_base.specs.State.{BookState, tree_of, place_count}
use Rattle.ksm_base.specs.Visit.{waits_for, partner, empty_from, new_place, made_dup}
use Rattle.ksm_base.specs.Sound.{IsSound}
use Rattle.ksm_base.proofs.Edits.{find_nothing, find_passes, find_filter, find_over, find_all, count_map_le, count_change_le, count_either_le, count_none}
use Rattle.ksm_base.proofs.Orders.{Lower, pairs_tail, ordered_change, one_of_each_page, one_of_each_place, one_of_page, dups_parted, elsewhere, dups_with, all_with_dup}
use Rattle.ksm_base.proofs.SoundEdits.{HasDup, IsMergeableSo, IsZeroSo, waiting_not_private, item_of_dup, dup_has_items}
use Rattle.ksm_base.proofs.SoundVisit.{IsVisited, all_changed, waiting_changed, merged_waits}

-- where a new dup stands: a place at which no dup has items
pub record IsFree (b : BookState) (place : ℕ) : Type 0 where
  -- no dup with items stands at the place
  pub apart : All (λ d. has_items b.rows d ≡ true → (d.place == place) ≡ false) b.dups

-- the least empty place from a place on is not below that place
pub empty_from_le : (p : ℕ) (dups : List DupRow) → p ≤ empty_from p dups
empty_from_le p [] = omega arith
empty_from_le p (d ∷ ds) = grind (arith, empty_from_le (p + 1) ds)

no_dup_has : (p : ℕ) (dups : List DupRow) → InPlaceOrder dups → All (λ d. p ≤ d.place) dups
    → All (λ d. (d.place == empty_from p dups) ≡ false) dups
no_dup_has p [] rise from = λ k d lt. absurd (omega arith)
no_dup_has p (d ∷ ds) rise from =
    elim (cases_Bool (d.place == p)) [
      | inl here ↦
          let rest = no_dup_has (p + 1) ds (pairs_tail Lower d ds rise) (λ k e lt. grind (arith, nat_tests, rise 0 (suc k) e)) in
          rw here (All-cons (λ e. (e.place == empty_from (p + 1) ds) ≡ false) d ds (grind (arith, nat_tests, empty_from_le (p + 1) ds)) rest)
      | inr there ↦
          rw there (All-cons (λ e. (e.place == p) ≡ false) d ds there (λ k e lt. grind (arith, nat_tests, from 0 d, rise 0 (suc k) e)))
    ]

free_empty : (b : BookState) → IsSound b → IsFree b (empty_from 0 b.dups)
free_empty b s = record { apart = λ k d lt _. no_dup_has 0 b.dups s.dups_rise (λ j e lt'. omega arith) k d lt }

free_stale : (b : BookState) (stale : DupRow) → IsSound b → find (is_stale b.rows) b.dups ≡ Some stale
    → IsFree b stale.place
free_stale b stale s found =
    let once = find_all (is_stale b.rows) (λ d. All (λ e. (e.place == d.place) ≡ true → e ≡ d) b.dups) b.dups stale found (one_of_each_place b.dups s.dups_rise) in
    record { apart = λ k d lt lives. grind (arith, nat_tests, find_passes (is_stale b.rows) b.dups stale found, once k d lt) }

-- the place that a new dup gets has no dup with items
pub new_place_free : (b : BookState) → IsSound b → IsFree b (new_place (place_count b.shape) b.rows b.dups)
new_place_free b s = grind (arith, free_empty b s, free_stale b)

-- the dup of an item stays among the dups when a new one comes
pub still_stands : (b : BookState) (new dup : DupRow) (number : ℕ) → IsSound b → IsFree b new.place
    → (new.number == number) ≡ false
    → dup_numbered number b.dups ≡ Some dup → has_items b.rows dup ≡ true → dup_numbered number (with_dup new b.dups) ≡ Some dup
still_stands b new dup number s free other found lives =
    let p : DupRow → Bool = λ d. d.number == number in
    let lower = filter (λ d. nat_lt d.place new.place) b.dups in
    let higher = filter (λ d. nat_lt new.place d.place) b.dups in
    let away = find_all p (λ d. has_items b.rows d ≡ true → (d.place == new.place) ≡ false) b.dups dup found free.apart lives in
    grind (arith, find_over p lower higher new other, dups_parted new.place b.dups s.dups_rise, find_filter p (elsewhere new.place) b.dups dup found)

-- a new dup is the one with its number
pub new_stands : (new : DupRow) (dups : List DupRow) → All (λ d. d.number < new.number) dups
    → dup_numbered new.number (with_dup new dups) ≡ Some new
new_stands new dups fresh =
    let p : DupRow → Bool = λ d. d.number == new.number in
    let lower = filter (λ d. nat_lt d.place new.place) dups in
    let higher = filter (λ d. nat_lt new.place d.place) dups in
    let none = find_nothing p lower (All-filter (λ d. nat_lt d.place new.place) (λ d. p d ≡ false) dups (λ k d lt. grind (arith, nat_tests, fresh k d lt))) in
    grind (arith, nat_tests, find-append p lower (new ∷ higher))

-- a dup's number has been given
item_older : (b : BookState) → IsSound b → (number : ℕ) (dup : DupRow) → dup_numbered number b.dups ≡ Some dup
    → number < b.next
item_older b s number dup stands =
    let p : DupRow → Bool = λ e. e.number == number in
    grind (arith, nat_tests, find_passes p b.dups dup stands, find_all p (λ e. e.number < b.next) b.dups dup stands s.numbers)

-- no row is merged into the number that comes next
pub next_is_new : (b : BookState) → IsSound b → All (λ r. merged_into b.next r.state ≡ false) b.rows
next_is_new b s k d lt = go (get_or b.rows k d).state refl
  where
    go : (state : PageState) → (get_or b.rows k d).state ≡ state → merged_into b.next state ≡ false
    go (Merged number) is =
        let item = s.items k d lt number is in grind (arith, nat_tests, item_older b s number item.0 item.1.stands)
    go _ is = refl

-- two pages of one tree and content, of which a new dup is made: the one that waited, and the one visited
pub record IsPair (b : BookState) (w row : Row) : Type 0 where
  pub visited : IsVisited b row
  pub waited : IsVisited b w
  pub tree : tree_of b.knobs w ≡ tree_of b.knobs row
  pub bytes : w.bytes ≡ row.bytes

-- one row waits for another: it is of another page, and has the tree and bytes of the other
pub record WaitsFor (knobs : Knobs) (row w : Row) : Type 0 where
  pub state : waiting_state w.state ≡ true
  pub other : same_page w.page row.page ≡ false
  pub tree : tree_of knobs w ≡ tree_of knobs row
  pub bytes : w.bytes ≡ row.bytes

-- a row that passes the test for a waiting partner is one
pub waits_tells : (knobs : Knobs) (row w : Row) → waits_for knobs row w ≡ true → WaitsFor knobs row w
waits_tells knobs row w passes = grind (arith, nat_tests, bytes_eq-Decides w.bytes row.bytes)

-- a waiting partner passes the test for one
pub tells_waits : (knobs : Knobs) (row w : Row) → WaitsFor knobs row w → waits_for knobs row w ≡ true
tells_waits knobs row w h = grind (arith, nat_tests, bytes_eq-Decides w.bytes row.bytes)

-- the partner of a visited row is a pair with that row
pub partner_pairs : (b : BookState) (w row : Row) → IsSound b → IsVisited b row → partner b.knobs b.rows row ≡ Some w
    → IsPair b w row
partner_pairs b w row s visited found =
    let p = waits_for b.knobs row in
    let waits = waits_tells b.knobs row w (find_passes p b.rows w found) in
    let mergeable = find_all p IsMergeableSo b.rows w found s.mergeable (waiting_not_private w.state waits.state) in
    let once = find_all p (λ r. All (λ t. same_page t.page r.page ≡ true → t ≡ r) b.rows) b.rows w found (one_of_each_page b.rows s.rows_rise) in
    assumption

-- what holds of both pages holds of each row that is one of them
each_of_pair : (P : Row → Type 0) (b : BookState) (w row : Row) → IsPair b w row → P w → P row
    → All (λ r. (same_page r.page w.page || same_page r.page row.page) ≡ true → P r) b.rows
each_of_pair P b w row pair of_w of_row k d lt either =
    elim (or_cases (same_page (get_or b.rows k d).page w.page) _ either) [
      | inl same ↦ rw (pair.waited.once k d lt same) of_w
      | inr same ↦ rw (pair.visited.once k d lt same) of_row
    ]

-- a sound book stays sound where a new dup is made of a pair at a free place
pub sound_made : (b : BookState) (w row : Row) (place : ℕ) → IsPair b w row → IsFree b place → IsSound b
    → IsSound (made_dup place b w row)
sound_made b w row place pair free s =
    let test : Row → Bool = λ r. same_page r.page w.page || same_page r.page row.page in
    let f : Row → Row = λ r. record r { state = Merged b.next } in
    let new : DupRow = record { number = b.next; place = place; tree = tree_of b.knobs row; bytes = row.bytes } in
    let dups = with_dup new b.dups in
    let changed = λ (P : Row → Type 0). all_changed P test f b.rows in
    let among = λ (P : DupRow → Type 0). all_with_dup P new b.dups in
    record {
      shape = s.shape;
      knobs = s.knobs;
      passes = s.passes;
      rows_rise = ordered_change test f b.rows (λ _. refl) s.rows_rise;
      homes = changed (λ r. r.home < b.shape.nodes) (λ k d lt _. s.homes k d lt) (λ k d lt _. s.homes k d lt);
      mergeable = changed IsMergeableSo
          (λ k d lt either _. each_of_pair (λ r. r.mergeable ≡ true) b w row pair pair.waited.mergeable pair.visited.mergeable k d lt either) (λ k d lt _. s.mergeable k d lt);
      zero = changed IsZeroSo (λ k d lt either is. cc) (λ k d lt _. s.zero k d lt);
      waiting = waiting_changed b.knobs test f b.rows (merged_waits b.next) s.waiting;
      items = changed (HasDup b.knobs dups)
          (λ k d lt either number merged.
          let same = each_of_pair (λ r. (tree_of b.knobs row ≡ tree_of b.knobs r) × (row.bytes ≡ r.bytes)) b w row pair (sym pair.tree, sym pair.bytes) (refl, refl) k d lt either in
          (new, grind (arith, new_stands new b.dups s.numbers)))
          (λ k d lt _ number merged.
          let r = get_or b.rows k d in
          let item = s.items k d lt number merged in
          let other : (b.next == number) ≡ false = grind (arith, nat_tests, item_older b s number item.0 item.1.stands) in
          let lives = dup_has_items b.rows item.0 k d lt (item_of_dup b.knobs b.dups r number item.0 merged item.1) in
          (item.0, grind (arith, still_stands b new item.0 number s free other item.1.stands lives)));
      dups_rise = dups_with new b.dups s.dups_rise s.numbers;
      numbers = among (λ d. d.number < b.next + 1) (omega arith) (λ k d lt. omega (arith, s.numbers k d lt));
      trees = among (λ d. b.knobs.merge_across_nodes ≡ 1 → d.tree ≡ 0) (λ across. rw across refl) s.trees;
      limit = among (λ d. item_count (change_rows test f b.rows) d ≤ b.knobs.max_page_sharing)
          (omega (
            arith,
            count_change_le (λ r. merged_into b.next r.state) test f b.rows,
            count_none (λ r. merged_into b.next r.state) b.rows (next_is_new b s),
            count_either_le (λ r. same_page r.page w.page) (λ r. same_page r.page row.page) b.rows,
            one_of_page w.page b.rows s.rows_rise,
            one_of_page row.page b.rows s.rows_rise,
            s.knobs,
          ))
          (λ k d lt.
          let p : Row → Bool = λ r. merged_into (get_or b.dups k d).number r.state in
          let fewer = count_map_le p (λ r. if test r then f r else r) b.rows (λ j x lt_x into. grind (arith, nat_tests, s.numbers k d lt)) in
          omega (arith, s.limit k d lt));
    }
