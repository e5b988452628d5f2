-- A visit keeps a book sound: a page joins a dup, waits, or is paired with the one that waits.
use Rattle.std.proofs.Common.{◌≡◌, ℕ, ◌<◌, ◌≤◌, Bool, true, false, List, get_or, Some, None, refl, ap, inl, inr, arith}
use Rattle.std.specs.Prelude.{◌==◌, All, count_by, bytes_eq, if◌then◌else◌}
use Rattle.std.proofs.lemmas.Bool.{cases_Bool, cond_both, eqb-true}
use Rattle.std.proofs.lemmas.Bool.Decides.{nat_tests}
use Rattle.std.proofs.lemmas.List.Elements.{All-map}
use Rattle.std.proofs.lemmas.Slice.Eq.{bytes_eq-Decides}
use Rattle.ksm_base.specs.declared.row.PageState.{PageState}
use Rattle.ksm_base.specs.declared.row.PageState.TheVariants.{Waiting, Merged, Zero}
use Rattle.ksm_base.specs.declared.row.Row.{Row}
use Rattle.ksm_base.specs.declared.row.DupRow.{DupRow}
use Rattle.ksm_base.specs.declared.knobs.Knobs.{Knobs}
use Rattle.ksm_base.specs.Rows.{same_page, waiting_state, all_zero, merged_into, item_count, change_rows, change_row, dup_numbered}
use Rattle.ksm_base.specs.State.{BookState, tree_of}
use Rattle.ksm_base.specs.Visit.{waits_for, partner, is_best, best_dup}
use Rattle.ksm_base.specs.Sound.{IsSound}
use Rattle.ksm_base.proofs.Edits.{find_none, find_nothing, find_passes, find_all, count_map_le, count_change_le}
use Rattle.ksm_base.proofs.Orders.{ordered_change, one_of_page, each_has_number}
use Rattle.ksm_base.proofs.Pages.{same_page_sym}
use Rattle.ksm_base.proofs.SoundEdits.{HasDup, IsMergeableSo, IsZeroSo, NoneWaitsTwice, sound_rows, WaitsAlone, WaitsAs, waiting_map}

-- what holds of each row that a change makes, and of each row left alone, holds of all rows after the change
pub all_changed : (P : Row → Type 0) (test : Row → Bool) (f : Row → Row) (rows : List Row)
    → All (λ r. test r ≡ true → P (f r)) rows
    → All (λ r. test r ≡ false → P r) rows → All P (change_rows test f rows)
all_changed P test f rows changed others =
    All-map P (λ r. if test r then f r else r) rows (λ k d lt. cond_both (test (get_or rows k d)) _ _ P (changed k d lt) (others k d lt))

-- after a change of states by which no row waits that did not, none waits twice
pub waiting_changed : (knobs : Knobs) (test : Row → Bool) (f : Row → Row) (rows : List Row)
    → ((r : Row) → WaitsAs r (f r))
    → NoneWaitsTwice knobs rows → NoneWaitsTwice knobs (change_rows test f rows)
waiting_changed knobs test f rows like alone =
    waiting_map knobs (λ r. if test r then f r else r) rows (λ r. grind (arith, like r)) alone

-- a row that is merged waits nowhere that it did not wait before
pub merged_waits : (number : ℕ) (r : Row) → WaitsAs r (record r { state = Merged number })
merged_waits number r = grind arith

-- a row is mergeable, and is the only row of its page in the book
pub record IsVisited (b : BookState) (row : Row) : Type 0 where
  pub mergeable : row.mergeable ≡ true
  pub once : All (λ r. same_page r.page row.page ≡ true → r ≡ row) b.rows

-- a row may join a dup: the dup stands, has the row's tree and bytes, and has room
pub record IsJoined (b : BookState) (row : Row) (dup : DupRow) : Type 0 where
  pub stands : dup_numbered dup.number b.dups ≡ Some dup
  pub tree : dup.tree ≡ tree_of b.knobs row
  pub bytes : dup.bytes ≡ row.bytes
  pub room : item_count b.rows dup < b.knobs.max_page_sharing

-- the best dup of a row in a sound book is one that the row may join
pub best_dup_has_room : (b : BookState) (row : Row) (dup : DupRow) → IsSound b
    → best_dup b.knobs b.rows b.dups row ≡ Some dup → IsJoined b row dup
best_dup_has_room b row dup s found =
    let is = is_best b.knobs b.rows b.dups row in
    let stands = find_all is (λ d. dup_numbered d.number b.dups ≡ Some d) b.dups dup found (each_has_number b.dups s.dups_rise) in
    grind (arith, nat_tests, find_passes is b.dups dup found, stands, bytes_eq-Decides dup.bytes row.bytes)

abbrev in_state : PageState → Row → Row
in_state state r = record r { state = state }

-- the rows with the row of a page in another state
abbrev turned : Row → PageState → List Row → List Row
turned row state rows = change_row row.page (in_state state) rows

-- a dup into which that state is not merged has no more items than it had
fewer_items : (row : Row) (state : PageState) (rows : List Row) (d : DupRow) → merged_into d.number state ≡ false
    → item_count (turned row state rows) d ≤ item_count rows d
fewer_items row state rows d none =
    count_map_le (λ r. merged_into d.number r.state) (λ r. if same_page r.page row.page then in_state state r else r) rows (λ j x lt into. grind arith)

-- a sound book stays sound where a visited row gets a state that is right for it
sound_turned : (b : BookState) (row : Row) (state : PageState) → IsVisited b row → IsZeroSo (in_state state row)
    → NoneWaitsTwice b.knobs (turned row state b.rows)
    → HasDup b.knobs b.dups (in_state state row) → All (λ d. item_count (turned row state b.rows) d ≤ b.knobs.max_page_sharing) b.dups → IsSound b
    → IsSound (record b { rows = turned row state b.rows })
sound_turned b row state visited zero waiting item limit s =
    let changed = λ (P : Row → Type 0). all_changed P (λ r. same_page r.page row.page) (in_state state) b.rows in
    sound_rows b (turned row state b.rows) s
    (record {
      rows_rise = ordered_change (λ r. same_page r.page row.page) (in_state state) b.rows (λ _. refl) s.rows_rise;
      homes = changed (λ r. r.home < b.shape.nodes) (λ k d lt _. s.homes k d lt) (λ k d lt _. s.homes k d lt);
      mergeable = changed IsMergeableSo (λ k d lt same _. rw (visited.once k d lt same) visited.mergeable) (λ k d lt _. s.mergeable k d lt);
      zero = changed IsZeroSo (λ k d lt same. rw (visited.once k d lt same) zero) (λ k d lt _. s.zero k d lt);
      waiting = waiting;
      items = changed (HasDup b.knobs b.dups) (λ k d lt same. rw (visited.once k d lt same) item) (λ k d lt _. s.items k d lt);
      limit = limit;
    })

-- a sound book stays sound where a page joins a dup that it may join
pub sound_joined : (b : BookState) (row : Row) (dup : DupRow) → IsVisited b row → IsJoined b row dup → IsSound b → IsSound (record b { rows = change_row row.page (λ r. record r { state = Merged dup.number }) b.rows })
sound_joined b row dup visited joined s =
    let test : Row → Bool = λ r. same_page r.page row.page in
    sound_turned b row (Merged dup.number) visited (λ is. cc) (waiting_changed b.knobs test (in_state (Merged dup.number)) b.rows (merged_waits dup.number) s.waiting)
    (λ number merged. (dup, grind arith))
    (λ k d lt.
    let e = get_or b.dups k d in
    elim (cases_Bool (dup.number == e.number)) [
      | inl same ↦
          let counts : item_count b.rows dup ≡ item_count b.rows e = ap (λ n. count_by (λ r. merged_into n r.state) b.rows) (eqb-true dup.number e.number same) in
          omega (arith, count_change_le (λ r. merged_into e.number r.state) test (in_state (Merged dup.number)) b.rows, one_of_page row.page b.rows s.rows_rise)
      | inr other ↦ omega (arith, fewer_items row (Merged dup.number) b.rows e other, s.limit k d lt)
    ]) s

bytes_sym : (x y : List ℕ) → bytes_eq x y ≡ bytes_eq y x
bytes_sym x y = grind (arith, bytes_eq-Decides x y, bytes_eq-Decides y x)

-- of two rows of which one waits and isn't waited for by the other, the other isn't waited for by it
waits_back : (knobs : Knobs) (r w : Row) (state : PageState) → waiting_state r.state ≡ true → waits_for knobs w r ≡ false → waits_for knobs r (record w { state = state }) ≡ false
waits_back knobs r w state waits none = grind (arith, nat_tests, same_page_sym w.page r.page, bytes_sym w.bytes r.bytes)

-- a sound book stays sound where a page waits and no other of its tree and bytes does
pub sound_waiting : (b : BookState) (row : Row) → IsVisited b row → partner b.knobs b.rows row ≡ None → IsSound b → IsSound (record b { rows = change_row row.page (λ r. record r { state = Waiting }) b.rows })
sound_waiting b row visited alone s =
    let test : Row → Bool = λ r. same_page r.page row.page in
    let new = turned row Waiting b.rows in
    let none = find_none (waits_for b.knobs row) b.rows alone in
    let waiting : NoneWaitsTwice b.knobs new =
    all_changed (WaitsAlone b.knobs new) test (in_state Waiting) b.rows
    (λ k d lt same _. rw (visited.once k d lt same)
    (find_nothing (waits_for b.knobs (in_state Waiting row)) new (all_changed (λ w. waits_for b.knobs (in_state Waiting row) w ≡ false) test (in_state Waiting) b.rows
    (λ j e lt_e same_e. grind arith) (λ j e lt_e _. none j e lt_e))))
    (λ k d lt other waits.
    let r = get_or b.rows k d in
    find_nothing (waits_for b.knobs r) new (all_changed (λ w. waits_for b.knobs r w ≡ false) test (in_state Waiting) b.rows
    (λ j e lt_e same_e. rw (visited.once j e lt_e same_e) (waits_back b.knobs r row Waiting waits (none k d lt)))
    (λ j e lt_e _. find_none (waits_for b.knobs r) b.rows (s.waiting k d lt waits) j e lt_e))) in
    sound_turned b row Waiting visited (λ is. cc) waiting (λ number merged. cc) (λ k d lt. omega (arith, fewer_items row Waiting b.rows (get_or b.dups k d) refl, s.limit k d lt)) s

-- a sound book stays sound where a page of zeroes becomes Zero
pub sound_zero : (b : BookState) (row : Row) → IsVisited b row → all_zero row.bytes ≡ true → IsSound b
    → IsSound (record b { rows = change_row row.page (λ r. record r { state = Zero }) b.rows })
sound_zero b row visited zeroes s =
    sound_turned b row Zero visited (λ _. zeroes) (waiting_changed b.knobs (λ r. same_page r.page row.page) (in_state Zero) b.rows (λ r. grind arith) s.waiting)
    (λ number merged. cc) (λ k d lt. omega (arith, fewer_items row Zero b.rows (get_or b.dups k d) refl, s.limit k d lt)) s
