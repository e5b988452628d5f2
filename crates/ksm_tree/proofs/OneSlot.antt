-- What a change of one slot does to the dups and to the places whose slots pass a test.
use Rattle.ksm_tree.proofs.Names.{[], absent_kept, All, ArePlaced, AreSlots, arith, Bool, change_at, change_items_of, change_slot, cond, count_by, count_by-le-length, count_in, count_more, Dup}
use Rattle.ksm_tree.proofs.Names.{dup_at, empty_place, eqb-true, false, filter_all, filter_none, find, find_nothing, find_passes, FindsLeast, get_or, get_or-le-sum_by, get_or-map, get_or-replicate}
use Rattle.ksm_tree.proofs.Names.{get_or-set_other, get_or-set_same, get_or_past, GuestPage, has, has_item, HasNone, holds, is_live, is_none, is_open, is_some, is_stale, IsMarked, IsSetOf, items_in}
use Rattle.ksm_tree.proofs.Names.{length, length-map, length-replicate, length-set, List, map, map-set, MayBeMarked, MOST_FRAMES, None, none_found, Option, option_map, pages_ordered, place_of}
use Rattle.ksm_tree.proofs.Names.{places_open, places_where, present, refl, replicate, rows_of, set, set-get_or, ShelfState, slots_seen, SlotsState, Some, stands_at, suc, sum_by-replicate, sum_by-set}
use Rattle.ksm_tree.proofs.Names.{true, with_new, without_item, without_place, zero, ℕ, ◌*◌, ◌+◌, ◌<◌, ◌==◌, ◌∷◌, ◌≡◌, ◌≤◌}
use Rattle.ksm_base.specs.Visit.{empty_from}
use Rattle.ksm_tree.specs.declared.number_set.CountedSet.{CountedSet}
use Rattle.ksm_tree.proofs.Alike.{change_none}

-- the set once a slot is put, and its place marked as the slot passes
set_marked : {test : Option Dup → Bool} {slots : List (Option Dup)} {p : ℕ} (s : Option Dup) {old new : CountedSet} → p < length slots → IsMarked old new p (test s) → IsSetOf test slots old → IsSetOf test (set slots p s) new
set_marked s within marked h = grind (arith, length-set, get_or-set_same, get_or-set_other, sum_by-set)

-- the place of a slot may be marked
pub may_be_marked : {test : Option Dup → Bool} {slots : List (Option Dup)} {places : CountedSet} {p : ℕ} → IsSetOf test slots places → length slots ≤ MOST_FRAMES → p < length slots → MayBeMarked places p
may_be_marked {test} {slots} {p} h few within = grind (arith, count_by-le-length, get_or-le-sum_by)

-- what each place holds
abbrev Slots : Type 0
Slots = List (Option Dup)

-- the dups of slots from k on stand at k or behind it
placed_above : (k : ℕ) (slots : Slots) → ArePlaced k slots → All (λ d. k ≤ d.row.place) (present slots)
placed_above k [] placed i d lt = absurd (omega arith)
placed_above k (s ∷ slots) placed zero d lt = grind (arith, placed_above (suc k) slots placed.1 0 d)
placed_above k (s ∷ slots) placed (suc i) d lt = grind (arith, placed_above (suc k) slots placed.1)

-- the dup found at a place is what the slot of that place holds
slot_found : (k p i : ℕ) (slots : Slots) → p ≡ k + i → ArePlaced k slots
    → dup_at p (present slots) ≡ get_or slots i None
slot_found k p i [] is placed = refl
slot_found k p zero (s ∷ slots) is placed = grind (arith, placed.1, placed_above, find_nothing)
slot_found k p (suc i) (s ∷ slots) is placed =
    grind (arith, slot_found (suc k) p i slots (omega arith) placed.1)

-- a dup put into its slot is seen among the dups, in place of one that stood there
pub slot_put : (k p i : ℕ) (slots : Slots) (dup : Dup) → p ≡ k + i → dup.row.place ≡ p → i < length slots
    → ArePlaced k slots → present (set slots i (Some dup)) ≡ with_new dup (present slots)
slot_put k p i [] dup is at within placed = absurd (omega arith)
slot_put k p zero (s ∷ slots) dup is at within placed = grind (arith, placed_above, filter_none, filter_all)
slot_put k p (suc i) (s ∷ slots) dup is at within placed =
    grind (arith, slot_put (suc k) p i slots dup (omega arith) at (omega arith) placed.1)

-- a slot that is emptied takes the dup of its place out of those that are seen
pub slot_emptied : (k p i : ℕ) (slots : Slots) → p ≡ k + i → ArePlaced k slots
    → present (set slots i None) ≡ without_place p (present slots)
slot_emptied k p i [] is placed = refl
slot_emptied k p zero (s ∷ slots) is placed = grind (arith, placed.1, placed_above, filter_all)
slot_emptied k p (suc i) (s ∷ slots) is placed =
    grind (arith, slot_emptied (suc k) p i slots (omega arith) placed.1)

-- a change of the items in a slot is seen as that change of the dup at its place
pub slot_changed : (k p i : ℕ) (slots : Slots) (f : List GuestPage → List GuestPage) → p ≡ k + i → ArePlaced k slots
    → present (set slots i (option_map (change_items_of f) (get_or slots i None))) ≡ change_at p f (present slots)
slot_changed k p i [] f is placed = refl
slot_changed k p zero (s ∷ slots) f is placed =
    let rest = placed_above (suc k) slots placed.1 in
    grind (arith, change_none (stands_at p) (change_items_of f) (present slots) (λ i d lt. grind (arith, rest i d lt)))
slot_changed k p (suc i) (s ∷ slots) f is placed =
    grind (arith, slot_changed (suc k) p i slots f (omega arith) placed.1)

-- dups stand at the places of their slots once one slot is empty, or its dup stands at its place
placed_set : (k p i : ℕ) (s : Option Dup) (slots : Slots) → p ≡ k + i → ArePlaced p (s ∷ []) → ArePlaced k slots → ArePlaced k (set slots i s)
placed_set k p i s [] is at placed = tt
placed_set k p zero s (x ∷ slots) is at placed = grind (arith, placed.1)
placed_set k p (suc i) s (x ∷ slots) is at placed = (placed.0, placed_set _ p i s slots (omega arith) at placed.1)

-- no slot before slot i passes
abbrev pub NoneBefore : (Option Dup → Bool) → Slots → ℕ → Type 0
NoneBefore test slots i = (j : ℕ) → j < i → test (get_or slots j None) ≡ false

-- the first dup that passes a test is in the first slot whose dup does, and there is none where no slot has one
pub first_found : (test : Dup → Bool) (i : ℕ) (slots : Slots) → NoneBefore (holds test) slots i → (i < length slots → holds test (get_or slots i None) ≡ true)
    → find test (present slots) ≡ get_or slots i None
first_found test i [] before here = refl
first_found test zero (s ∷ slots) before here = grind arith
first_found test (suc i) (s ∷ slots) before here =
    grind (arith, before 0 (omega arith), first_found test i slots (λ j less. before (suc j) (omega arith)) (λ less. here (omega arith)))

-- where the dups stand behind place j, it is the least that no dup has
empty_before : (j k : ℕ) (slots : Slots) → j < k → ArePlaced k slots → empty_from j (rows_of (present slots)) ≡ j
empty_before j k [] before placed = refl
empty_before j k (s ∷ slots) before placed =
    grind (arith, empty_before j (suc k) slots (omega arith) placed.1)

-- the least place that no dup has is that of the first empty slot, or the one behind all slots
empty_first : (k i : ℕ) (slots : Slots) → ArePlaced k slots → NoneBefore is_none slots i → i ≤ length slots → is_none (get_or slots i None) ≡ true
    → empty_from k (rows_of (present slots)) ≡ k + i
empty_first k i [] placed before within here = omega arith
empty_first k zero (s ∷ slots) placed before within here = grind (arith, empty_before)
empty_first k (suc i) (s ∷ slots) placed before within here =
    grind (arith, before 0 (omega arith), empty_first (suc k) i slots placed.1 (λ j less. before (suc j) (omega arith)) (omega arith) here)

-- the dup found at a place stands there
pub found_stands : {p : ℕ} (dups : List Dup) {d : Dup} → dup_at p dups ≡ Some d → d.row.place ≡ p
found_stands dups found = search (eqb-true, find_passes)

module _ {slots : Slots} {counts : List ℕ} {empty stale : CountedSet} (h : AreSlots slots counts empty stale) where
  before : {test : Option Dup → Bool} {places : CountedSet} {p : ℕ} → IsSetOf test slots places → p ≤ length slots → HasNone places.set 0 p → NoneBefore test slots p
  before set within none j less = grind (arith, set.each j)

  -- the least place in the set of the empty ones is the least that no dup has
  pub first_empty : (found : Option ℕ) → FindsLeast empty.set 0 (length slots) found → found ≡ empty_place (length slots) (rows_of (present slots))
  first_empty None none = grind (arith, get_or_past, empty_first)
  first_empty (Some p) least = grind (arith, empty_first)

  -- the least place in the set of the stale ones is that of the first stale dup
  pub first_stale : (found : Option ℕ) → FindsLeast stale.set 0 (length slots) found → found ≡ place_of (find is_stale (present slots))
  first_stale None none =
      grind (arith, get_or_past, first_found is_stale (length slots) slots (before h.stales (omega arith) none))
  first_stale (Some p) least =
      let none = before h.stales (omega (arith, least.high_is)) least.least in
      grind (arith, least.there, first_found is_stale p slots none, slot_found 0 p p slots, found_stands {p = p} (present slots))

  -- the slots are right once one changes, its count with it, and the sets follow
  pub slots_set : (p : ℕ) {n : ℕ} (s : Option Dup) {empty' stale' : CountedSet} → p < length slots → n ≡ count_in s → ArePlaced p (s ∷ [])
      → IsMarked empty empty' p (is_none s) → IsMarked stale stale' p (holds is_stale s) → AreSlots (set slots p s) (set counts p n) empty' stale'
  slots_set p s within is at empties stales =
      grind (arith, length-set, placed_set 0 p p s slots, map-set, set_marked s within empties h.empties, set_marked s within stales h.stales)

  -- the slots are right once the items of one dup changed, and its place is marked as stale or not
  pub slots_changed : (p : ℕ) {n : ℕ} (f : List GuestPage → List GuestPage) {stale' : CountedSet} → is_some (get_or slots p None) ≡ true → n ≡ length (f (items_in (get_or slots p None)))
      → IsMarked stale stale' p (n == 0) → AreSlots (change_slot p f slots) (set counts p n) empty stale'
  slots_changed p {n} f {stale'} some is marked =
      let within : p < length slots = grind (arith, get_or_past) in
      let at : ArePlaced p (option_map (change_items_of f) (get_or slots p None) ∷ []) = grind (arith, slot_found 0 p p slots, h.placed, found_stands {p = p} (present slots)) in
      slots_set p _ within (grind arith) at (grind (arith, h.empties)) (grind arith)

module _ (p : ℕ) (shelf : ShelfState) {s : SlotsState} (view : slots_seen shelf ≡ s) (placed : ArePlaced 0 shelf.slots) where
  -- the dup seen at a place is what its slot holds
  pub seen_slot : dup_at p s.dups ≡ get_or shelf.slots p None
  seen_slot = grind (arith, slot_found)

  -- the dup seen at a place has as many items as are counted there
  pub seen_count : length (items_in (dup_at p s.dups)) ≡ get_or (map count_in shelf.slots) p 0
  seen_count = grind (arith, seen_slot, get_or-map count_in shelf.slots p None)

  -- a place where a dup is seen has a slot
  pub seen_within : is_some (dup_at p s.dups) ≡ true → p < length shelf.slots
  seen_within known = grind (arith, get_or_past, seen_slot)

-- taking a page out of items of which it is none changes no slot
same_items : (page : GuestPage) (s : Option Dup) → has_item page (items_in s) ≡ false → option_map (change_items_of (without_item page)) s ≡ s
same_items page None absent = refl
same_items page (Some d) absent =
    grind (arith, absent_kept pages_ordered (λ q. q) page d.items (none_found _ d.items absent))

pub slots_same : (p : ℕ) (page : GuestPage) (slots : Slots) → has_item page (items_in (get_or slots p None)) ≡ false → change_slot p (without_item page) slots ≡ slots
slots_same p page slots absent = grind (arith, same_items, set-get_or)

-- in empty slots no dup is present, each stands at its place, and no place has an item
pub none_slots : (k n : ℕ) → (present (replicate n None) ≡ []) × ArePlaced k (replicate n None) × (replicate n 0 ≡ map count_in (replicate n None))
none_slots k zero = (refl, tt, refl)
none_slots k (suc n) = grind (arith, none_slots (suc k) n)

-- a set that has all of so many places, or none, is that of the empty slots that pass a test
pub none_set : {test : Option Dup → Bool} (n : ℕ) {places : CountedSet} → n ≤ 64 * length places.set → ((p : ℕ) → p < n → has places.set p ≡ test None) → places.count ≡ n * cond (test None) 1 0 → IsSetOf test (replicate n None) places
none_set n wide each count = grind (arith, length-replicate, get_or-replicate, sum_by-replicate)

-- the open places of slots are those of the open dups in them
pub open_seen : (limit k : ℕ) (slots : List (Option Dup)) → ArePlaced k slots → places_where (is_open limit) k (map count_in slots) ≡ places_open limit (present slots)
open_seen limit k [] placed = refl
open_seen limit k (s ∷ slots) placed = grind (arith, open_seen limit (suc k) slots placed.1)

-- each slot is empty, or its dup is stale or has items, and as many slots have a stale dup as there are stale dups
pub three_kinds : (slots : List (Option Dup)) → (count_by is_none slots + count_by (holds is_stale) slots + count_by is_live (present slots) ≡ length slots)
    × (count_by (holds is_stale) slots ≡ count_by is_stale (present slots))
three_kinds [] = (refl, refl)
three_kinds (s ∷ slots) =
    grind (arith, count_more is_none s slots, count_more (holds is_stale) s slots, count_more is_live, count_more is_stale, three_kinds slots)

-- what the slots say of the dups that are seen
pub ruleset steps = (first_empty, first_stale, length-map, length-set, may_be_marked, open_seen, seen_count, seen_slot, seen_within, slot_emptied, slot_put, slot_changed, three_kinds)
