-- The dups by place: a slot for each place, under a key that is compared before it is believed, and the places whose
-- slots pass a test. (own)
use Rattle.std.specs.Prelude.{[], Bool, cond, count_by, false, filter_map, get_or, IfSome, if◌then◌else◌, is_none, length, List, map, nat_lt, None, Option, option_map, slice_index, slice_index_or}
use Rattle.std.specs.Prelude.{slice_set, Some, suc, true, ℕ, ◌&&◌, ◌*◌, ◌+◌, ◌<◌, ◌^◌, ◌∷◌, ◌≡◌, ◌≤◌}
use Rattle.ksm_tree.specs.Terms.{Dup, get, GuestPage, MOST_FRAMES, range_with_len, Slab, slab_len}
use Rattle.ksm_tree.specs.declared.number_set.CountedSet.{CountedSet}
use Rattle.ksm_tree.specs.Dups.{is_stale, items_in, stands_at}
use Rattle.ksm_tree.specs.NumberSets.{has, Marks}
use Rattle.ksm_tree.specs.declared.shelf.Kept.{Kept}

-- what each place holds, and whether room for one more dup is taken
pub record ShelfState : Type 0 where
  pub slots : List (Option Dup)
  pub ready : Bool

-- the dup under a key, if it stands at a place
abbrev pub kept_at : ℕ → Option Kept → Option Dup
kept_at place None = None
kept_at place (Some kept) = if stands_at place kept.dup then Some kept.dup else None

-- what the places hold, each by its key
abbrev pub slots_by : List ℕ → Slab Kept → List (Option Dup)
slots_by keys dups = map (λ place. kept_at place (get dups (slice_index keys place))) (range_with_len 0 (length keys))

-- one more dup needs no memory, and its key has room in 32 bits
abbrev pub has_room : Slab Kept → Bool
has_room dups = nat_lt (slab_len dups) dups.capacity && nat_lt dups.vacant_key (2 ^ 32)

abbrev pub change_items_of : (List GuestPage → List GuestPage) → Dup → Dup
change_items_of change d = record d { items = change d.items }

-- the slots with a change made to the items of the dup at a place
abbrev pub change_slot : ℕ → (List GuestPage → List GuestPage) → List (Option Dup) → List (Option Dup)
change_slot place change slots =
    slice_set slots place (option_map (change_items_of change) (slice_index_or slots place None))

-- the place has its bit, and the count has room for it, and is not 0 where it is in the set
pub record MayBeMarked (places : CountedSet) (place : ℕ) : Type 0 where
  pub room : place < 64 * length places.set
  pub few : places.count ≤ MOST_FRAMES
  pub counted : has places.set place ≡ true → 1 ≤ places.count

-- the place is in the set after it, or is not; the other places are as they were, and the count follows
pub record IsMarked (old new : CountedSet) (place : ℕ) (marked : Bool) : Type 0 where
  pub set : Marks old.set new.set place marked
  pub count : new.count + cond (has old.set place) 1 0 ≡ old.count + cond marked 1 0

-- how many places there are, the dups in the order of their places, and whether room for one more is taken
pub record SlotsState : Type 0 where
  pub places : ℕ
  pub dups : List Dup
  pub ready : Bool

-- the slots have other dups than before, whatever room there is then
abbrev pub HaveDups : List Dup → SlotsState → SlotsState → Type 0
HaveDups dups old new = new ≡ record old { dups = dups; ready = new.ready }

-- the dups of the slots
abbrev pub present : List (Option Dup) → List Dup
present slots = filter_map (λ slot. slot) slots

abbrev pub slots_seen : ShelfState → SlotsState
slots_seen s = record { places = length s.slots; dups = present s.slots; ready = s.ready }

-- a slot has a dup that passes a test
abbrev pub holds : (Dup → Bool) → Option Dup → Bool
holds test None = false
holds test (Some d) = test d

-- how many items the dup of a slot has
abbrev pub count_in : Option Dup → ℕ
count_in slot = length (items_in slot)

-- each dup knows the place where it stands, from k on
abbrev pub ArePlaced : ℕ → List (Option Dup) → Type 0
ArePlaced k [] = Unit {0}
ArePlaced k (slot ∷ slots) = IfSome slot (λ d. d.row.place ≡ k) × ArePlaced (suc k) slots

-- the dups with a change made to the items of the one at a place
abbrev pub change_at : ℕ → (List GuestPage → List GuestPage) → List Dup → List Dup
change_at place change dups = map (λ d. if stands_at place d then record d { items = change d.items } else d) dups

-- of the places of the slots the set has just those whose slots pass a test, and they are counted
pub record IsSetOf (test : Option Dup → Bool) (slots : List (Option Dup)) (places : CountedSet) : Type 0 where
  pub room : length slots ≤ 64 * length places.set
  pub each : (p : ℕ) → p < length slots → has places.set p ≡ test (get_or slots p None)
  pub count : places.count ≡ count_by test slots

-- each count is of the items at its place; the places of the empty slots and those of the stale dups are known
pub record AreSlots (slots : List (Option Dup)) (counts : List ℕ) (empty stale : CountedSet) : Type 0 where
  pub few : length slots ≤ MOST_FRAMES
  pub placed : ArePlaced 0 slots
  pub counted : counts ≡ map count_in slots
  pub empties : IsSetOf is_none slots empty
  pub stales : IsSetOf (holds is_stale) slots stale
