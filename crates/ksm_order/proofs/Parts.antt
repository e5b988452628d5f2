-- A list in order that is cut in three, what comes before a key, the part in which the key is or would be, and what comes
-- behind it: each call answers of the list what it answers of that part. And parts side by side, one of them that of a key.
use Rattle.ksm_order.proofs.Names.{[], All, All-tail, ap, append-nil, append_assoc, AreAscending, AreBefore, AreBehind, AreParts, arith, begins_behind, Bool, cond, count-append, count_more, drop}
use Rattle.ksm_order.proofs.Names.{drop_more, false, filter, filter-append, find, find-append, find_passes, is_some, Option, Some, sym, flat_map, flat_map-append, get_or, get_or-append-add, get_or_append_left, get_or_default, is_at, is_from, IsHere}
use Rattle.ksm_order.proofs.Names.{IsPartOf, IsPlace, Item, key_at, length, length-append, length-drop, length-take-le, List, many, map-append, marked, nat_lt, nat_tests, None, refl, set, set_split}
use Rattle.ksm_order.proofs.Names.{slice_get, slice_get-get_or, slice_get_past, suc, take, take-append-drop, true, up_to, with_item, with_mark, zero, ℕ, ◌&&◌, ◌++◌, ◌+◌, ◌-◌, ◌<◌, ◌∷◌, ◌≡◌, ◌≢◌, ◌≤◌}
use Rattle.ksm_base.proofs.Edits.{find_all}
use Rattle.ksm_order.specs.Listed.{IsAmong}
use Rattle.std.proofs.lemmas.Bool.{cases_Bool}
use Rattle.std.proofs.lemmas.List.Folds.{Any-from_list_any, list_any-append}
use Rattle.ksm_order.proofs.Names.{inl, inr, list_any}
use Rattle.std.proofs.Common.{true≢false}
use Rattle.std.specs.Option.{option_or}
use Rattle.std.proofs.lemmas.List.Sums.{count_by-le-length, length-filter}
use Rattle.ksm_order.proofs.Ordered.{absent_parts, numbers_ordered}
use Rattle.ksm_order.proofs.Places.{before_here, behind_here, cut_here, from_there, high, in_front, low}

-- one more is counted where it is marked; so it is with the marked ones that come before a key
many-cons : (x : Item) (xs : List Item) → many (x ∷ xs) ≡ cond x.marked 1 0 + many xs
many-cons = count_more (λ (x : Item). x.marked)

up_to-cons : (key : ℕ) (x : Item) (xs : List Item)
    → up_to key (x ∷ xs) ≡ cond (x.marked && nat_lt x.key key) 1 0 + up_to key xs
up_to-cons key = count_more (λ (x : Item). x.marked && nat_lt x.key key)

-- where all items are marked, so are all in front of a place
pub all_in_front : (xs : List Item) → many xs ≡ length xs → (n : ℕ) → n ≤ length xs → many (take n xs) ≡ n
all_in_front xs all n within =
    let few = count_by-le-length (λ (x : Item). x.marked) in
    grind (arith, ap many (take-append-drop n xs), count-append, few (take n xs), few (drop n xs), length-take-le n xs within, length-drop n xs)

-- and the marked ones are all there are
pub all_marked : (xs : List Item) → length xs ≤ many xs → marked xs ≡ xs
all_marked [] all = refl
all_marked (x ∷ xs) all = grind (arith, all_marked xs, many-cons x xs, count_by-le-length (λ (y : Item). y.marked) xs)

-- a mark does not change a list that does not have its key
pub mark_none : (key : ℕ) (mark : Bool) (xs : List Item) → find (is_at key) xs ≡ None → xs ≡ with_mark key mark xs
mark_none key mark [] none = refl
mark_none key mark (x ∷ xs) none = grind (arith, mark_none key mark xs)

-- an item whose key is not there counts as one more where it is marked
pub many_with : (x : Item) (xs : List Item) → AreAscending xs → find (is_at x.key) xs ≡ None
    → many (with_item x xs) ≡ many xs + cond x.marked 1 0
many_with x xs rise absent =
    let parts = absent_parts numbers_ordered (λ y. y.key) x.key xs (λ i j d less lt. grind (arith, nat_tests, rise i j d)) absent in
    grind (arith, ap many parts, count-append, many-cons x (filter (high (λ y. y.key) x.key) xs))

-- what stands at a place stands first from there on
slice_get-drop : (at : ℕ) (xs : List Item) → slice_get xs at ≡ slice_get (drop at xs) 0
slice_get-drop zero xs = refl
slice_get-drop (suc at) [] = refl
slice_get-drop (suc at) (x ∷ xs) = slice_get-drop at xs

-- what is found of a key, and counted, among items that come before it
pub before : (key : ℕ) (xs : List Item) → AreBefore key xs
    → (find (is_at key) xs ≡ None) × (find (is_from key) xs ≡ None) × (up_to key xs ≡ many xs) × (filter (low (λ y. y.key) key) xs ≡ xs) × (filter (high (λ y. y.key) key) xs ≡ [])
before key [] ahead = (refl, refl, refl, refl, refl)
before key (x ∷ xs) ahead =
    let rest = before key xs (All-tail (λ y. y.key < key) x xs ahead) in
    grind (arith, nat_tests, ahead 0 x, many-cons x xs, up_to-cons key x xs)

-- and among items that do not, or that come behind it
pub from_on : (key : ℕ) (ys : List Item) → All (λ x. key ≤ x.key) ys
    → (find (is_from key) ys ≡ slice_get ys 0) × (up_to key ys ≡ 0)
from_on key [] from = (refl, refl)
from_on key (y ∷ ys) from =
    grind (arith, nat_tests, from 0 y, up_to-cons key y ys, from_on key ys (All-tail (λ x. key ≤ x.key) y ys from))

pub behind : (key : ℕ) (ys : List Item) → AreBehind key ys
    → (find (is_at key) ys ≡ None) × (find (is_from key) ys ≡ slice_get ys 0) × (up_to key ys ≡ 0) × (filter (low (λ y. y.key) key) ys ≡ []) × (filter (high (λ y. y.key) key) ys ≡ ys)
behind key [] after = (refl, refl, refl, refl, refl)
behind key (y ∷ ys) after = grind (arith, nat_tests, after 0 y, behind key ys (All-tail (λ y. key < y.key) y ys after))

-- the item of a key is marked in the part between those that come before the key and those that come behind it
pub mark_between : (key : ℕ) (mark : Bool) (xs run ys : List Item) → AreBefore key xs → AreBehind key ys
    → with_mark key mark (xs ++ (run ++ ys)) ≡ xs ++ (with_mark key mark run ++ ys)
mark_between key mark xs run ys ahead after = grind (arith, map-append, before key, mark_none, behind key)

-- an item is put in between those before its key and those behind it
pub with_between : (x : Item) (xs run ys : List Item) → AreBefore x.key xs → AreBehind x.key ys
    → with_item x (xs ++ (run ++ ys)) ≡ xs ++ (with_item x run ++ ys)
with_between x xs run ys ahead after =
    grind (arith, filter-append, before x.key xs ahead, behind x.key ys after, append_assoc, append-nil)

-- where so many items come before the key, the first that does not is the next
pub from_place : {key : ℕ} {xs : List Item} {at : ℕ} → IsPlace (λ x. x.key) key xs at → find (is_from key) xs ≡ slice_get xs at
from_place {key} {xs} {at} place =
    grind (arith, slice_get-drop at xs, ap (find (is_from key)) (take-append-drop at xs), find-append, before key (take at xs) (in_front place), from_on key (drop at xs) (from_there place))

-- and so many marked ones come before the key as are marked in front
pub up_to_cut : {key : ℕ} {xs : List Item} {at : ℕ} → IsPlace (λ x. x.key) key xs at → up_to key xs ≡ many (take at xs)
up_to_cut {key} {xs} {at} place =
    grind (arith, ap (up_to key) (take-append-drop at xs), count-append, before key (take at xs) (in_front place), from_on key (drop at xs) (from_there place))

-- the item of a key is marked where it stands
pub mark_here : {key : ℕ} {xs : List Item} {at : ℕ} → AreAscending xs → IsHere (λ x. x.key) key xs at → (d : Item) (mark : Bool)
    → set xs at (record (get_or xs at d) { marked = mark }) ≡ with_mark key mark xs
mark_here {key} {xs} {at} rise here d mark =
    let it = get_or xs at d in
    grind (arith, set_split xs at (record it { marked = mark }) here.within, ap (with_mark key mark) (cut_here rise here d), mark_between key mark (take at xs) (it ∷ []) (drop (at + 1) xs) (before_here rise here d) (behind_here rise here d), here.is d, nat_tests)

-- what stands at a place, and what is found and marked there
pub ruleset leaf_steps = (all_marked, from_place, mark_here, mark_none, slice_get-get_or, slice_get_past)

-- no more marked ones come before a key than are marked
pub up_to_few : (key : ℕ) (xs : List Item) → up_to key xs ≤ many xs
up_to_few key [] = omega arith
up_to_few key (x ∷ xs) = grind (arith, nat_tests, many-cons x xs, up_to-cons key x xs, up_to_few key xs)

-- of a list in order, both halves are in order, and each item of the first comes before each of the second
pub halves_rise : (xs ys : List Item) → AreAscending (xs ++ ys)
    → AreAscending xs × AreAscending ys × ((i j : ℕ) (d : Item) → i < length xs → j < length ys → (get_or xs i d).key < (get_or ys j d).key)
halves_rise xs ys rise = grind (arith, get_or_append_left, length-append, get_or-append-add)

-- the key at a place in two lists in a row
key_append : (xs ys : List Item) (n : ℕ)
    → key_at (xs ++ ys) n ≡ cond (nat_lt n (length xs)) (key_at xs n) (key_at ys (n - length xs))
key_append [] ys n = grind (arith, nat_tests)
key_append (x ∷ xs) ys zero = grind (arith, nat_tests)
key_append (x ∷ xs) ys (suc n) = grind (arith, nat_tests, key_append xs ys n)

-- in a list in order, all in front of a part that does not begin behind a key come before the key
before_part : (key : ℕ) (front run rest : List Item) → run ≢ [] → AreAscending (front ++ (run ++ rest))
    → begins_behind key run ≡ false → AreBefore key front
before_part key front [] rest filled rise from = absurd (filled refl)
before_part key front (x ∷ run) rest filled rise from =
    λ k d lt. grind (arith, nat_tests, (halves_rise front (x ∷ (run ++ rest)) rise).2 k 0 d)

-- and so its first item does
pub begins_any : (key : ℕ) (run : List Item) → begins_behind key run ≡ true → list_any (high (λ y. y.key) key) run ≡ true
begins_any key [] begins = grind arith
begins_any key (x ∷ run) begins = grind arith

-- and a part that begins behind it and all that follow come behind it
behind_part : (key : ℕ) (run rest : List Item) → AreAscending (run ++ rest) → begins_behind key run ≡ true
    → AreBehind key (run ++ rest)
behind_part key [] rest rise begins = grind arith
behind_part key (x ∷ run) rest rise begins = λ k d lt. grind (arith, nat_tests, rise 0 k d)

-- the items in front of a part, and those behind it
abbrev pub front : {P : Type 0} → (P → List Item) → List P → ℕ → List Item
front f parts at = flat_map f (take at parts)

abbrev pub rest : {P : Type 0} → (P → List Item) → List P → ℕ → List Item
rest f parts at = flat_map f (drop (at + 1) parts)

-- what follows a part in front of those that come behind a key comes behind it too
pub behind_later : {P : Type 0} (f : P → List Item) (key : ℕ) (parts : List P) (low : ℕ)
    → AreBehind key (flat_map f (drop low parts)) → AreBehind key (rest f parts (low - 1))
behind_later f key [] zero behind = behind
behind_later f key (p ∷ ps) zero behind =
    λ k d lt. grind (arith, get_or-append-add (f p) (flat_map f ps) k d, behind (length (f p) + k) d, length-append (f p) (flat_map f ps))
behind_later f key parts (suc low) behind = grind arith

-- the first of two lists in a row is that of the first, if it has one
first_of : (xs ys : List Item) → xs ≢ [] → slice_get (xs ++ ys) 0 ≡ slice_get xs 0
first_of [] ys some = absurd (some refl)
first_of (x ∷ xs) ys some = refl

-- no more are marked in front than in all
pub many_front : {P : Type 0} (f : P → List Item) (parts : List P) (at : ℕ)
    → many (front f parts at) ≤ many (flat_map f parts)
many_front f parts at = grind (arith, ap (flat_map f) (take-append-drop at parts), flat_map-append, count-append)

module _ {P : Type 0} (f : P → List Item) (parts : List P) (at : ℕ) {q : P} (within : at < length parts) (is : q ≡ get_or parts at q) where
  -- all items from a part on are its own and those behind, and all are those and the ones in front
  pub from_cut : flat_map f (drop at parts) ≡ f q ++ rest f parts at
  from_cut = grind (arith, drop_more parts at q)

  pub cut : flat_map f parts ≡ front f parts at ++ (f q ++ rest f parts at)
  cut = grind (arith, ap (flat_map f) (take-append-drop at parts), flat_map-append, from_cut)

  -- what an item of a part passes, one of all does
  pub any_in_part : (p : Item → Bool) → list_any p (f q) ≡ true → list_any p (flat_map f parts) ≡ true
  any_in_part p some = grind (arith, cut, list_any-append)

  -- the marked item at a place is in a part, or behind it
  pub nth_cut : (place : ℕ) → key_at (marked (flat_map f (drop at parts))) place
      ≡ cond (nat_lt place (many (f q))) (key_at (marked (f q)) place) (key_at (marked (rest f parts at)) (place - many (f q)))
  nth_cut place =
      grind (arith, from_cut, filter-append (λ (x : Item). x.marked), key_append, length-filter (λ (x : Item). x.marked) (f q))

  module _ (key : ℕ) (are : AreParts f parts) where
    -- all in front of a part that does not begin behind a key come before the key
    pub ahead_of : begins_behind key (f q) ≡ false → AreBefore key (front f parts at)
    ahead_of = before_part key (front f parts at) (f q) (rest f parts at) (grind (arith, are.filled at q)) (grind (arith, cut))

    -- a part that begins behind a key and all that follow come behind the key
    pub behind_of : begins_behind key (f q) ≡ true → AreBehind key (flat_map f (drop at parts))
    behind_of begins =
        rw from_cut (behind_part key (f q) (rest f parts at) (halves_rise (front f parts at) (f q ++ rest f parts at) (grind (arith, cut))).1 begins)

-- a part of the key: what is found there, and counted, is found and counted in all
module _ {P : Type 0} {f : P → List Item} {key : ℕ} {parts : List P} {at : ℕ} {q : P} (place : IsPartOf f key parts at) (is : q ≡ get_or parts at q) where
  -- a part has no more items than all, and no more of them are marked
  pub few_in_part : (length (f q) ≤ length (flat_map f parts)) × (many (f q) ≤ many (flat_map f parts))
  few_in_part = grind (arith, cut f parts at place.within is, length-append, count-append)

  -- what is found of the key in all is found there
  pub find_in_part : find (is_at key) (flat_map f parts) ≡ find (is_at key) (f q)
  find_in_part = grind (arith, cut f parts at place.within is, find-append, before key _ place.ahead, behind key _ place.behind)

  pub up_to_in_part : up_to key (flat_map f parts) ≡ many (front f parts at) + up_to key (f q)
  up_to_in_part =
      grind (arith, ap (up_to key) (cut f parts at place.within is), count-append, before key _ place.ahead, behind key _ place.behind)

  -- the first item that does not come before the key is in its part, or the first behind it
  pub from_in_part : find (is_from key) (flat_map f parts) ≡ option_or (find (is_from key) (f q)) (slice_get (rest f parts at) 0)
  from_in_part = grind (arith, cut f parts at place.within is, find-append, before key _ place.ahead, behind key _ place.behind)

  -- which is the first in the next part
  pub from_in_next : {p : P} → AreParts f parts → at + 1 < length parts → p ≡ get_or parts (at + 1) p
      → slice_get (rest f parts at) 0 ≡ find (is_from key) (f p)
  from_in_next {p = p} are next there =
      let run = f p in
      let later = rest f parts (at + 1) in
      let whole = from_cut f parts (at + 1) next there in
      let after : AreBehind key (run ++ later) = rw whole at place.behind in
      grind (arith, first_of run later, are.filled (at + 1) p, from_on key run (λ k c lt. grind (arith, after k c, length-append run later, get_or_append_left run later c k)))

-- what a part says of all
pub ruleset steps = (find_in_part, many_front)

-- the part that has the item of a key is the part of the key
module _ {P : Type 0} {f : P → List Item} {parts : List P} {at : ℕ} {q : P} (are : AreParts f parts) (within : at < length parts) (is : q ≡ get_or parts at q) where
  -- what is in front of a part comes before each of its items, and what is behind it comes behind these
  around : (i : ℕ) (e : Item) → i < length (f q) → AreBefore (get_or (f q) i e).key (front f parts at) × AreBehind (get_or (f q) i e).key (rest f parts at)
  around i e less =
      let all = halves_rise (front f parts at) (f q ++ rest f parts at) (grind (arith, cut f parts at within is, are.ascending)) in (
        λ k d lt. grind (arith, all.2 k i d lt, get_or_default (f q) i d e, get_or_append_left (f q) (rest f parts at) d i, length-append (f q) (rest f parts at)),
        λ k d lt. grind (arith, (halves_rise (f q) (rest f parts at) all.1).2 i k d less lt, get_or_default (f q) i d e),
      )

  part_with : {key : ℕ} (o : Option Item) → find (is_at key) (f q) ≡ o → is_some o ≡ true → IsPartOf f key parts at
  part_with {key} None found there = absurd (true≢false (sym there))
  part_with {key} (Some x) found there =
      let key_is = find_passes (is_at key) (f q) x found in
      record {
        within = within;
        ahead = λ k d lt. grind (arith, key_is, find_all (is_at key) (λ y. (get_or (front f parts at) k d).key < y.key) (f q) x found (λ i e less. (around i e less).0 k d lt));
        behind = λ k d lt. grind (arith, key_is, find_all (is_at key) (λ y. y.key < (get_or (rest f parts at) k d).key) (f q) x found (λ i e less. (around i e less).1 k d lt));
      }

  -- and so is the part among whose items the key comes, or that has none of those in front or behind it
  pub part_among : {key : ℕ} {ahead behind : Bool} → IsAmong key ahead behind (f q) → (ahead ≡ true → at ≡ 0) → (behind ≡ true → AreBehind key (rest f parts at)) → IsPartOf f key parts at
  part_among {key} {ahead} {behind} among first last = record {
    within = within;
    ahead = elim (cases_Bool ahead) [
      | inl told ↦ λ k d lt. grind (arith, first told)
      | inr other ↦ let (i, x, less, stands, over) = Any-from_list_any (λ y. nat_lt y.key key) (f q) (grind (arith, other, among.over)) in
          λ k d lt. grind (arith, nat_tests, stands, over, (around i x less).0 k d lt)
    ];
    behind = elim (cases_Bool behind) [
      | inl told ↦ last told
      | inr other ↦ let (i, x, less, stands, under) = Any-from_list_any (λ y. nat_lt key y.key) (f q) (grind (arith, other, among.under)) in
          λ k d lt. grind (arith, nat_tests, stands, under, (around i x less).1 k d lt)
    ];
  }

  pub part_having : {key : ℕ} → is_some (find (is_at key) (f q)) ≡ true → IsPartOf f key parts at
  part_having there = part_with _ refl there
