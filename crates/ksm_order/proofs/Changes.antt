-- An item that comes in, and a part that changes or is cut in two: what that is for all items.
use Rattle.ksm_order.proofs.Names.{[], add-one, All, All-append, All-cons, All-drop, All-nil, All-take, AllPairs-filter, ap, append-nil, append_assoc, AreAscending, AreBefore, AreBehind, AreParts}
use Rattle.ksm_order.proofs.Names.{arith, begins_behind, Bool, cond, count-append, drop, drop-set-lt, drop_at, false, flat_map, flat_map-append, get_or, get_or-insert_at, if◌then◌else◌, insert, is_at}
use Rattle.ksm_order.proofs.Names.{IsCounted, IsCut, IsPartOf, Item, length, length-append, length-drop, length-insert, length-map, length-set, length-take-le, List, many, nat_tests, nil_from_length}
use Rattle.ksm_order.proofs.Names.{refl, remove, set, set_split, take, take-append-drop, take-set, take_at, true, with_item, with_mark, without, ℕ, ◌++◌, ◌+◌, ◌-◌, ◌<◌, ◌==◌, ◌∷◌, ◌≡◌, ◌≢◌, ◌≤◌}
use Rattle.std.proofs.lemmas.List.{get_or-map}
use Rattle.std.specs.Int.{from_bool}
use Rattle.std.proofs.lemmas.Grind.{take-set_at}
use Rattle.std.proofs.lemmas.List.Sums.{sum_by-remove}
use Rattle.ksm_order.proofs.Places.{with_ascends}
use Rattle.ksm_order.proofs.Parts.{ahead_of, behind_of, cut, front, halves_rise, mark_between, rest, with_between}
use Rattle.ksm_order.proofs.Ordered.{numbers_ordered, without_between}

-- a test as a number is 1 where it passes and 0 where it does not
pub byte_of : (b : Bool) → from_bool b ≡ cond b 1 0
byte_of true = refl
byte_of false = refl

-- without an item the count is less by what that item counted
pub removed_counted : {xs : List Item} {n : ℕ} → IsCounted xs n → (at : ℕ) {x : Item} → at < length xs
    → x ≡ get_or xs at x
    → (from_bool x.marked ≤ n) × (n - from_bool x.marked ≡ many (remove xs at))
removed_counted {xs = xs} is at {x = x} within stood = grind (arith, sum_by-remove (λ (y : Item). cond y.marked 1 0) xs at x within, byte_of x.marked)

-- a list in order that is cut in two, with how many of both are marked
counted_halves : {xs : List Item} {n : ℕ} (ys zs : List Item) → IsCounted xs n → ys ++ zs ≡ xs
    → (many zs ≤ n) × IsCounted ys (n - many zs) × IsCounted zs (many zs)
counted_halves ys zs is whole = grind (arith, halves_rise ys, ap many, count-append)

-- the same at a place
pub counted_cut : {xs : List Item} {n : ℕ} (is : IsCounted xs n) (at : ℕ)
    → (many (drop at xs) ≤ n) × IsCounted (take at xs) (n - many (drop at xs)) × IsCounted (drop at xs) (many (drop at xs))
counted_cut {xs = xs} is at = counted_halves (take at xs) (drop at xs) is (take-append-drop at xs)

-- a mark leaves each key as it is, so a list in order stays in order
abbrev pub mark_of : ℕ → Bool → Item → Item
mark_of key mark y = if is_at key y then record y { marked = mark } else y

pub same_key : (key : ℕ) (mark : Bool) (y : Item) → (mark_of key mark y).key ≡ y.key
same_key key mark y = grind arith

pub mark_rises : (key : ℕ) (mark : Bool) (xs : List Item) → AreAscending xs → AreAscending (with_mark key mark xs)
mark_rises key mark xs rise i j d less lt =
    grind (arith, rise i j d, get_or-map (mark_of key mark) xs i d d, get_or-map (mark_of key mark) xs j d d, same_key key mark, length-map xs (mark_of key mark))

abbrev Full : {P : Type 0} → (P → List Item) → P → Type 0
Full f p = f p ≢ []

-- parts that are filled have nothing exactly where there is no part
pub nothing_of_parts : {P : Type 0} (f : P → List Item) (parts : List P) → All (Full f) parts
    → (length parts == 0) ≡ (length (flat_map f parts) == 0)
nothing_of_parts f [] filled = refl
nothing_of_parts f (p ∷ ps) filled =
    grind (arith, nat_tests, filled 0 p, length-append, nil_from_length (f p))

-- parts in order that are cut in two
module _ {P : Type 0} {f : P → List Item} {parts : List P} {n : ℕ} (are : AreParts f parts × IsCounted (flat_map f parts) n) (at : ℕ) where
  whole : flat_map f (take at parts) ++ flat_map f (drop at parts) ≡ flat_map f parts
  whole = grind (arith, ap (flat_map f) (take-append-drop at parts), flat_map-append)

  pub parts_cut : AreParts f (take at parts) × AreParts f (drop at parts) × (many (flat_map f (drop at parts)) ≤ n)
      × IsCounted (flat_map f (take at parts)) (n - many (flat_map f (drop at parts))) × IsCounted (flat_map f (drop at parts)) (many (flat_map f (drop at parts)))
  parts_cut =
      grind (arith, counted_halves (flat_map f (take at parts)) (flat_map f (drop at parts)) are.1 whole, All-take (Full f) at parts are.0.filled, All-drop (Full f) at parts are.0.filled)

  pub items_cut : 0 < at → at < length parts
      → IsCut (flat_map f parts) (flat_map f (take at parts)) (flat_map f (drop at parts))
  items_cut some within =
      grind (arith, whole, parts_cut, nat_tests, nothing_of_parts f (take at parts), nothing_of_parts f (drop at parts), length-take-le at parts, length-drop at parts)

-- a change that touches only what lies between the items in front of a key and those behind it, and keeps the order
pub record IsLocal (key : ℕ) (h : List Item → List Item) : Type 0 where
  pub between : (xs run ys : List Item) → AreBefore key xs → AreBehind key ys
      → h (xs ++ (run ++ ys)) ≡ xs ++ (h run ++ ys)
  pub rises : (xs : List Item) → AreAscending xs → AreAscending (h xs)

-- to change nothing, to put in an item, to mark the item of a key and to take it out are such changes
pub local_none : (key : ℕ) → IsLocal key (λ xs. xs)
local_none key = record { between = λ xs run ys ahead after. refl; rises = λ xs rise. rise }

pub local_with : (x : Item) → IsLocal x.key (with_item x)
local_with x = record { between = with_between x; rises = with_ascends (λ y. y.key) x }

pub local_mark : (key : ℕ) (mark : Bool) → IsLocal key (with_mark key mark)
local_mark key mark =
    record { between = mark_between key mark; rises = mark_rises key mark }

pub local_without : (key : ℕ) → IsLocal key (without key)
local_without key = record {
  between = λ xs run ys ahead after. without_between numbers_ordered (λ y. y.key) key xs run ys
      (λ k d lt. grind (arith, nat_tests, ahead k d)) (λ k d lt. grind (arith, nat_tests, after k d));
  rises = AllPairs-filter (λ x y. x.key < y.key) _;
}

-- parts in place of the one of a key, which have its items after such a change
module _ {P : Type 0} {f : P → List Item} {key : ℕ} {parts : List P} {at : ℕ} {q : P} (are : AreParts f parts) (place : IsPartOf f key parts at) (is : q ≡ get_or parts at q) {h : List Item → List Item} (local : IsLocal key h) where
  pub replaced : {all : List P} (news : List P) → All (Full f) news → flat_map f news ≡ h (f q)
      → all ≡ take at parts ++ (news ++ drop (at + 1) parts)
      → AreParts f all × (flat_map f all ≡ h (flat_map f parts)) × (many (flat_map f all) + many (f q) ≡ many (flat_map f parts) + many (flat_map f news))
  replaced {all = all} news filled changed whole =
      let later = drop (at + 1) parts in
      let old = cut f parts at place.within is in
      let now : flat_map f all ≡ front f parts at ++ (flat_map f news ++ rest f parts at) = grind (arith, whole, flat_map-append) in
      let each = All-append (Full f) (take at parts) (news ++ later) (All-take (Full f) at parts are.filled) (All-append (Full f) news later filled (All-drop (Full f) (at + 1) parts are.filled)) in
      grind (arith, whole, each, local.between (front f parts at) (f q) (rest f parts at) place.ahead place.behind, local.rises _ are.ascending, count-append)

  -- one part in its place
  pub set_part : {p : P} → f p ≡ h (f q) → h (f q) ≢ []
      → AreParts f (set parts at p) × (flat_map f (set parts at p) ≡ h (flat_map f parts)) × (many (flat_map f (set parts at p)) + many (f q) ≡ many (flat_map f parts) + many (f p))
  set_part {p = p} changed some = rw append-nil at (replaced {all = set parts at p} (p ∷ []) (All-cons (Full f) p [] (grind arith) (All-nil (Full f))) (grind (arith, append-nil)) (rw add-one (set_split parts at p place.within)))

-- a part that keeps its items changes nothing
pub same_part : {P : Type 0} {f : P → List Item} {key : ℕ} {parts : List P} {at : ℕ} {q p : P} → AreParts f parts
    → IsPartOf f key parts at → q ≡ get_or parts at q → f p ≡ f q
    → AreParts f (set parts at p) × (flat_map f (set parts at p) ≡ flat_map f parts) × IsPartOf f key (set parts at p) at
same_part {f = f} {key = key} {parts = parts} {at = at} {q = q} {p = p} are place is same =
    grind (arith, set_part are place is (local_none key) same (grind (arith, are.filled at q)), length-set, take-set, drop-set-lt)

-- a part that is cut in two
module _ {P : Type 0} {f : P → List Item} {key : ℕ} {parts : List P} {at : ℕ} {q p m : P} (are : AreParts f parts) (place : IsPartOf f key parts at) (is : q ≡ get_or parts at q) (halves : IsCut (f q) (f p) (f m)) where
  abbrev two : List P
  two = insert (set parts at p) (at + 1) m

  two_is : two ≡ take at parts ++ (p ∷ m ∷ drop (at + 1) parts)
  two_is = grind (arith, take-set_at, drop-set-lt, append_assoc)

  pub split : AreParts f two × (flat_map f two ≡ flat_map f parts)
  split =
      grind (arith, replaced are place is (local_none key) {all = two} (p ∷ m ∷ []) (All-cons (Full f) p (m ∷ []) halves.front_filled (All-cons (Full f) m [] halves.back_filled (All-nil (Full f)))) (grind (arith, append-nil)) two_is)

  there : (at + 1 < length two) × (m ≡ get_or two (at + 1) m)
  there = grind (arith, length-insert (set parts at p), length-set parts, get_or-insert_at (set parts at p) (at + 1))

  -- the key is in the first half where the second begins behind it, and else in the second
  pub into_first : begins_behind key (f m) ≡ true → IsPartOf f key two at
  into_first begins =
      grind (arith, there, two_is, take_at (take at parts) (p ∷ m ∷ drop (at + 1) parts) at, length-take-le at parts, behind_of f two (at + 1) there.0 there.1 key split.0 begins)

  pub into_second : begins_behind key (f m) ≡ false → IsPartOf f key two (at + 1)
  into_second from =
      grind (arith, ahead_of f two (at + 1) there.0 there.1 key split.0 from, there, two_is, drop_at (take at parts ++ (p ∷ m ∷ [])) (drop (at + 1) parts) (at + 1 + 1), length-take-le at parts, length-append, append_assoc)
