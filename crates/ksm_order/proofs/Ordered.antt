-- Lists in a strict order of their keys: the parts in front of a key and behind it, and the list with an element of the key and
-- without.
use Rattle.ksm_order.proofs.Names.{[], All, AllPairs, AllPairs-filter, arith, Bool, false, filter, filter-append, filter_all, filter_none, filter_passes, find, find_none, find_nothing, find_passes}
use Rattle.ksm_order.proofs.Names.{is_some, List, list_any, nat_lt, None, not, Option, pairs_tail, pairs_with, refl, Some, suc, true, ◌++◌, ◌==◌, ◌∷◌, ◌≡◌}

-- a strict order, with the test that tells equal elements
pub record IsOrder {X : Type 0} (before same : X → X → Bool) : Type 0 where
  -- what comes before an element comes before all that the element comes before
  pub trans : (x y z : X) → before x y ≡ true → before y z ≡ true → before x z ≡ true
  -- an element that comes before another is not the same
  pub apart : (x y : X) → before x y ≡ true → same x y ≡ false
  -- an element that comes behind another is not the same
  pub apart_back : (x y : X) → before x y ≡ true → same y x ≡ false
  -- of two elements only one comes before the other
  pub asym : (x y : X) → before x y ≡ true → before y x ≡ false
  -- of two elements that are not the same one comes before the other
  pub total : (x y : X) → same x y ≡ false → before x y ≡ false → before y x ≡ true
  -- an element is the same as itself
  pub same_refl : (x : X) → same x x ≡ true
  -- elements that test as the same are equal
  pub same_eq : (x y : X) → same x y ≡ true → x ≡ y

-- numbers have an order
pub numbers_ordered : IsOrder nat_lt (λ k l. k == l)
numbers_ordered = grind arith

-- what follows both where nothing is found and from what is found
by_found : {X P : Type 0} (found : Option X) → (found ≡ None → P) → ((x : X) → found ≡ Some x → P) → P
by_found None none some = none refl
by_found (Some x) none some = some x refl

-- an element passes a test exactly where a search by that test finds one
pub any_found : {X : Type 0} (p : X → Bool) (xs : List X) → list_any p xs ≡ is_some (find p xs)
any_found p [] = refl
any_found p (x ∷ xs) = grind (arith, any_found p xs)

-- where no element passes a test, a search by that test finds nothing
pub none_found : {X : Type 0} (p : X → Bool) (xs : List X) → list_any p xs ≡ false → find p xs ≡ None
none_found p xs none = grind (arith, any_found)

module _ {X K : Type 0} {before same : K → K → Bool} (order : IsOrder before same) (key : X → K) where
  abbrev Before : X → X → Type 0
  Before a b = before (key a) (key b) ≡ true

  module _ (q : K) where
    abbrev low : X → Bool
    low y = before (key y) q

    abbrev high : X → Bool
    high y = before q (key y)

    abbrev is_it : X → Bool
    is_it y = same (key y) q

    -- where the first element of a list in order is behind the key, so are all others
    pub behind_rest : (y : X) (ys : List X) → AllPairs Before (y ∷ ys) → high y ≡ true → All (λ z. high z ≡ true) ys
    behind_rest y ys rise here k d lt = grind (arith, rise 0 (suc k) d)

    behind_it : (y : X) (ys : List X) → AllPairs Before (y ∷ ys) → is_it y ≡ true → All (λ z. high z ≡ true) ys
    behind_it y ys rise equal k d lt = grind (arith, rise 0 (suc k) d)

    -- in a list cut in three around a key's run, the key is taken out by taking it out of the run
    pub without_between : (xs run ys : List X) → All (λ z. low z ≡ true) xs → All (λ z. high z ≡ true) ys
        → filter (λ y. not (is_it y)) (xs ++ (run ++ ys)) ≡ xs ++ (filter (λ y. not (is_it y)) run ++ ys)
    without_between xs run ys ahead behind = grind (arith, filter-append, filter_all)

    -- the key, if it is there
    abbrev one : Option X → List X
    one None = []
    one (Some x) = x ∷ []

    -- a list in order is what comes before the key, the key, and what comes behind it
    parts : (xs : List X) → AllPairs Before xs → xs ≡ filter low xs ++ (one (find is_it xs) ++ filter high xs)
    parts [] rise = refl
    parts (y ∷ ys) rise = grind (
      arith,
      parts ys (pairs_tail Before y ys rise),
      behind_it y ys rise,
      behind_rest y ys rise,
      filter_none low ys,
      find_nothing is_it ys,
    )

    -- a list in order without the key is what comes before the key, and what comes behind
    pub absent_parts : (xs : List X) → AllPairs Before xs → find is_it xs ≡ None → xs ≡ filter low xs ++ filter high xs
    absent_parts xs rise absent = grind (arith, parts xs rise)

    -- a list in order that has the key is what comes before the key, the element of the key, and what comes behind
    pub found_parts : (xs : List X) (x : X) → AllPairs Before xs → find is_it xs ≡ Some x → xs ≡ filter low xs ++ x ∷ filter high xs
    found_parts xs x rise found = grind (arith, parts xs rise)

    -- a list that does not have the key is the same list without the key
    pub absent_kept : (xs : List X) → find is_it xs ≡ None → xs ≡ filter (λ y. not (is_it y)) xs
    absent_kept xs absent = grind (arith, filter_all, find_none)

    -- a list in order stays in order with an element of the key at its place
    pub with_rises : (x : X) (xs : List X) → key x ≡ q → AllPairs Before xs → AllPairs Before (filter low xs ++ x ∷ filter high xs)
    with_rises x xs at rise = pairs_with Before low high x xs rise (rw at (filter_passes low xs))
        (rw at (filter_passes high xs))
        (λ k d lt j e le. grind (arith, filter_passes low xs k d lt, filter_passes high xs j e le))

    -- a list in order stays in order without the key
    pub without_rises : (xs : List X) → AllPairs Before xs → AllPairs Before (filter (λ y. not (is_it y)) xs)
    without_rises xs rise = AllPairs-filter Before _ xs rise

-- a list in order that has an element is the list with that element put in at its place
pub with_found : {X : Type 0} {before same : X → X → Bool} (order : IsOrder before same) (x : X) (xs : List X) → AllPairs (λ a b. before a b ≡ true) xs
    → list_any (λ y. same y x) xs ≡ true → xs ≡ filter (λ y. before y x) xs ++ x ∷ filter (before x) xs
with_found {before} {same} order x xs rise has = by_found (find (λ y. same y x) xs)
    (λ none. grind (arith, any_found))
    (λ y found. grind (arith, found_parts order (λ z. z) x xs y rise found, find_passes (λ z. same z x) xs y))
