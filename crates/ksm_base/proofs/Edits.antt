-- Lists: what a filter, a change or one element more does to a search, a count and an order.
use Rattle.std.proofs.Common.{◌≡◌, ◌+◌, ◌<◌, ◌≤◌, Bool, true, false, List, [], ◌∷◌, ◌++◌, map, Some, None, refl, arith}
use Rattle.std.specs.Prelude.{◌||◌, All, filter, find, count_by, if◌then◌else◌}
use Rattle.std.proofs.lemmas.List.Elements.{All-cons, All-tail}
use Rattle.std.proofs.lemmas.List.Sums.{sum_by-cons, sum_by-append}

-- one element more is counted if it passes
pub count_more : {X : Type 0} (p : X → Bool) (x : X) (xs : List X)
    → count_by p (x ∷ xs) ≡ (if p x then 1 else 0) + count_by p xs
count_more p x xs = sum_by-cons (λ y. if p y then 1 else 0) x xs

-- what is counted in two lists one behind the other is the sum of both counts
pub count-append : {X : Type 0} (p : X → Bool) (xs ys : List X) → count_by p (xs ++ ys) ≡ count_by p xs + count_by p ys
count-append p xs ys = sum_by-append (λ x. if p x then 1 else 0) xs ys

module _ {X : Type 0} (p : X → Bool) where
  -- what holds of each element of a list holds of what a search finds there
  pub find_all : (P : X → Type 0) (xs : List X) (x : X) → find p xs ≡ Some x → All P xs → P x
  find_all P [] x found all = cc
  find_all P (y ∷ ys) x found all = grind (arith, all 0 y, find_all P ys x, All-tail P y ys all)

  -- what a search finds passes its test
  pub find_passes : (xs : List X) (x : X) → find p xs ≡ Some x → p x ≡ true
  find_passes [] x found = cc
  find_passes (y ∷ ys) x found = grind (arith, find_passes ys x)

  -- where a search finds nothing, every element fails the test
  pub find_none : (xs : List X) → find p xs ≡ None → All (λ x. p x ≡ false) xs
  find_none [] none = λ k d lt. absurd (omega arith)
  find_none (y ∷ ys) none = All-cons (λ x. p x ≡ false) y ys (grind arith) (find_none ys (grind arith))

  -- where every element fails the test, a search finds nothing
  pub find_nothing : (xs : List X) → All (λ x. p x ≡ false) xs → find p xs ≡ None
  find_nothing [] none = refl
  find_nothing (y ∷ ys) none = grind (arith, none 0 y, find_nothing ys (All-tail (λ x. p x ≡ false) y ys none))

  -- what a search finds is found among those that pass another test, where what is found passes that test
  pub find_filter : (q : X → Bool) (xs : List X) (x : X) → find p xs ≡ Some x → q x ≡ true
      → find p (filter q xs) ≡ Some x
  find_filter q [] x found keeps = cc
  find_filter q (y ∷ ys) x found keeps = grind (arith, find_filter q ys x)

  -- a search finds the same whether an element that fails its test stands in the list or not
  pub find_over : (xs ys : List X) (y : X) → p y ≡ false → find p (xs ++ y ∷ ys) ≡ find p (xs ++ ys)
  find_over [] ys y fails = grind arith
  find_over (x ∷ xs) ys y fails = grind (arith, find_over xs ys y fails)

  -- a filter leaves at most as many elements that pass a test
  pub count_filter_le : (q : X → Bool) (xs : List X) → count_by p (filter q xs) ≤ count_by p xs
  count_filter_le q [] = omega arith
  count_filter_le q (x ∷ xs) = grind (arith, count_more, count_filter_le q xs)

  -- two filters that no element passes both count together no more than the whole list
  pub count_filters_le : (q s : X → Bool) (xs : List X) → All (λ x. q x ≡ true → s x ≡ false) xs
      → count_by p (filter q xs) + count_by p (filter s xs) ≤ count_by p xs
  count_filters_le q s [] apart = omega arith
  count_filters_le q s (x ∷ xs) apart =
      grind (arith, count_more, apart 0 x, count_filters_le q s xs (All-tail (λ y. q y ≡ true → s y ≡ false) x xs apart))

  -- a change after which no element passes that failed before counts no more
  pub count_map_le : (f : X → X) (xs : List X) → All (λ x. p (f x) ≡ true → p x ≡ true) xs
      → count_by p (map f xs) ≤ count_by p xs
  count_map_le f [] less = omega arith
  count_map_le f (x ∷ xs) less =
      grind (arith, count_more, less 0 x, count_map_le f xs (All-tail (λ y. p (f y) ≡ true → p y ≡ true) x xs less))

  -- a change of those that pass a test raises a count by at most as many as pass
  pub count_change_le : (test : X → Bool) (f : X → X) (xs : List X)
      → count_by p (map (λ x. if test x then f x else x) xs) ≤ count_by p xs + count_by test xs
  count_change_le test f [] = omega arith
  count_change_le test f (x ∷ xs) = grind (arith, count_more, count_change_le test f xs)

  -- where every element fails the test, the count is 0
  pub count_none : (xs : List X) → All (λ x. p x ≡ false) xs → count_by p xs ≡ 0
  count_none [] none = refl
  count_none (x ∷ xs) none = grind (arith, count_more, none 0 x, count_none xs (All-tail (λ y. p y ≡ false) x xs none))

  -- where the count is 0, every element fails the test
  pub none_counted : (xs : List X) → count_by p xs ≡ 0 → All (λ x. p x ≡ false) xs
  none_counted [] none = λ k d lt. absurd (omega arith)
  none_counted (x ∷ xs) none =
      All-cons (λ y. p y ≡ false) x xs (grind (arith, count_more)) (none_counted xs (grind (arith, count_more)))

  -- the count of those that pass one of two tests is at most the sum of both counts
  pub count_either_le : (q : X → Bool) (xs : List X) → count_by (λ x. p x || q x) xs ≤ count_by p xs + count_by q xs
  count_either_le q [] = omega arith
  count_either_le q (x ∷ xs) = grind (arith, count_more, count_more (λ y. p y || q y) x xs, count_either_le q xs)

  -- where an element passes, the count is above 0
  pub counts_one : (xs : List X) → All (λ x. p x ≡ true → 0 < count_by p xs) xs
  counts_one [] = λ k d lt. absurd (omega arith)
  counts_one (x ∷ xs) =
      All-cons (λ y. p y ≡ true → 0 < count_by p (x ∷ xs)) x xs (λ passes. grind (arith, count_more))
      (λ k d lt passes. grind (arith, count_more, counts_one xs k d lt passes))
