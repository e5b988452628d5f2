-- The places at which a test is passed: what a change at one place does to them.
use Rattle.ksm_tree.proofs.Names.{[], add-one, All, arith, Bool, false, filter_all, filter_none, get_or, get_or_default, if◌then◌else◌, is_open, length, length-set, length-take, List, nat_lt}
use Rattle.ksm_tree.proofs.Names.{nat_tests, places_where, refl, set, suc, take, with_place, without, zero, ℕ, ◌+◌, ◌<◌, ◌∷◌, ◌≡◌, ◌≤◌}

module _ {X : Type 0} (test : X → Bool) where
  where_above : (k : ℕ) (xs : List X) → All (λ p. k ≤ p) (places_where test k xs)
  where_above k [] i d lt = absurd (omega arith)
  where_above k (y ∷ xs) zero d lt = grind (arith, where_above (suc k) xs)
  where_above k (y ∷ xs) (suc i) d lt = grind (arith, where_above (suc k) xs)

  -- the places of elements that pass have that of an element that comes to pass, and not that of one that comes to fail
  pub where_set : (k p i : ℕ) (xs : List X) (x : X) → p ≡ k + i → i < length xs → places_where test k (set xs i x) ≡ (if test x then with_place p (places_where test k xs) else without p (places_where test k xs))
  where_set k p i [] x is within = absurd (omega arith)
  where_set k p zero (y ∷ xs) x is within =
      let above = where_above (suc k) xs in
      let none = filter_none (λ q. nat_lt q p) (places_where test (suc k) xs) (λ i d lt. grind (arith, above i d lt)) in
      let each = filter_all (λ q. nat_lt p q) (places_where test (suc k) xs) (λ i d lt. grind (arith, above i d lt)) in
      grind (arith, none, filter_all)
  where_set k p (suc i) (y ∷ xs) x is within = grind (arith, where_set (suc k) p i xs x (omega arith) (omega arith))

  -- the places of elements that pass stay where an element passes as it did
  pub where_same : (d : X) (k i : ℕ) (xs : List X) (x : X) → test x ≡ test (get_or xs i d) → places_where test k (set xs i x) ≡ places_where test k xs
  where_same d k i [] x same = refl
  where_same d k zero (y ∷ xs) x same = rw same refl
  where_same d k (suc i) (y ∷ xs) x same = grind (arith, where_same d (suc k) i xs x same)

  pub where_short : (k : ℕ) (xs : List X) → length (places_where test k xs) ≤ length xs
  where_short k [] = omega arith
  where_short k (y ∷ xs) = grind (arith, where_short (suc k) xs)

  -- beside an element that fails there is room for one more place
  pub where_room : (d : X) (k i : ℕ) (xs : List X) → i < length xs → test (get_or xs i d) ≡ false → length (places_where test k xs) + 1 ≤ length xs
  where_room d k i [] within fails = absurd (omega arith)
  where_room d k zero (y ∷ xs) within fails = grind (arith, where_short (suc k) xs)
  where_room d k (suc i) (y ∷ xs) within fails = grind (arith, where_room d (suc k) i xs (omega arith) fails)

  -- where the element at i passes, its place comes last in the places of the first i + 1
  pub where_next : (d : X) (k p i : ℕ) (xs : List X) → p ≡ k + i → i < length xs
      → places_where test k (take (i + 1) xs) ≡ (if test (get_or xs i d) then with_place p (places_where test k (take i xs)) else places_where test k (take i xs))
  where_next d k p i [] is within = absurd (omega arith)
  where_next d k p zero (y ∷ xs) is within = grind arith
  where_next d k p (suc i) (y ∷ xs) is within =
      grind (arith, nat_tests, add-one i, add-one (suc i), where_next d (suc k) p i xs (omega arith) (omega arith))

-- by the limit 0 no place is open
pub none_kept : (k : ℕ) (counts : List ℕ) → places_where (is_open 0) k counts ≡ []
none_kept k [] = refl
none_kept k (n ∷ counts) = grind (arith, none_kept (suc k) counts)

-- the places that pass, as one element changes, and among the first elements
pub ruleset steps = (get_or_default, length-set, length-take, none_kept, where_room, where_same, where_set, where_short)
