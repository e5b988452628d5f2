-- A list that is made of another, element by element: what is searched, kept and counted in it.
use Rattle.ksm_tree.proofs.Names.{[], All, arith, Bool, count_by, false, filter, find, get_or, if◌then◌else◌, length-filter, length-map, List, map, map-id, option_map, refl, suc, ◌∙◌, ◌∷◌, ◌≡◌}
pub use Rattle.ksm_rmap.proofs.Keys.{filter_mapped, pairs_mapped}

-- where h is f after g at each element, a map by g and then by f makes the list that h makes
pub map_mapped : {X Y Z : Type 0} (f : Y → Z) (g : X → Y) (h : X → Z) (xs : List X) → All (λ x. f (g x) ≡ h x) xs → map f (map g xs) ≡ map h xs
map_mapped f g h [] same = refl
map_mapped f g h (x ∷ xs) same = grind (arith, same 0 x, map_mapped f g h xs (λ k d lt. same (suc k) d (omega arith)))

-- two changes that agree at each element of a list make one list of it
pub map_alike : {X Y : Type 0} (f g : X → Y) (xs : List X) → All (λ x. f x ≡ g x) xs → map f xs ≡ map g xs
map_alike f g xs same = grind (arith, map_mapped f (λ x. x) g xs same, map-id)

module _ {X Y : Type 0} (g : X → Y) (p : Y → Bool) (q : X → Bool) where
  -- where two tests agree across a map, a search in the mapped list finds the image of what is found before
  pub find_mapped : (xs : List X) → All (λ x. p (g x) ≡ q x) xs → find p (map g xs) ≡ option_map g (find q xs)
  find_mapped [] same = refl
  find_mapped (x ∷ xs) same = grind (arith, same 0 x, find_mapped xs (λ k d lt. same (suc k) d (omega arith)))

  -- where two tests agree across a map, as many pass in the mapped list as before
  pub count_mapped : (xs : List X) → All (λ x. p (g x) ≡ q x) xs → count_by p (map g xs) ≡ count_by q xs
  count_mapped xs same =
      grind (arith, filter_mapped g p q xs same, length-filter p (map g xs), length-filter q xs, length-map)

-- two tests that agree at each element of a list find the same element
pub find_alike : {X : Type 0} (p q : X → Bool) (xs : List X) → All (λ x. p x ≡ q x) xs → find p xs ≡ find q xs
find_alike p q xs same = grind (arith, find_mapped (λ x. x) p q xs same, map-id)

-- two tests that agree at each element of a list count alike
pub count_alike : {X : Type 0} (p q : X → Bool) (xs : List X) → All (λ x. p x ≡ q x) xs → count_by p xs ≡ count_by q xs
count_alike p q xs same = grind (arith, count_mapped (λ x. x) p q xs same, map-id)

-- where no element passes a test, a change of those that pass changes nothing
pub change_none : {X : Type 0} (test : X → Bool) (f : X → X) (xs : List X) → All (λ x. test x ≡ false) xs
    → map (λ x. if test x then f x else x) xs ≡ xs
change_none test f xs none =
    map_alike _ _ xs (λ k d lt. (λ i. if none k d lt i then f (get_or xs k d) else get_or xs k d))
    ∙ map-id xs

-- a choice by what a map makes may come before the choice of elements, or after the map
pub chosen : {X Y : Type 0} (f : X → Y) (test : X → Bool) (by : Y → Bool) (xs : List X)
    → map f (filter test (filter (λ x. by (f x)) xs)) ≡ filter by (map f (filter test xs))
chosen f test by [] = refl
chosen f test by (x ∷ xs) = grind (arith, chosen f test by xs)
