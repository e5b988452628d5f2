-- Where a key stands among elements whose keys do not fall. (own)
use Rattle.std.specs.Prelude.{◌≡◌, ℕ, ◌<◌, ◌≤◌, List, AllPairs, length, slice_index_or}
use Rattle.std.specs.List.{AllWithin}

-- the keys do not fall
abbrev pub AreInOrder : {X : Type 0} → (X → ℕ) → List X → Type 0
AreInOrder key_of xs = AllPairs (λ x y. key_of x ≤ key_of y) xs

-- the elements in front of an index come before a key, and the others do not
pub record IsPlace {X : Type 0} (key_of : X → ℕ) (key : ℕ) (xs : List X) (at : ℕ) : Type 0 where
  pub within : at ≤ length xs
  pub ahead : AllWithin (λ x. key_of x < key) xs 0 at
  pub behind : AllWithin (λ x. key ≤ key_of x) xs at (length xs)

-- an element of the key stands at an index
pub record IsHere {X : Type 0} (key_of : X → ℕ) (key : ℕ) (xs : List X) (at : ℕ) : Type 0 where
  pub within : at < length xs
  pub is : (d : X) → key_of (slice_index_or xs at d) ≡ key
