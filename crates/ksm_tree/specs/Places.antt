-- Places in ascending order, each once, and those at which a count passes a test. (own)
use Rattle.std.specs.Prelude.{[], Bool, filter, if◌then◌else◌, length, List, nat_le, nat_lt, not, suc, ℕ, ◌&&◌, ◌++◌, ◌==◌, ◌∷◌, ◌≡◌, ◌≤◌}
use Rattle.ksm_tree.specs.Terms.{SmallVec}

-- the places with this one at its place in the order, whether it was there or not
abbrev pub with_place : ℕ → List ℕ → List ℕ
with_place place places = filter (λ p. nat_lt p place) places ++ place ∷ filter (λ p. nat_lt place p) places

abbrev pub without : ℕ → List ℕ → List ℕ
without place places = filter (λ p. not (p == place)) places

-- a dup with so many items takes one more: it has an item, and fewer than the limit
abbrev pub is_open : ℕ → ℕ → Bool
is_open limit count = nat_le 1 count && nat_lt count limit

-- the places from k on at which a test is passed
abbrev pub places_where : {X : Type 0} → (X → Bool) → ℕ → List X → List ℕ
places_where test k [] = []
places_where test k (x ∷ xs) = if test x then k ∷ places_where test (suc k) xs else places_where test (suc k) xs

-- the open places are known, with room for all if they are kept: by the limit 0 none is open
pub record AreCounts (limit : ℕ) (counts : List ℕ) (places : SmallVec ℕ) : Type 0 where
  pub opens : places.items ≡ places_where (is_open limit) 0 counts
  pub room : 1 ≤ limit → length counts ≤ places.capacity
