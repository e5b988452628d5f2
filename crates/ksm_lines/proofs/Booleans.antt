-- What tests say of their parts.
use Rattle.std.proofs.Common.{◌≡◌, Bool, true, false, not, ◌||◌, cond, Option, Some, None, refl}

-- a value where a test passes, and none where the test fails
abbrev pub chosen : {A : Type 0} → Bool → A → Option A
chosen b n = cond b (Some n) None

-- where a choice gives a value, the test passed and the value is the one under the test
pub is_chosen : {A : Type 0} (b : Bool) (n i : A) → chosen b n ≡ Some i → (b ≡ true) × (i ≡ n)
is_chosen true n i e = (refl, cc)
is_chosen false n i e = absurd cc

-- where a test passes, what it implies does
pub implied : (a b : Bool) → a ≡ true → (not a || b) ≡ true → b ≡ true
implied true b e h = h
implied false b e h = absurd cc
