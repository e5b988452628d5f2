-- Numbers as guesses, each in a slot. (own)
use Rattle.std.specs.Prelude.{[], get_or, List, replicate, set, ℕ, ◌∷◌, ◌≡◌, ◌⊎◌}
use Rattle.ksm_tree.specs.Terms.{NO_NUMBER}

-- the number in a slot, or what is told of one in which no number is
abbrev pub guess_at : List ℕ → ℕ → ℕ
guess_at numbers slot = get_or numbers slot NO_NUMBER

-- the first number was put into one of so many slots; where memory was refused there are none yet
abbrev pub IsBegun : ℕ → ℕ → ℕ → List ℕ → Type 0
IsBegun slots slot number numbers = (numbers ≡ []) ⊎ (numbers ≡ set (replicate slots NO_NUMBER) slot number)

-- a number was put into a slot, which is the first one where there were no slots before
abbrev pub IsPut : ℕ → ℕ → ℕ → List ℕ → List ℕ → Type 0
IsPut slots slot number [] now = IsBegun slots slot number now
IsPut slots slot number (n ∷ ns) now = now ≡ set (n ∷ ns) slot number
