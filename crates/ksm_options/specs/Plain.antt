-- The plainest words that tell a shape (own).
use Rattle.std.specs.Prelude.{◌≡◌, ◌≢◌, ◌≤◌, slice_index, ⊤, ℕ, true, List, [], ◌∷◌, drop}
use Rattle.std.specs.Str.Parse.{IsNumeral, digits_value}
use Rattle.clap.specs.Words.{Text}
use Rattle.ksm_options.specs.Settings.{Frames, Given, IsOnce, Nodes, flag, has, most_of}

-- a decimal number from 1 to the most, with no zero before it; 48 is the digit 0
abbrev pub IsDecimal : ℕ → Text → Type 0
IsDecimal most text = IsNumeral 10 text × (slice_index text 0 ≢ 48) × (1 ≤ digits_value 10 text)
    × (digits_value 10 text ≤ most)

-- each text is such a number in its setting's range
abbrev pub AllDecimal : List Given → Type 0
AllDecimal [] = ⊤
AllDecimal (g ∷ rest) = IsDecimal (most_of g.0) g.1 × AllDecimal rest

-- each setting as two words, `--NAME` and its text
abbrev pub written : List Given → List Text
written [] = []
written (g ∷ rest) = flag g.0 ∷ g.1 ∷ written rest

-- the words after the program's name are `--nodes N`, `--frames N` and any of the others, each
-- once, in any order
pub record IsWellFormed (words : List Text) (given : List Given) : Type 0 where
  pub words_are : drop 1 words ≡ written given
  pub once : IsOnce given
  pub decimals : AllDecimal given
  pub nodes : has Nodes given ≡ true
  pub frames : has Frames given ≡ true
