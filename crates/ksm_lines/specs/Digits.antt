-- Digits that are read from left to right.
use Rattle.std.specs.Prelude.{◌≡◌, ℕ, ◌^◌, ◌<◌, true, take, List}
use Rattle.std.specs.Char.{is_ascii_digit}
use Rattle.std.specs.List.{list_all}
use Rattle.std.specs.Str.Parse.{digits_value}

-- the first digits of a text write a number of 32 bits
abbrev pub IsReadTo : ℕ → List ℕ → ℕ → Type 0
IsReadTo i text value =
    (list_all is_ascii_digit (take i text) ≡ true) × (value ≡ digits_value 10 (take i text)) × (value < 2 ^ 32)
