-- The lines of an input (own).
use Rattle.std.specs.Prelude.{◌≡◌, ◌≢◌, ℕ, ◌≤◌, All, List, [], ◌∷◌, ◌++◌, length}
use Rattle.ksm_script.specs.declared.input.LineEnd.{LineEnd}
use Rattle.ksm_script.specs.declared.input.LineEnd.TheVariants.{Newline, Input, TooLong}

-- no byte of a line is a newline
abbrev pub IsPlain : List ℕ → Type 0
IsPlain line = All (λ byte. byte ≢ 10) line

-- the bytes that are read of a line, by how it ended: of one that is too long the first 257
abbrev pub EndsAs : LineEnd → List ℕ → List ℕ → Type 0
EndsAs Newline line bytes = (bytes ≡ line ++ 10 ∷ []) × (length line ≤ 256)
EndsAs Input line bytes = (bytes ≡ line) × (length line ≤ 256)
EndsAs TooLong line bytes = (bytes ≡ line) × (length line ≡ 257)
