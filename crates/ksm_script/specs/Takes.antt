-- What is taken of a line at once (own).
use Rattle.std.specs.Prelude.{◌≡◌, ℕ, ◌≤◌, List, [], ◌∷◌, ◌++◌, length, Option, Some, None}
use Rattle.std.specs.Io.KnownBytes.{Consumes}
use Rattle.ksm_script.specs.declared.input.LineEnd.{LineEnd}
use Rattle.ksm_lines.specs.declared.line.Line.{Line}
use Rattle.ksm_lines.specs.Grammar.{Writes}
use Rattle.ksm_script.specs.Input.{EndsAs, IsPlain}

-- some bytes are added to a line, which goes on, or which they end
abbrev pub Extends : Option LineEnd → List ℕ → List ℕ → List ℕ → Type 0
Extends None before line bytes = (line ≡ before ++ bytes) × (length line ≤ 256)
Extends (Some end) before line bytes = EndsAs end line (before ++ bytes)

-- these bytes are read, in such a way
abbrev pub Takes : Option LineEnd → List ℕ → List ℕ → (List ℕ → Type 0) → Type 0
Takes end before line Took = (bytes : List ℕ) × Extends end before line bytes × Took bytes

-- a whole line is read, in such a way, that writes this form
abbrev pub TakesForm : Line → (List ℕ → Type 0) → Type 0
TakesForm form Took =
    (line : List ℕ) × Writes form line × IsPlain line × (length line ≤ 256) × Took (line ++ 10 ∷ [])

-- bytes are taken that were at hand
abbrev pub Took : {R : Type 0} → (R → Option (List ℕ)) → (R → R → List ℕ → Type 0) → R → R → List ℕ → Type 0
Took remaining takes old new bytes = Consumes (remaining old) (remaining new) bytes × takes old new bytes

-- bytes are taken that were waited for
abbrev pub Came : {R W : Type 0} → (R → Option (List ℕ)) → (W → R → R → Option (List ℕ) → Type 0) → W → R → R → List ℕ
    → Type 0
Came remaining waits writer old new bytes =
    Consumes (remaining old) (remaining new) bytes × waits writer old new (Some bytes)
