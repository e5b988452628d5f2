-- The line that a run read last (own).
use Rattle.std.specs.Prelude.{◌≢◌, ⊤, ℕ, List, [], ◌++◌, Option, Result, Ok, Err}
use Rattle.std.specs.Io.KnownBytes.{Consumes}
use Rattle.ksm_script.specs.declared.script.End.{End}
use Rattle.ksm_script.specs.declared.script.End.TheVariants.{AllRead, BadLine}
use Rattle.ksm_script.specs.declared.script.RunFault.{RunFault}
use Rattle.ksm_script.specs.declared.input.LineEnd.{LineEnd}
use Rattle.ksm_script.specs.Input.{EndsAs, IsPlain}
use Rattle.ksm_script.specs.Script.{IsBad}

-- at a bad line it is that line: what was read ends with its bytes
abbrev pub EndsBad : Option (List ℕ) → Option (List ℕ) → List ℕ → Result End RunFault → Type 0
EndsBad old new line (Ok (BadLine number)) =
    (before : List ℕ) × (bytes : List ℕ) × (end : LineEnd) × Consumes old new (before ++ bytes) × IsPlain line
    × EndsAs end line bytes × IsBad end line new
EndsBad old new line (Ok AllRead) = ⊤
EndsBad old new line (Err fault) = ⊤

-- what was read ends within a line: some bytes stand behind its last newline
abbrev pub EndsOpen : Option (List ℕ) → Option (List ℕ) → Type 0
EndsOpen old new = (before : List ℕ) × (line : List ℕ) × Consumes old new (before ++ line) × IsPlain line × (line ≢ [])
