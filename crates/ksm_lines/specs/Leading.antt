-- Lines at the front of a text that has more behind them (own).
use Rattle.std.specs.Prelude.{◌≡◌, ◌≢◌, ℕ, Bool, ◌||◌, All, List, ◌∷◌, ◌++◌, bytes_eq, codes, take}
use Rattle.ksm_lines.specs.declared.line.Line.{Line}
use Rattle.ksm_lines.specs.Grammar.{Writes}

-- a text is this line, its newline, and the rest
abbrev pub BeginsWith : Line → List ℕ → List ℕ → Type 0
BeginsWith form text rest =
    (line : List ℕ) × Writes form line × All (λ byte. byte ≢ 10) line × (text ≡ line ++ 10 ∷ rest)

-- the first four bytes of a text are those of the name of a form with a content
abbrev pub names_content : List ℕ → Bool
names_content text =
    let front = take 4 text in
    bytes_eq front (codes "put ") || bytes_eq front (codes "reg ") || bytes_eq front (codes "equa")
