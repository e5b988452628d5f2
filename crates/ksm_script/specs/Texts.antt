-- The texts of numbers, pages and contents, and what a writer has of a text (own).
use Rattle.std.specs.Prelude.{◌≡◌, ℕ, ◌/◌, ◌%◌, false, List, [], ◌∷◌, ◌++◌, Option}
use Rattle.std.specs.Fmt.{digit_glyph}
use Rattle.std.specs.Int.{w64, to_le_bytes}
use Rattle.std.specs.List.{flat_map}
use Rattle.std.specs.Io.KnownBytes.{Appends}
use Rattle.ksm_base.specs.Values.{fault_number}
use Rattle.ksm_script.specs.declared.refusal.Refusal.{Refusal}
use Rattle.ksm_script.specs.declared.refusal.Refusal.TheVariants.{Book, NoPass, Holding, NotHolding}

-- known bytes grow by a beginning of a text
abbrev pub AppendsPart : Option (List ℕ) → Option (List ℕ) → List ℕ → Type 0
AppendsPart old new text = (part : List ℕ) × (rest : List ℕ) × (part ++ rest ≡ text) × Appends old new part

-- known bytes grow by a text, and by a beginning of the next one
abbrev pub AppendsBroken : Option (List ℕ) → Option (List ℕ) → List ℕ → List ℕ → Type 0
AppendsBroken old new text next =
    (part : List ℕ) × (rest : List ℕ) × (part ++ rest ≡ next) × Appends old new (text ++ part)

-- a byte in two hexadecimal digits, lower case
abbrev pub byte_digits : ℕ → List ℕ
byte_digits byte = digit_glyph false (byte / 16) ∷ digit_glyph false (byte % 16) ∷ []

-- a word of a page: its bytes from the lowest on
abbrev pub word_digits : ℕ → List ℕ
word_digits word = flat_map byte_digits (to_le_bytes w64 word)

-- the number of a refusal
abbrev pub refusal_number : Refusal → ℕ
refusal_number (Book fault) = fault_number fault
refusal_number NoPass = 12
refusal_number Holding = 13
refusal_number NotHolding = 14

-- the content of a page: its bytes in order
abbrev pub content_text : List ℕ → List ℕ
content_text content = flat_map word_digits content
