-- Why a line is bad: of its words, read from left to right, the first that can't stand there (own).
use Rattle.std.specs.Prelude.{ℕ, ◌+◌, ◌≤◌, Bool, not, ◌&&◌, ◌||◌, ◌==◌, nat_lt, List, [], ◌∷◌, length, drop, Option, Some, None, option_map, map, position, slice_index, if◌then◌else◌}
use Rattle.std.specs.Char.{is_ascii_digit, is_ascii_graphic, is_ascii_hexdigit, to_ascii_lowercase}
use Rattle.std.specs.List.{list_all}
use Rattle.std.specs.Option.{is_some, option_or}
use Rattle.ksm_lines.specs.declared.line.Line.{Line}
use Rattle.ksm_lines.specs.declared.part.Part.{Part}
use Rattle.ksm_lines.specs.declared.part.Part.TheVariants.{Visits, Content, Knob, Shown}
use Rattle.ksm_lines.specs.Grammar.{Writes, kind_of, words_of}
use Rattle.ksm_lines.specs.Reading.{ended, line_at, parts_in, read}
use Rattle.ksm_causes.specs.declared.cause.Cause.{Cause}
use Rattle.ksm_causes.specs.declared.cause.Cause.TheVariants as causes
use Rattle.ksm_causes.specs.declared.cause.Trouble.{Trouble}

-- a line of the language: it has at most 256 bytes, and they write one of its forms
abbrev pub IsGood : List ℕ → Type 0
IsGood line = (length line ≤ 256) × (form : Line) × Writes form line

abbrev pub at : ℕ → Cause → Trouble
at column cause = record { column = column; cause = cause }

-- ---- a word, at the column of its first byte

abbrev pub strange_cause : ℕ → Cause
strange_cause byte = if byte == 9 then causes.Tab else if byte == 13 then causes.CarriageReturn else causes.OtherByte

-- the first byte that stands in no word of any line
abbrev pub strange_trouble : ℕ → List ℕ → Option Trouble
strange_trouble column word =
    option_map (λ i. at (column + i) (strange_cause (slice_index word i)))
    (position (λ byte. not (is_ascii_graphic byte)) word)

-- the language reads the word as this part
abbrev pub is_read : Part → List ℕ → Bool
is_read part word = is_some (read (kind_of part) word)

abbrev pub are_digits : List ℕ → Bool
are_digits word = list_all is_ascii_digit word && nat_lt 0 (length word)

abbrev pub is_signed : List ℕ → Bool
is_signed word = (slice_index word 0 == 43 || slice_index word 0 == 45) && are_digits (drop 1 word)

abbrev pub has_leading_zero : List ℕ → Bool
has_leading_zero word = slice_index word 0 == 48 && nat_lt 1 (length word)

-- Why a word that is not read is none: what it is not, then its form, then its range.
abbrev pub number_cause : Part → List ℕ → Cause
number_cause part word =
    if is_signed word then causes.Sign
    else if not (are_digits word) then causes.NotANumber part
    else if has_leading_zero word then causes.LeadingZero
    else causes.TooLarge part

-- the first byte that is no digit, or else the length
abbrev pub content_trouble : ℕ → Option ℕ → Trouble
content_trouble column None = at column causes.ContentLength
content_trouble column (Some i) = at (column + i) causes.NotHexadecimal

abbrev pub lowered : List ℕ → List ℕ
lowered word = map to_ascii_lowercase word

abbrev pub knob_cause : List ℕ → Cause
knob_cause word =
    if is_read Shown word then causes.CounterSet
    else if is_read Knob (lowered word) then causes.Capital
    else causes.UnknownKnob

abbrev pub shown_cause : List ℕ → Cause
shown_cause word = if is_read Shown (lowered word) then causes.Capital else causes.UnknownShown

-- why a word of printable bytes that is not read as this part is none
abbrev pub part_trouble : Part → ℕ → List ℕ → Trouble
part_trouble Content column word = content_trouble column (position (λ byte. not (is_ascii_hexdigit byte)) word)
part_trouble Knob column word = at column (knob_cause word)
part_trouble Shown column word = at column (shown_cause word)
part_trouble part column word = at column (number_cause part word)

-- why a word is not this part: a byte that no line has comes first
abbrev pub word_trouble : Part → ℕ → List ℕ → Option Trouble
word_trouble part column word =
    if is_read part word then None
    else option_or (strange_trouble column word) (Some (part_trouble part column word))

-- ---- a line; *end* is the column of the byte behind the words that were read

-- a number of visits that is the last part may be left out
abbrev pub missing_trouble : ℕ → List Part → Option Trouble
missing_trouble end [] = None
missing_trouble end (Visits ∷ []) = None
missing_trouble end (part ∷ parts) = Some (at end (causes.Missing part))

abbrev pub is_empty : List ℕ → Bool
is_empty word = length word == 0

-- a space where a word should begin, with these words behind it
abbrev pub space_trouble : ℕ → List (List ℕ) → Trouble
space_trouble end words = if list_all is_empty words then at end causes.SpaceAfter else at (end + 1) causes.TwoSpaces

-- words that should be these parts
abbrev pub parts_trouble : ℕ → List Part → List (List ℕ) → Option Trouble
parts_trouble end parts [] = missing_trouble end parts
parts_trouble end [] (word ∷ words) =
    if is_empty word then Some (space_trouble end words)
    else option_or (strange_trouble (end + 1) word) (Some (at (end + 1) causes.OneWordMore))
parts_trouble end (part ∷ parts) (word ∷ words) =
    if is_empty word then Some (space_trouble end words)
    else option_or (word_trouble part (end + 1) word) (parts_trouble (end + 1 + length word) parts words)

-- a first word that no line begins with
abbrev pub name_cause : List ℕ → Cause
name_cause name =
    if slice_index name 0 == 35 then causes.Comment
    else if is_some (parts_in (lowered name)) then causes.Capital
    else causes.UnknownName

abbrev pub named_trouble : Option (List Part) → List ℕ → List (List ℕ) → Option Trouble
named_trouble (Some parts) name words = parts_trouble (length name + 1) parts words
named_trouble None name words = option_or (strange_trouble 1 name) (Some (at 1 (name_cause name)))

-- a line of no bytes is good; with words behind a first one of no bytes it begins with a space
abbrev pub words_trouble : List (List ℕ) → Option Trouble
words_trouble [] = None
words_trouble (name ∷ words) =
    if not (is_empty name) then named_trouble (parts_in name) name words
    else if is_some (ended words) then None
    else Some (at 1 causes.SpaceBefore)

-- a line that is too long is that before all else, and one that the language reads is good
abbrev pub trouble_of : List ℕ → Option Trouble
trouble_of line =
    if nat_lt 256 (length line) then Some (at 257 causes.LongLine)
    else if is_some (line_at (words_of line)) then None
    else words_trouble (words_of line)
