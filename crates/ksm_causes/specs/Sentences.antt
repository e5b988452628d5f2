-- The sentences that say why a line is bad (own).
use Rattle.std.specs.Prelude.{ℕ, ◌-◌, ◌*◌, ◌/◌, ◌%◌, false, nat_lt, List, [], ◌∷◌, length, drop, take, codes, decimal, slice_index, if◌then◌else◌}
use Rattle.std.specs.Fmt.{digit_glyph}
use Rattle.std.specs.Str.{is_utf8}
use Rattle.std.specs.List.{concat}
use Rattle.ksm_base.specs.declared.page.TheConstants.{PAGE_WORDS}
use Rattle.ksm_lines.specs.Grammar.{words_of}
use Rattle.ksm_lines.specs.declared.part.Part.{Part}
use Rattle.ksm_lines.specs.declared.part.Part.TheVariants as parts
use Rattle.ksm_causes.specs.declared.cause.Cause.{Cause}
use Rattle.ksm_causes.specs.declared.cause.Cause.TheVariants as causes
use Rattle.ksm_causes.specs.declared.cause.Trouble.{Trouble}

abbrev pub part_noun : Part → List ℕ
part_noun parts.Guest = codes "guest"
part_noun parts.Page = codes "page"
part_noun parts.Node = codes "node"
part_noun parts.Place = codes "place"
part_noun parts.Pass = codes "pass"
part_noun parts.Visits = codes "number of visits"
part_noun parts.Value = codes "value"
part_noun parts.Content = codes "content"
part_noun parts.Knob = codes "knob"
part_noun parts.Shown = codes "knob"

-- the largest number that may stand for a guest, a page and so on
abbrev pub most : Part → ℕ
most parts.Guest = 65535
most _ = 4294967295

abbrev pub sentence_of : Cause → List ℕ
sentence_of causes.LongLine = codes "the line is longer than 256 bytes"
sentence_of causes.SpaceBefore = codes "a space before the first word"
sentence_of causes.TwoSpaces = codes "two spaces between words"
sentence_of causes.SpaceAfter = codes "a space after the last word"
sentence_of causes.Tab = codes "a tab, where words are separated by one space"
sentence_of causes.CarriageReturn = codes "a carriage return, where a line ends at a newline alone"
sentence_of causes.OtherByte = codes "a byte that no line has"
sentence_of causes.Comment = codes "a comment, which the language does not have"
sentence_of causes.Capital = codes "a capital letter in a name"
sentence_of causes.UnknownName = codes "no line begins with this word"
sentence_of (causes.Missing part) = concat (codes "the " ∷ part_noun part ∷ codes " is missing" ∷ [])
sentence_of causes.OneWordMore = codes "a word more than the line has"
sentence_of causes.Sign = codes "a number with a sign"
sentence_of causes.LeadingZero = codes "a number with a leading zero"
sentence_of (causes.NotANumber part) = concat (codes "a " ∷ part_noun part ∷ codes " that is not a decimal number" ∷ [])
sentence_of (causes.TooLarge part) = concat (codes "a " ∷ part_noun part ∷ codes " above " ∷ decimal (most part) ∷ [])
sentence_of causes.NotHexadecimal = codes "a byte of the content that is not a hexadecimal digit"
sentence_of causes.ContentLength = concat (codes "content of neither 2 digits nor " ∷ decimal (16 * PAGE_WORDS) ∷ [])
sentence_of causes.UnknownKnob = codes "no knob has this name"
sentence_of causes.UnknownShown = codes "no knob or counter is shown by this name"
sentence_of causes.CounterSet = codes "a counter, which is shown and never set"

-- the first of some words
abbrev pub first_word : List (List ℕ) → List ℕ
first_word [] = []
first_word (word ∷ words) = word

-- bytes that are no text are left out
abbrev pub text_in : List ℕ → List ℕ
text_in bytes = if is_utf8 bytes then bytes else []

-- a long word is cut
abbrev pub shortened : List ℕ → List ℕ
shortened word = if nat_lt 32 (length word) then concat (text_in (take 32 word) ∷ codes ".." ∷ []) else text_in word

abbrev pub quoted_word : List ℕ → List ℕ
quoted_word rest = concat (codes ": " ∷ shortened (first_word (words_of rest)) ∷ [])

-- a byte in two hexadecimal digits
abbrev pub hexadecimal : ℕ → List ℕ
hexadecimal byte = concat (codes "0x" ∷ (digit_glyph false (byte / 16) ∷ digit_glyph false (byte % 16) ∷ []) ∷ [])

-- what is quoted behind a sentence, of the line from the column on
abbrev pub quote_of : Cause → List ℕ → List ℕ
quote_of causes.OtherByte rest = concat (codes ": " ∷ hexadecimal (slice_index rest 0) ∷ [])
quote_of causes.NotHexadecimal rest = concat (codes ": " ∷ text_in (take 1 rest) ∷ [])
quote_of causes.LongLine rest = []
quote_of causes.SpaceBefore rest = []
quote_of causes.TwoSpaces rest = []
quote_of causes.SpaceAfter rest = []
quote_of causes.Tab rest = []
quote_of causes.CarriageReturn rest = []
quote_of causes.Comment rest = []
quote_of (causes.Missing part) rest = []
quote_of _ rest = quoted_word rest

-- what is said of the bad line of a number
abbrev pub bad_line_text : ℕ → List ℕ → Trouble → List ℕ
bad_line_text number line trouble =
    concat (
    codes "line " ∷ decimal number ∷ codes ", column " ∷ decimal trouble.column ∷ codes ": " ∷ sentence_of trouble.cause
    ∷ quote_of trouble.cause (drop (trouble.column - 1) line) ∷ codes "\n" ∷ [])
