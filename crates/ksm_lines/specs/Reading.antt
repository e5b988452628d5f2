-- Reading the words of a line from left to right.
use Rattle.std.specs.Prelude.{◌≡◌, ℕ, ◌+◌, ◌^◌, Bool, not, ◌&&◌, ◌||◌, ◌==◌, nat_lt, List, [], ◌∷◌, length, Option, Some, None, option_map, Result, Ok, Err, slice_index, if◌then◌else◌}
use Rattle.std.specs.Char.{is_ascii_digit}
use Rattle.std.specs.List.{list_all}
use Rattle.std.specs.Str.Parse.{digits_value}
use denote.Ref.{Bor}
use Rattle.ksm_base.specs.declared.page.GuestPage.{GuestPage}
use Rattle.ksm_lines.specs.declared.line.LineFault.{LineFault}
use Rattle.ksm_lines.specs.Content.{content_of}
use Rattle.ksm_lines.specs.declared.line.Line.{Line}
use Rattle.ksm_lines.specs.declared.part.Part.{Part}
use Rattle.ksm_lines.specs.Grammar.{words_of, Kind, guest, number, visits, content, knob, shown, kind_of, Told, left_out, Values, Form, made, form_in}
use Rattle.ksm_lines.specs.Knobs.{knob_of, shown_of}

-- the words of what is left of a line, if anything is
abbrev pub words_left : Option (Bor (List ℕ)) → List (List ℕ)
words_left None = []
words_left (Some text) = words_of text.now

-- how many bytes are left, the space before them included
abbrev pub left_length : Option (Bor (List ℕ)) → ℕ
left_length None = 0
left_length (Some text) = length text.now + 1

infixl 10 ◌>>=◌
abbrev pub ◌>>=◌ : {A B : Type 0} → Option A → (A → Option B) → Option B
None >>= f = None
(Some x) >>= f = f x

-- a call returned what reading gives
abbrev pub Gives : {A : Type 0} → Result A LineFault → Option A → Type 0
Gives (Ok x) read = read ≡ Some x
Gives (Err e) read = read ≡ None

-- the same, where the last word was read
abbrev pub GivesLast : {A : Type 0} → Result A LineFault → Option (A × Unit {0}) → Type 0
GivesLast (Ok x) read = read ≡ Some (x, tt)
GivesLast (Err e) read = read ≡ None

-- the same, of the two last words, which are a page
abbrev pub GivesPage : Result GuestPage LineFault → Option (ℕ × (ℕ × Unit {0})) → Type 0
GivesPage (Ok page) read = read ≡ Some (page.guest, (page.page, tt))
GivesPage (Err e) read = read ≡ None

-- a call returned the value that reading gives, and the words behind it
abbrev pub GivesField : {A : Type 0} → Result (A × Option (Bor (List ℕ))) LineFault → Option (A × List (List ℕ))
    → Type 0
GivesField (Ok x) read = read ≡ Some (x.0, words_left x.1)
GivesField (Err e) read = read ≡ None

-- decimal digits, the first no zero but in `0`
abbrev pub is_plain : List ℕ → Bool
is_plain word =
    list_all is_ascii_digit word && nat_lt 0 (length word) && (not (slice_index word 0 == 48) || length word == 1)

abbrev pub number_below : ℕ → List ℕ → Option ℕ
number_below limit word =
    if is_plain word && nat_lt (digits_value 10 word) limit then Some (digits_value 10 word) else None

-- what a word of a kind tells, if it is one
abbrev pub read : (kind : Kind) → List ℕ → Option (Told kind)
read guest word = number_below (2 ^ 16) word
read number word = number_below (2 ^ 32) word
read visits word = do
  n ← number_below (2 ^ 32) word
  Some (Some n)
read content word = content_of word
read knob word = knob_of word
read shown word = shown_of word

-- what the next word of a kind tells, and the words behind it
abbrev pub field : (kind : Kind) → List (List ℕ) → Option (Told kind × List (List ℕ))
field kind [] = do
  told ← left_out kind
  Some (told, [])
field kind (word ∷ words) = do
  told ← read kind word
  Some (told, words)

-- no word is left
abbrev pub ended : List (List ℕ) → Option (Unit {0})
ended [] = Some tt
ended (word ∷ words) = None

-- the values of some parts, and no more words
abbrev pub values : (parts : List Part) → List (List ℕ) → Option (Values parts)
values [] words = ended words
values (part ∷ parts) words = do
  next ← field (kind_of part) words
  later ← values parts next.1
  Some (next.0, later)

-- the line of a form
abbrev pub line_of : Form → List (List ℕ) → Option Line
line_of form words = do
  told ← values form.1 words
  Some (made form.1 form.2 told)

-- the line of a name and the words behind it
abbrev pub named_line : List ℕ → List (List ℕ) → Option Line
named_line name words = do
  form ← form_in name
  line_of form words

-- the line of some words
abbrev pub line_at : List (List ℕ) → Option Line
line_at [] = None
line_at (name ∷ words) = named_line name words

-- the parts behind a name
abbrev pub parts_in : List ℕ → Option (List Part)
parts_in name = option_map (λ form. form.1) (form_in name)

-- a call returned these parts
abbrev pub parts_given : Option (Bor (List Part)) → Option (List Part)
parts_given None = None
parts_given (Some parts) = Some parts.now
