-- A line without a trouble is good.
use Rattle.std.proofs.Common.{◌≡◌, ℕ, ◌+◌, Bool, true, false, cond, List, [], ◌∷◌, length, Option, Some, None, option_map, refl, sym, subst, ap, not, arith}
use Rattle.std.proofs.lemmas.Bool.{ne_eqb}
use Rattle.std.specs.Option.{is_some, option_or}
use Rattle.ksm_lines.specs.declared.line.Line.{Line}
use Rattle.ksm_lines.specs.declared.part.Part.{Part}
use Rattle.ksm_lines.specs.declared.part.Part.TheVariants.{Guest, Page, Node, Place, Pass, Visits, Value, Content, Knob, Shown}
use Rattle.ksm_lines.specs.declared.line.Line.TheVariants as lines
use Rattle.ksm_lines.specs.Grammar.{Form, form_in, IsLine, kind_of, made, Values, words_of, Writes}
use Rattle.ksm_lines.specs.Reading.{◌>>=◌, line_at, line_of, read, values}
use Rattle.ksm_lines.proofs.Lines.{line_takes}
use Rattle.ksm_lines.proofs.Words.{split_part}
use Rattle.ksm_causes.specs.declared.cause.Trouble.{Trouble}
use Rattle.ksm_causes.specs.Troubles.{is_empty, is_read, missing_trouble, named_trouble, parts_trouble, words_trouble}

-- there is no trouble
abbrev IsNone : Option Trouble → Type 0
IsNone trouble = let none : Option Trouble = None in trouble ≡ none

-- something is there
abbrev IsThere : {A : Type 0} → Option A → Type 0
IsThere o = is_some o ≡ true

some_last : (o : Option Trouble) (last : Trouble) → IsNone (option_or o (Some last)) → ⊥
some_last None last e = absurd cc
some_last (Some trouble) last e = absurd cc

-- where a word should stand and none has a trouble, the word has bytes
full : (empty : Bool) (space : Trouble) (other : Option Trouble) → IsNone (cond empty (Some space) other) → IsNone other
full true space other e = absurd cc
full false space other e = e

-- a word without a trouble is read, and the words behind it have none
read_first : (read : Bool) (strange : Option Trouble) (other : Trouble) (later : Option Trouble) → IsNone (option_or (cond read None (option_or strange (Some other))) later)
    → (read ≡ true) × IsNone later
read_first true strange other later e = (refl, e)
read_first false None other later e = absurd cc
read_first false (Some trouble) other later e = absurd cc

-- parts that may be missing have values without a word
none_end : (end : ℕ) (parts : List Part) → IsNone (missing_trouble end parts) → IsThere (values parts [])
none_end end [] e = refl
none_end end (Visits ∷ []) e = refl
none_end end (Visits ∷ part ∷ parts) e = absurd cc
none_end end (Guest ∷ parts) e = absurd cc
none_end end (Page ∷ parts) e = absurd cc
none_end end (Node ∷ parts) e = absurd cc
none_end end (Place ∷ parts) e = absurd cc
none_end end (Pass ∷ parts) e = absurd cc
none_end end (Value ∷ parts) e = absurd cc
none_end end (Content ∷ parts) e = absurd cc
none_end end (Knob ∷ parts) e = absurd cc
none_end end (Shown ∷ parts) e = absurd cc

both_there : {A B : Type 0} (o : Option A) (words : List (List ℕ)) (later : List (List ℕ) → Option B) → IsThere o → IsThere (later words)
    → (let first : Option (A × List (List ℕ)) = o >>= (λ a. Some (a, words)) in IsThere (first >>= λ next. later next.1 >>= λ b. let both : Option (A × B) = Some (next.0, b) in both))
both_there None words later h k = absurd cc
both_there {A = A} {B = B} (Some a) words later h k = of (later words) k
  where
    of : (o : Option B) → IsThere o → IsThere (o >>= λ b. let both : Option (A × B) = Some (a, b) in both)
    of None k = absurd cc
    of (Some b) k = refl

-- words without a trouble are read as the values of their parts
none_all : (end : ℕ) (parts : List Part) (words : List (List ℕ)) → IsNone (parts_trouble end parts words) → IsThere (values parts words)
none_all end parts [] e = none_end end parts e
none_all end [] (word ∷ words) e = absurd (some_last _ _ (full (is_empty word) _ _ e))
none_all end (part ∷ parts) (word ∷ words) e =
    let both = read_first (is_read part word) _ _ _ (full (is_empty word) _ _ e) in
    both_there (read (kind_of part) word) words (values parts) both.0 (none_all (end + 1 + length word) parts words both.1)

-- some line is these words
abbrev IsSome : List (List ℕ) → Type 0
IsSome words = (line : Line) × IsLine line words

read_line : (words : List (List ℕ)) (o : Option Line) → line_at words ≡ o → IsThere o → IsSome words
read_line words None e h = absurd cc
read_line words (Some line) e h = (line, line_takes line words e)

-- a form whose parts are read is a line
form_good : (name : List ℕ) (words : List (List ℕ)) (found : Option Form) → form_in name ≡ found → IsNone (named_trouble (option_map (λ form. form.1) found) name words) → IsSome (name ∷ words)
form_good name words None is e = absurd (some_last _ _ e)
form_good name words (Some form) is e = read_line (name ∷ words) _ (ap (λ o. o >>= λ form. line_of form words) is) (of (values form.1 words) (none_all _ form.1 words e))
  where
    of : (o : Option (Values form.1)) → IsThere o → IsThere (o >>= λ told. Some (made form.1 form.2 told))
    of None h = absurd cc
    of (Some told) h = refl

none_good : (name : List ℕ) (words : List (List ℕ)) → IsNone (words_trouble (name ∷ words)) → IsSome (name ∷ words)
none_good [] [] e = (lines.Empty, line_takes lines.Empty ([] ∷ []) refl)
none_good [] (word ∷ words) e = absurd cc
none_good (byte ∷ bytes) words e =
    form_good (byte ∷ bytes) words (form_in (byte ∷ bytes)) refl (of (is_empty (byte ∷ bytes)) _ _ (ne_eqb (length (byte ∷ bytes)) 0 (λ h. omega arith)) e)
  where
    of : (empty : Bool) (named other : Option Trouble) → empty ≡ false → IsNone (cond (not empty) named other) → IsNone named
    of false named other is e = e
    of true named other is e = absurd cc

-- a line none of whose words has trouble writes a form
pub line_good : (line : List ℕ) → IsNone (words_trouble (words_of line)) → (form : Line) × Writes form line
line_good line e =
    let part = split_part line in
    subst (λ (words : List (List ℕ)). IsNone (words_trouble words) → IsSome words) (sym part.2) (none_good part.0 part.1) e

-- a line that is not too long has no trouble where it is read, and else that of its words
pub told_read : (long read : Bool) (far words : Option Trouble) → long ≡ false → read ≡ true → IsNone (cond long far (cond read None words))
told_read long read far words p q = rw (p, q) refl

pub told_unread : (long read : Bool) (far words : Option Trouble) → long ≡ false → read ≡ false → cond long far (cond read None words) ≡ words
told_unread long read far words p q = rw (p, q) refl
