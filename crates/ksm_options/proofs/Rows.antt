-- The rows of what words give.
use Rattle.std.proofs.Common.{◌≡◌, ◌∙◌, ap, ap₂, refl, sym, true, false, List, [], ◌∷◌, ◌++◌, map, Some, Bool, cond, ◌&&◌, ◌||◌, append-nil}
use Rattle.std.proofs.lemmas.List.{map-append}
use Rattle.std.specs.Prelude.{find, option_map, option_and_then}
use Rattle.std.specs.Str.{bytes_eq}
use Rattle.std.proofs.lemmas.Slice.Eq.{bytes_eq-Decides}
use Rattle.std.proofs.lemmas.List.Folds.{list_any-append}
use Rattle.clap.specs.Values.{IsUnsignedIn}
use Rattle.clap.specs.ValueTests.{accepts}
use Rattle.std.specs.Option.{option_map_or}
use Rattle.clap.specs.Facts.{explicit_source}
use Rattle.clap.specs.Takes.{is_given}
use Rattle.clap.specs.declared.parser.matches.ValueSource.TheVariants.{CommandLine}
use Rattle.clap.specs.Walk.{more_values, Row, Text, at_row, has_row, one_of, row_text}
use Rattle.clap.specs.declared.builder.value_parser.ValueParser.TheVariants.{Unsigned}
use Rattle.clap.specs.declared.error.kind.ErrorKind.TheVariants as kind
use Rattle.clap.proofs.ValueTestLemmas.{accepts-Accepts}
use Rattle.ksm_options.specs.Settings.{AllFit, Given, IsOnce, Setting, has, is_of, most_of, name_of}
use Rattle.ksm_options.proofs.Steps.{after_use, first_none, placed, row_for, second_none, text_fault}

-- ---- rows

at_row_missing : (id : Text) (change : Row → List Row) (missing rows : List Row) → has_row id rows ≡ false → at_row id change missing rows ≡ rows ++ missing
at_row_missing id change missing [] e = refl
at_row_missing id change missing (r ∷ rs) e = go (bytes_eq r.id id) refl e (at_row_missing id change missing rs)
  where
    go : (b : Bool) → bytes_eq r.id id ≡ b → (b || has_row id rs) ≡ false → (has_row id rs ≡ false → at_row id change missing rs ≡ rs ++ missing)
        → cond b (change r ++ rs) (r ∷ at_row id change missing rs) ≡ r ∷ (rs ++ missing)
    go true is f more = cc
    go false is f more = ap (λ t. r ∷ t) (more f)

-- a row stands for a setting exactly where the setting was given
pub has_rows : (s : Setting) (given : List Given) → has_row (name_of s) (map row_for given) ≡ has s given
has_rows s [] = refl
has_rows s (g ∷ rest) = ap (λ b. is_of s g || b) (has_rows s rest)

-- a setting used for the first time adds its row at the end
pub use_more : (s : Setting) (text : Text) (given : List Given) → has s given ≡ false → after_use s text (map row_for given) ≡ map row_for (given ++ (s, text) ∷ [])
use_more s text given new =
    let none : has_row (name_of s) (map row_for given) ≡ false = has_rows s given ∙ new in
    let same : at_row (name_of s) (λ _. []) [] (map row_for given) ≡ map row_for given = at_row_missing (name_of s) (λ _. []) [] (map row_for given) none ∙ append-nil _ in
    ap (placed s text) same ∙ at_row_missing (name_of s) (more_values CommandLine (text ∷ [])) (row_for (s, text) ∷ []) (map row_for given) none ∙ sym (map-append row_for given ((s, text) ∷ []))

-- ---- once each

-- two texts that differ differ in either order
pub is_of_sym : (a b : Text) → bytes_eq a b ≡ false → bytes_eq b a ≡ false
is_of_sym a b e = go (bytes_eq b a) refl
  where
    go : (t : Bool) → bytes_eq b a ≡ t → t ≡ false
    go true is =
        let bad : bytes_eq a b ≡ true = (bytes_eq-Decides a b).1 (sym ((bytes_eq-Decides b a).0 is)) in
        cc
    go false is = refl

-- where neither of two tests passes, each fails
pub neither : (a b : Bool) → (a || b) ≡ false → (a ≡ false) × (b ≡ false)
neither true b e = absurd (cc)
neither false b e = (refl, e)

-- settings given once each, and a new one, are given once each
pub once_more : (s : Setting) (text : Text) (given : List Given) → IsOnce given → has s given ≡ false → IsOnce (given ++ (s, text) ∷ [])
once_more s text [] once new = (refl, tt)
once_more s text (g ∷ rest) once new =
    let parts = neither (is_of s g) (has s rest) new in
    let other : is_of g.0 (s, text) ≡ false = is_of_sym (name_of g.0) (name_of s) parts.0 in
    (list_any-append (is_of g.0) rest ((s, text) ∷ []) ∙ ap₂ (λ a b. a || (b || false)) once.0 other, once_more s text rest once.1 parts.1)

-- texts in their ranges, and a new one in its own, are in their ranges
pub fit_more : (s : Setting) (text : Text) (given : List Given) → AllFit given → IsUnsignedIn 1 (most_of s) text → AllFit (given ++ (s, text) ∷ [])
fit_more s text [] fit here = (here, tt)
fit_more s text (g ∷ rest) fit here = (fit.0, fit_more s text rest fit.1 here)

-- ---- a text that is no fault is new, and fits

-- a text that makes no fault is of a setting not given before
pub text_is_new : (s : Setting) (text : Text) (given : List Given) → text_fault s text (map row_for given) ≡ [] → has s given ≡ false
text_is_new s text given e = sym (has_rows s given) ∙ go (has_row (name_of s) (map row_for given)) (first_none _ _ e)
  where
    go : (b : Bool) → cond (b && true) (kind.ArgumentConflict ∷ []) [] ≡ [] → b ≡ false
    go true f = cc
    go false f = refl

-- a text that makes no fault is in its setting's range
pub text_fits : (s : Setting) (text : Text) (rows : List Row) → text_fault s text rows ≡ [] → IsUnsignedIn 1 (most_of s) text
text_fits s text rows e = accepts-Accepts false (Unsigned 1 (most_of s)) text (go (accepts false (Unsigned 1 (most_of s)) text) (first_none _ _ (second_none _ _ e)))
  where
    go : (b : Bool) → cond b [] (kind.ValueValidation ∷ []) ≡ [] → b ≡ true
    go true f = refl
    go false f = cc

-- ---- what the rows tell

-- the parser says that a setting was given exactly where the setting was given
pub given_is : (s : Setting) (given : List Given) → is_given (name_of s) (map row_for given) ≡ has s given
given_is s [] = refl
given_is s (g ∷ rest) = go (is_of s g) (given_is s rest)
  where
    go : (b : Bool) → is_given (name_of s) (map row_for rest) ≡ has s rest
        → option_map_or (λ (r : Row). explicit_source r.source) (cond b (Some (row_for g)) (find (λ r. bytes_eq r.id (name_of s)) (map row_for rest))) false ≡ (b || has s rest)
    go true e = refl
    go false e = e

-- the parser finds the text that was given for a setting
pub one_is : (s : Setting) (given : List Given) → one_of (name_of s) (map row_for given) ≡ option_map (λ g. g.1) (find (is_of s) given)
one_is s [] = refl
one_is s (g ∷ rest) = go (is_of s g) (one_is s rest)
  where
    go : (b : Bool) → one_of (name_of s) (map row_for rest) ≡ option_map (λ g. g.1) (find (is_of s) rest)
        → option_and_then row_text (cond b (Some (row_for g)) (find (λ r. bytes_eq r.id (name_of s)) (map row_for rest))) ≡ option_map (λ (g : Given). g.1) (cond b (Some g) (find (is_of s) rest))
    go true e = refl
    go false e = e
