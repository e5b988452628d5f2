-- The numbers of what words give.
use Rattle.std.proofs.Common.{◌≡◌, ◌∙◌, ap, refl, sym, subst, true, false, List, [], ◌∷◌, Option, Some, None, Bool, ℕ, cond, ◌||◌, ◌<◌, ◌≤◌, ◌^◌, arith, Result}
use Rattle.std.specs.Prelude.{find, option_map, unwrap_or, IsSome}
use Rattle.std.specs.Str.{bytes_eq}
use Rattle.std.specs.Str.Parse.{ParsesUnsigned, ExplainsUnsignedError, HasUnsignedDigitsIfOk}
use Rattle.std.specs.declared.num.ParseIntError.{ParseIntError}
use Rattle.std.proofs.lemmas.Slice.Eq.{bytes_eq-Decides}
use Rattle.clap.specs.Matches.{ReadsOne}
use Rattle.clap.specs.Values.{IsUnsignedIn}
use Rattle.clap.specs.Walk.{Text}
use Rattle.ksm_base.specs.declared.limits.TheConstants.{MOST_FRAMES_PER_NODE, MOST_LIVES, MOST_NODES, MOST_PASSES, MOST_TRIES}
use Rattle.ksm_options.specs.Settings.{AllFit, Frames, Given, LastGeneration, Nodes, Passes, Setting, Tries, default_of, has, is_of, most_of, name_of, number, or_default, text_of, value_of}

-- ---- a setting by its name

most_named : Text → ℕ
most_named name = cond (bytes_eq name (name_of Nodes)) MOST_NODES (cond (bytes_eq name (name_of Frames)) MOST_FRAMES_PER_NODE (cond (bytes_eq name (name_of Passes)) MOST_PASSES
    (cond (bytes_eq name (name_of Tries)) MOST_TRIES MOST_LIVES)))

most_by_name : (s : Setting) → most_named (name_of s) ≡ most_of s
unfolding most_named
most_by_name Nodes = refl
most_by_name Frames = refl
most_by_name Passes = refl
most_by_name Tries = refl
most_by_name LastGeneration = refl

same_most : (s : Setting) (g : Given) → is_of s g ≡ true → most_of g.0 ≡ most_of s
same_most s g is = sym (most_by_name g.0) ∙ (ap most_named ((bytes_eq-Decides (name_of g.0) (name_of s)).0 is) ∙ most_by_name s)

-- ---- the text of a setting

fit_of : (s : Setting) (given : List Given) (t : Text) → AllFit given → text_of s given ≡ Some t → IsUnsignedIn 1 (most_of s) t
fit_of s [] t fit e = absurd (cc)
fit_of s (g ∷ rest) t fit e = go (is_of s g) refl e (fit_of s rest t fit.1)
  where
    go : (b : Bool) → is_of s g ≡ b → option_map (λ (g : Given). g.1) (cond b (Some g) (find (is_of s) rest)) ≡ Some t → (text_of s rest ≡ Some t → IsUnsignedIn 1 (most_of s) t)
        → IsUnsignedIn 1 (most_of s) t
    go true is f more =
        let same : g.1 ≡ t = cc in
        subst (IsUnsignedIn 1 (most_of s)) same (subst (λ m. IsUnsignedIn 1 m g.1) (same_most s g is) fit.0)
    go false is f more = more f

-- a setting that was given has a text
pub some_text : (s : Setting) (given : List Given) → has s given ≡ true → (t : Text) × (text_of s given ≡ Some t)
some_text s [] e = absurd (cc)
some_text s (g ∷ rest) e = go (is_of s g) e (some_text s rest)
  where
    go : (b : Bool) → (b || has s rest) ≡ true → (has s rest ≡ true → (t : Text) × (text_of s rest ≡ Some t))
        → (t : Text) × (option_map (λ (g : Given). g.1) (cond b (Some g) (find (is_of s) rest)) ≡ Some t)
    go true f more = (g.1, refl)
    go false f more = more f

-- ---- the number of a setting

-- what reading a text as an unsigned number of k bits promises
abbrev pub Reads : ℕ → Text → Result ℕ ParseIntError → Type 0
Reads k text r = ParsesUnsigned k 10 text r × ExplainsUnsignedError 10 text r × HasUnsignedDigitsIfOk text r

number_read : (k most : ℕ) (t : Text) (o : Option ℕ) → ReadsOne (Reads k) t o → most < 2 ^ k → IsUnsignedIn 1 most t → o ≡ Some (number t)
number_read k most t (Some v) read room fits = ap Some read.0.1
number_read k most t None read room fits = absurd (read.1.0 (fits.0, omega arith))

-- what `get_one` reads is the number of the text that the setting is given
pub setting_read : (k : ℕ) (s : Setting) (given : List Given) (one : Option Text) (o : Option ℕ)
    → most_of s < 2 ^ k → AllFit given → one ≡ text_of s given
    → (one ≡ None → o ≡ None) → ((t : Text) → one ≡ Some t → ReadsOne (Reads k) t o) → o ≡ option_map number (text_of s given)
setting_read k s given one o room fit is none value = go (text_of s given) refl
  where
    go : (text : Option Text) → text_of s given ≡ text → o ≡ option_map number text
    go None e = none (is ∙ e)
    go (Some t) e = number_read k (most_of s) t o (value t (is ∙ e)) room (fit_of s given t fit e)

-- a setting that was given has a number
pub given_number : (s : Setting) (given : List Given) (o : Option ℕ) → o ≡ option_map number (text_of s given) → has s given ≡ true → IsSome o
given_number s given o is e =
    let some = some_text s given e in
    subst IsSome (sym (is ∙ ap (option_map number) some.1)) refl

-- the number of a setting's text is the value given
pub value_given : (s : Setting) (given : List Given) (n : ℕ) → Some n ≡ option_map number (text_of s given) → value_of s given ≡ Some n
value_given s given n is = ap (λ o. or_default o (default_of s)) (sym is)

-- the value of a setting is the one given, or its default
pub value_or : (s : Setting) (given : List Given) (o : Option ℕ) (d : ℕ) → o ≡ option_map number (text_of s given) → default_of s ≡ Some d → value_of s given ≡ Some (unwrap_or o d)
value_or s given o d is default = ap (λ x. or_default x (default_of s)) (sym is) ∙ go o
  where
    go : (o : Option ℕ) → or_default o (default_of s) ≡ Some (unwrap_or o d)
    go None = default
    go (Some n) = refl

default_fits : (s : Setting) (n : ℕ) → default_of s ≡ Some n → (1 ≤ n) × (n ≤ most_of s)
default_fits Nodes n e = absurd (cc)
default_fits Frames n e = absurd (cc)
default_fits Passes n e = let is : 2 ≡ n = cc in (omega arith, omega arith)
default_fits Tries n e = let is : 8 ≡ n = cc in (omega arith, omega arith)
default_fits LastGeneration n e = let is : MOST_LIVES ≡ n = cc in (omega arith, omega arith)

-- a value that was given is in the setting's range
pub value_fits : (s : Setting) (given : List Given) (n : ℕ) → AllFit given → value_of s given ≡ Some n → (1 ≤ n) × (n ≤ most_of s)
value_fits s given n fit e = go (text_of s given) refl e
  where
    go : (text : Option Text) → text_of s given ≡ text → or_default (option_map number text) (default_of s) ≡ Some n → (1 ≤ n) × (n ≤ most_of s)
    go None is f = default_fits s n f
    go (Some t) is f =
        let fits = fit_of s given t fit is in
        let same : number t ≡ n = cc in
        (omega (arith, fits.2), omega (arith, fits.3))
