-- The plainest words tell what they should.
use Rattle.std.proofs.Common.{◌≡◌, ◌==◌, ◌≤◌, ◌<◌, ◌^◌, refl, sym, subst, true, false, List, [], ◌∷◌, Bool, cond, drop, arith}
use Rattle.std.specs.Str.Parse.{IsNumeral, digits_value, without_leading_plus}
use Rattle.std.proofs.lemmas.Bool.Decides.{nat_tests}
use Rattle.clap.specs.Values.{IsUnsignedIn}
use Rattle.clap.specs.Walk.{Text}
use Rattle.ksm_options.specs.Plain.{AllDecimal, IsDecimal, IsWellFormed, written}
use Rattle.ksm_base.specs.declared.limits.TheConstants.{MOST_LIVES}
use Rattle.ksm_options.specs.Settings.{AllFit, Frames, Given, LastGeneration, Nodes, Passes, Setting, Tries, most_of}
use Rattle.ksm_options.specs.Told.{Gives, Tells, apart, nothing}

most_is_small : (s : Setting) → most_of s ≤ MOST_LIVES
most_is_small Nodes = omega arith
most_is_small Frames = omega arith
most_is_small Passes = omega arith
most_is_small Tries = omega arith
most_is_small LastGeneration = omega arith

no_plus : (text : Text) → IsNumeral 10 text → without_leading_plus text ≡ text
no_plus [] h = refl
no_plus (x ∷ xs) h = go (x == 43) refl
  where
    at : x ≡ 43 → ⊥
    at is =
        let digits : IsNumeral 10 (43 ∷ xs) = subst (λ y. IsNumeral 10 (y ∷ xs)) is h in
        let bad = digits.1.0 in
        absurd (omega arith)

    go : (b : Bool) → (x == 43) ≡ b → drop (cond b 1 0) (x ∷ xs) ≡ x ∷ xs
    go true is = absurd (at (grind (arith, nat_tests)))
    go false is = refl

decimal_fits : (s : Setting) (text : Text) → IsDecimal (most_of s) text → IsUnsignedIn 1 (most_of s) text
decimal_fits s text d =
    let small : digits_value 10 text < 2 ^ 64 = omega (arith, d.3, most_is_small s) in
    let plain : IsNumeral 10 text × (digits_value 10 text < 2 ^ 64) × (1 ≤ digits_value 10 text) × (digits_value 10 text ≤ most_of s) = (d.0, small, d.2, d.3) in
    subst (λ t. IsNumeral 10 t × (digits_value 10 t < 2 ^ 64) × (1 ≤ digits_value 10 t) × (digits_value 10 t ≤ most_of s)) (sym (no_plus text d.0)) plain

all_fit : (given : List Given) → AllDecimal given → AllFit given
all_fit [] d = tt
all_fit (g ∷ rest) d = (decimal_fits g.0 g.1 d.0, all_fit rest d.1)

gives_written : (given : List Given) → Gives (written given) given
gives_written [] = nothing
gives_written (g ∷ rest) = apart g.0 g.1 (written rest) rest (gives_written rest)

-- well-formed words tell what they give
pub tells_of : (words : List Text) (given : List Given) → IsWellFormed words given → Tells words given
tells_of words given w = record {
  gives = subst (λ ws. Gives ws given) (sym w.words_are) (gives_written given);
  once = w.once;
  fit = all_fit given w.decimals;
  nodes = w.nodes;
  frames = w.frames;
}
