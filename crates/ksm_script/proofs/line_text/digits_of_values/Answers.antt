use Rattle.ksm_script.proofs.Names.{[], ap, arith, digit_glyph, Each1-from_get_or, eqb, eqb-true, ext_get_or, false, get_or, get_or-map, get_or-swz_l_below, length-map, length-swz_l, List, map}
use Rattle.ksm_script.proofs.Names.{passes_at, refl, SwzOk-from_below, sym, w8, ℕ, ◌*◌, ◌+◌, ◌/◌, ◌<◌, ◌∙◌, ◌∷◌, ◌≡◌}
use Rattle.ksm_script.proofs.line_text.digits_of_values.Goals as goal

-- the digits 0 to 9, and a to f
abbrev glyphs : List ℕ
glyphs = map (digit_glyph false) (0 ∷ 1 ∷ 2 ∷ 3 ∷ 4 ∷ 5 ∷ 6 ∷ 7 ∷ 8 ∷ 9 ∷ 10 ∷ 11 ∷ 12 ∷ 13 ∷ 14 ∷ 15 ∷ [])

pub swizzle : goal.swizzle
swizzle c = SwzOk-from_below w8 16 1 16 0 c.args.values refl (omega (arith, c.requires.long)) (Each1-from_get_or (λ j. j < 16) c.args.values 0 (λ k lt. c.requires.small k 0 lt))

pub returns : goal.returns
returns c =
    let v = c.args.values in
    let long = length-swz_l w8 16 glyphs 0 v in
    ext_get_or 0 _ _ (long ∙ sym (length-map v (digit_glyph false))) (λ k lt.
    let inside : k < 16 = omega (arith, lt, long, c.requires.long) in
    let small : get_or v k 0 < 16 = c.requires.small k 0 (omega (arith, lt, long)) in
    let here : 16 * ((0 + k) / 16) + get_or v k 0 ≡ get_or v k 0 = omega (arith, inside) in
    get_or-swz_l_below w8 16 glyphs 0 v k (omega (arith, lt, long)) small ∙ ap (λ j. get_or glyphs j 0) here
    ∙ eqb-true _ _ (passes_at (λ j. eqb (get_or glyphs j 0) (digit_glyph false j)) 16 (get_or v k 0) refl small)
    ∙ sym (get_or-map (digit_glyph false) v k 0 0 (omega (arith, lt, long))))
