use Rattle.ksm_lines.proofs.Names.{act2, bit_and, lt, mask, refl, s_int, splat_is_map, unsigned, wrap_add, wrap_sub, zip2_of_maps, ℕ}
use mir.Syntax.{w8}
use Rattle.ksm_lines.proofs.Lanes.{itself, picked, small_for_digits, values_of_digits}
use Rattle.ksm_lines.proofs.field.digit_values.Goals as goal

pub returns : goal.returns
returns c =
    let v = c.args.digits in
    let splat = λ (y : ℕ). splat_is_map v 16 y c.requires in
    let raised = zip2_of_maps (act2 wrap_add (s_int w8) (s_int w8) (s_int w8)) _ _ v (itself v) (splat 198) in
    let lower = zip2_of_maps (act2 (mask (lt unsigned)) (s_int w8) (s_int w8) (s_int w8)) _ _ v raised (splat 6) in
    let numbers = zip2_of_maps (act2 wrap_sub (s_int w8) (s_int w8) (s_int w8)) _ _ v (picked _ _ _ v lower (splat 6) raised) (splat 6) in
    let upper = zip2_of_maps (act2 bit_and (s_int w8) (s_int w8) (s_int w8)) _ _ v (itself v) (splat 223) in
    let letters = zip2_of_maps (act2 wrap_sub (s_int w8) (s_int w8) (s_int w8)) _ _ v upper (splat 65) in
    let least = picked _ _ _ v (zip2_of_maps (act2 (mask (lt unsigned)) (s_int w8) (s_int w8) (s_int w8)) _ _ v letters (splat 245)) letters (splat 245) in
    let number = zip2_of_maps (act2 wrap_add (s_int w8) (s_int w8) (s_int w8)) _ _ v numbers (splat 16) in
    let letter = zip2_of_maps (act2 wrap_add (s_int w8) (s_int w8) (s_int w8)) _ _ v least (splat 10) in
    let values = picked _ _ _ v (zip2_of_maps (act2 (mask (lt unsigned)) (s_int w8) (s_int w8) (s_int w8)) _ _ v number letter) number letter in
    (small_for_digits _ v values c.fits-digits.1 refl, values_of_digits _ v values c.fits-digits.1 refl)
