-- Bytes in hexadecimal digits, many at once.
use Rattle.ksm_script.proofs.Names.{[], act2, agrees, All, ap, ap₂, arith, bit_and, byte_digits, content_text, digit_glyph, Each1, eqb, false, Fits, flat_map, flat_map-map, List, map, passes_below}
use Rattle.ksm_script.proofs.Names.{pick_l, refl, replicate, s_int, shr, subst, suc, sym, to_le_bytes, true, unsigned, w64, w8, word_digits, zero, zip2, zip2_splat, ℕ, ◌%◌, ◌++◌, ◌/◌, ◌<◌, ◌∙◌, ◌∷◌}
use Rattle.ksm_script.proofs.Names.{◌≡◌}

-- the halves of each byte, the higher one first
abbrev halves : List ℕ → List ℕ
halves [] = []
halves (b ∷ bytes) = b / 16 ∷ b % 16 ∷ halves bytes

halves_small : (bytes : List ℕ) → Each1 (Fits w8) bytes → All (λ v. v < 16) (halves bytes)
halves_small [] fits = λ k d lt. absurd (omega (arith, lt))
halves_small (b ∷ bytes) fits = of (halves_small bytes fits.1)
  where
    of : All (λ v. v < 16) (halves bytes) → All (λ v. v < 16) (b / 16 ∷ b % 16 ∷ halves bytes)
    of h zero d lt = let small : b < 256 = fits.0.fits in omega (arith, small)
    of h (suc zero) d lt = omega arith
    of h (suc (suc k)) d lt = h k d (omega (arith, lt))

halves_digits : (bytes : List ℕ) → map (digit_glyph false) (halves bytes) ≡ flat_map byte_digits bytes
halves_digits [] = refl
halves_digits (b ∷ bytes) = ap (λ (l : List ℕ). digit_glyph false (b / 16) ∷ digit_glyph false (b % 16) ∷ l) (halves_digits bytes)

byte : (n : ℕ) → Fits w8 (n % 256)
byte n = let small : n % 256 < 256 = omega arith in record { fits = small }

-- the bytes of a word, their halves in two vectors, and how these are woven into one
module _ (word : ℕ) (bytes : List ℕ) (is : bytes ≡ to_le_bytes w64 word) where
  bytes_fit : Each1 (Fits w8) (to_le_bytes w64 word)
  bytes_fit = (byte _, (byte _, (byte _, (byte _, (byte _, (byte _, (byte _, (byte _, tt))))))))

  -- what one operation makes of each byte and a number is a function of the byte
  each_made : (act : ℕ → ℕ → ℕ) (n : ℕ) (g : ℕ → ℕ) → passes_below (λ k. eqb (act k n) (g k)) 256 ≡ true → zip2 act bytes (replicate 8 n) ≡ map g (to_le_bytes w64 word)
  each_made act n g all =
      agrees (λ b. act b n) g (to_le_bytes w64 word) (ap (λ (v : List ℕ). zip2 act v (replicate 8 n)) is ∙ zip2_splat act (to_le_bytes w64 word) 8 n refl) bytes_fit all

  abbrev woven : List ℕ
  woven =
      let high = zip2 (act2 (shr unsigned) (s_int w8) (s_int w8) (s_int w8)) bytes (replicate 8 4) in
      let low = zip2 (act2 bit_and (s_int w8) (s_int w8) (s_int w8)) bytes (replicate 8 15) in
      pick_l 0 (high ++ low) (0 ∷ 8 ∷ 1 ∷ 9 ∷ 2 ∷ 10 ∷ 3 ∷ 11 ∷ 4 ∷ 12 ∷ 5 ∷ 13 ∷ 6 ∷ 14 ∷ 7 ∷ 15 ∷ [])

  woven_is : woven ≡ halves (to_le_bytes w64 word)
  woven_is =
      ap₂ (λ (high low : List ℕ). pick_l 0 (high ++ low) (0 ∷ 8 ∷ 1 ∷ 9 ∷ 2 ∷ 10 ∷ 3 ∷ 11 ∷ 4 ∷ 12 ∷ 5 ∷ 13 ∷ 6 ∷ 14 ∷ 7 ∷ 15 ∷ [])) (each_made _ 4 (λ b. b / 16) refl) (each_made _ 15 (λ b. b % 16) refl)

  -- each half is the value of a digit
  pub woven_small : All (λ v. v < 16) woven
  woven_small = subst (All (λ v. v < 16)) (sym woven_is) (halves_small (to_le_bytes w64 word) bytes_fit)

  -- their digits are those of the word
  pub woven_digits : map (digit_glyph false) woven ≡ word_digits word
  woven_digits = ap (map (digit_glyph false)) woven_is ∙ halves_digits (to_le_bytes w64 word)

-- the digits of the words, one behind the other, are those of the content
pub flat_digits : (content : List ℕ) {text : List ℕ} {digits : List (List ℕ)} → text ≡ flat_map (λ x. x) digits → digits ≡ map word_digits content → text ≡ content_text content
flat_digits content e d = e ∙ ap (flat_map (λ x. x)) d ∙ flat_map-map (λ x. x) word_digits content
