-- The values of hexadecimal digits.
use Rattle.ksm_lines.proofs.Names.{agree_below, agree_below_at, arith, Bool, digit_or_none, DIGIT_VALUES, eqb, eqb-true, hex_value, lt-ltb, ltb, not, refl, slice_index, true, ℕ, ◌<◌, ◌==◌, ◌||◌, ◌∙◌}
use Rattle.ksm_lines.proofs.Names.{◌≡◌}
use Rattle.ksm_lines.proofs.Booleans.{implied}

-- all numbers below n pass a test
abbrev pub passes_below : (ℕ → Bool) → ℕ → Bool
passes_below test = agree_below test (λ _. true)

-- then each of them does
pub passes_at : (test : ℕ → Bool) (n d : ℕ) → passes_below test n ≡ true → d < n → test d ≡ true
passes_at test = agree_below_at test (λ _. true)

-- the table has the value of each byte as a digit, or none
pub value_of : (byte : ℕ) → byte < 256 → slice_index DIGIT_VALUES byte ≡ digit_or_none byte
value_of byte lt = eqb-true _ _ (passes_at (λ byte. slice_index DIGIT_VALUES byte == digit_or_none byte) 256 byte refl lt)

-- a small value in the table is the digit's
pub small_value : {value : ℕ} (byte : ℕ) → byte < 256 → value ≡ digit_or_none byte → value < 16 → value ≡ hex_value byte
small_value byte lt is small =
    is ∙ eqb-true _ _ (implied (ltb (digit_or_none byte) 16) _ (lt-ltb _ _ (omega (arith, is, small))) (passes_at (λ b. not (ltb (digit_or_none b) 16) || eqb (digit_or_none b) (hex_value b)) 256 byte refl lt))
