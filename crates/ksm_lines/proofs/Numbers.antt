-- A word is read as a number exactly where it is the number's decimal text.
use Rattle.ksm_lines.proofs.Names.{and_parts, ap, ap₂, arith, Bool, cases_lt, decimal, decimal-digits_value, decimal_digit, decimal_nonempty, digit_value, digits_decimal, digits_value}
use Rattle.ksm_lines.proofs.Names.{digits_value-decimal, digits_value_more, eq-eqb, eqb, eqb-true, false, first_decimal, get_or, inl, inr, is_ascii_digit, is_plain, digits_value-take-le, None}
use Rattle.ksm_lines.proofs.Names.{IsNumeralModel, IsReadTo, le-ltb, length, List, list_all, list_all_more, lt-ltb, ltb, ltb-true, not, number_below, numerals_by_value, refl, rules, Some, subst, sym}
use Rattle.ksm_lines.proofs.Names.{take, true, ℕ, ◌&&◌, ◌*◌, ◌+◌, ◌-◌, ◌<◌, ◌^◌, ◌||◌, ◌∙◌, ◌≡◌, ◌≤◌}
use Rattle.ksm_lines.proofs.Booleans.{chosen, implied, is_chosen}

-- the test for decimal digits and the value of a text of digits are a model of numerals
pub own : IsNumeralModel (λ word. list_all is_ascii_digit word ≡ true) (digits_value 10)
own = numerals_by_value _ (search rules)

-- a word is plain: digits alone, one at least, and no zero before another digit
pub record IsPlain (word : List ℕ) : Type 0 where
  pub digits : list_all is_ascii_digit word ≡ true
  pub long : 0 < length word
  pub no_zero : get_or word 0 0 ≡ 48 → length word ≡ 1

-- a word that tests as plain has digits alone, and no zero before another digit
pub plain_parts : (word : List ℕ) → is_plain word ≡ true → IsPlain word
plain_parts word e =
    let tests = and_parts (list_all is_ascii_digit word && ltb 0 (length word)) _ e in
    let both = and_parts (list_all is_ascii_digit word) _ tests.0 in
    record {
      digits = both.0;
      long = ltb-true _ _ both.1;
      no_zero = λ h. eqb-true _ _ (implied (eqb (get_or word 0 0) 48) _ (eq-eqb _ _ h) tests.1);
    }

not_zero : (a b : Bool) → (a ≡ true → b ≡ true) → (not a || b) ≡ true
not_zero true b h = h refl
not_zero false b h = refl

digit_value_of : (c : ℕ) → 48 ≤ c → c ≤ 57 → digit_value c ≡ c - 48
digit_value_of c low high = let less : c < 58 = omega arith in rw (le-ltb _ _ low, lt-ltb _ _ less) refl

-- one digit more
module _ (word : List ℕ) (i value digit : ℕ) (lt : i < length word) (low : 48 ≤ get_or word i 0) (high : get_or word i 0 ≤ 57)
    (is : digit ≡ get_or word i 0 - 48) (read : IsReadTo i word value) where
  -- the value with one digit more is that of the first i + 1 digits
  pub value_more : value * 10 + digit ≡ digits_value 10 (take (i + 1) word)
  value_more = ap₂ (λ v d. v * 10 + d) read.1 (is ∙ sym (digit_value_of (get_or word i 0) low high)) ∙ sym (digits_value_more 10 word i lt)

  -- where the value with one digit more is below 2 ^ 32, the word is read up to behind that digit
  pub read_more : is_ascii_digit (get_or word i 0) ≡ true → value * 10 + digit < 2 ^ 32 → IsReadTo (i + 1) word (value * 10 + digit)
  read_more digits small = (list_all_more is_ascii_digit word i 0 lt ∙ ap₂ (λ a b. a && b) read.0 digits, value_more, small)

  -- where the value with one digit more is 2 ^ 32 or above, the word is no number of 32 bits
  pub high_more : 2 ^ 32 ≤ value * 10 + digit → number_below (2 ^ 32) word ≡ None
  high_more high =
      let all : 2 ^ 32 ≤ digits_value 10 word = omega (arith, value_more, digits_value-take-le 10 word (i + 1) (omega arith)) in
      rw (le-ltb _ _ all) (neither (is_plain word))
    where
      neither : (b : Bool) → chosen (b && false) (digits_value 10 word) ≡ None
      neither true = refl
      neither false = refl

-- ---- the number's decimal text

-- a word that is read as a number is that number's decimal, below the limit
pub number_takes : (limit : ℕ) (word : List ℕ) (n : ℕ) → limit ≤ 2 ^ 64 → number_below limit word ≡ Some n → (n < limit) × (word ≡ decimal n)
number_takes limit word n small e =
    let is = is_chosen (is_plain word && ltb (digits_value 10 word) limit) (digits_value 10 word) n e in
    let both = and_parts (is_plain word) _ is.0 in
    let plain = plain_parts word both.0 in
    let lt : digits_value 10 word < limit = ltb-true _ _ both.1 in
    let wide : digits_value 10 word < 2 ^ 64 = omega arith in
    let text = decimal-digits_value own word plain.digits plain.long plain.no_zero wide in
    (subst (λ k. k < limit) (sym is.1) lt, sym text ∙ ap decimal (sym is.1))

zero_short : (n : ℕ) → n < 2 ^ 64 → get_or (decimal n) 0 0 ≡ 48 → length (decimal n) ≡ 1
zero_short n lt e =
    elim (cases_lt 0 n) [
      | inl more ↦ omega (arith, first_decimal n more lt)
      | inr none ↦ let zero : n ≡ 0 = omega arith in ap length (decimal_digit n (omega arith))
    ]

-- a number's decimal is plain
pub decimal_plain : (n : ℕ) → n < 2 ^ 64 → is_plain (decimal n) ≡ true
decimal_plain n lt =
    let tail = not_zero (eqb (get_or (decimal n) 0 0) 48) (eqb (length (decimal n)) 1) (λ h. eq-eqb _ _ (zero_short n lt (eqb-true _ _ h))) in
    rw (digits_decimal own n lt, lt-ltb _ _ (decimal_nonempty n lt), tail) refl

-- a number's decimal is read as that number
pub number_again : (limit n : ℕ) → limit ≤ 2 ^ 64 → n < limit → number_below limit (decimal n) ≡ Some n
number_again limit n small lt =
    let wide : n < 2 ^ 64 = omega arith in
    rw (decimal_plain n wide, digits_value-decimal own n wide, lt-ltb _ _ lt) refl
