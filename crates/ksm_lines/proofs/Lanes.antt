-- Digits, many at once.
use Rattle.ksm_lines.proofs.Names.{[], act2, agree_below, agree_below_at, and_comm, and_parts, ap, ap₂, arith, bitmask_splat, Bool, byte_at, cond, digits_of_word, Each1, eqb, eqb-true, false, Fits}
use Rattle.ksm_lines.proofs.Names.{get_or, get_or-chunk, get_or-map, get_or_append_left, hex_value, is_ascii_hexdigit, is_small, length, length-chunk, List, list_all, list_all-append}
use Rattle.ksm_lines.proofs.Names.{list_all-from_AllPass, list_all-map, lt, lt-ltb, ltb, ltb-false, ltb-true, map, map-id, mask, mask_l, ne_eqb, not, pair_in, range_with_len, refl, replicate, s_int}
use Rattle.ksm_lines.proofs.Names.{sel_l, suc, sym, take, take-add, take_all, top, true, unsigned, zero, zip2, zip2_splat, zip2_splat_left, ℕ, ◌%◌, ◌&&◌, ◌*◌, ◌++◌, ◌+◌, ◌<◌, ◌^◌, ◌||◌, ◌∙◌, ◌∷◌, ◌≡◌}
use Rattle.ksm_lines.proofs.Names.{◌≤◌}
use Rattle.std.proofs.Common.{w8}
use Rattle.ksm_lines.proofs.Booleans.{implied}
use Rattle.ksm_lines.proofs.Front.{passes_in}
use Rattle.ksm_lines.proofs.Hex.{passes_at, passes_below}

-- a list is what the map that changes nothing makes of it
pub itself : (v : List ℕ) → v ≡ map (λ x. x) v
itself v = sym (map-id v)

-- a pick by a mask, of lanes that were all computed from v, is computed lane by lane from v
pub picked : (m f g : ℕ → ℕ) (v : List ℕ) {a b c : List ℕ} → a ≡ map m v → b ≡ map f v → c ≡ map g v
    → sel_l (map (top 7) a) b c ≡ map (λ x. cond (top 7 (m x)) (f x) (g x)) v
picked m f g v {b = b} {c = c} p q r = ap (λ a. sel_l (map (top 7) a) b c) p ∙ ap₂ (λ b c. sel_l (map (top 7) (map m v)) b c) q r ∙ of v
  where
    of : (v : List ℕ) → sel_l (map (top 7) (map m v)) (map f v) (map g v) ≡ map (λ x. cond (top 7 (m x)) (f x) (g x)) v
    of [] = refl
    of (x ∷ xs) = ap (λ r. cond (top 7 (m x)) (f x) (g x) ∷ r) (of xs)

-- what one function computed of each byte is what another computes, where both agree on all bytes that pass a test and all bytes there do
agrees_where : (p : ℕ → Bool) (f g : ℕ → ℕ) (v : List ℕ) {a : List ℕ} → a ≡ map f v → Each1 (Fits w8) v → passes_below (λ k. not (p k) || eqb (f k) (g k)) 256 ≡ true → list_all p v ≡ true → a ≡ map g v
agrees_where p f g v is fits all passes = is ∙ of v fits passes
  where
    of : (v : List ℕ) → Each1 (Fits w8) v → list_all p v ≡ true → map f v ≡ map g v
    of [] h e = refl
    of (x ∷ xs) h e =
        let parts = and_parts (p x) (list_all p xs) e in
        let told = passes_at (λ k. not (p k) || eqb (f k) (g k)) 256 x all h.0.fits in
        ap₂ (λ y ys. y ∷ ys) (eqb-true _ _ (implied (p x) _ parts.0 told)) (of xs h.1 parts.1)

-- the same, where both agree on all bytes
pub agrees : (f g : ℕ → ℕ) (v : List ℕ) {a : List ℕ} → a ≡ map f v → Each1 (Fits w8) v → passes_below (λ k. eqb (f k) (g k)) 256 ≡ true → a ≡ map g v
agrees f g v is fits all = agrees_where (λ _. true) f g v is fits all (list_all-from_AllPass (λ _. true) v (λ k d lt. refl))

-- no bit of a mask is set exactly where no lane passes the test
pub none_set : (p : ℕ → Bool) (v : List ℕ) → eqb (mask_l (map p v)) 0 ≡ list_all (λ x. not (p x)) v
none_set p [] = refl
none_set p (x ∷ xs) = of (p x) (none_set p xs)
  where
    doubled : (m : ℕ) → eqb (0 + 2 * m) 0 ≡ eqb m 0
    doubled zero = refl
    doubled (suc m) = ne_eqb (0 + 2 * suc m) 0 (λ e. omega arith) ∙ sym (ne_eqb (suc m) 0 (λ e. omega arith))

    of : (b : Bool) → eqb (mask_l (map p xs)) 0 ≡ list_all (λ x. not (p x)) xs → eqb (cond b 1 0 + 2 * mask_l (map p xs)) 0 ≡ (not b && list_all (λ x. not (p x)) xs)
    of true h = ne_eqb (1 + 2 * mask_l (map p xs)) 0 (λ e. omega arith)
    of false h = doubled (mask_l (map p xs)) ∙ h

-- tests that agree on all bytes are passed by the same lists of them
same_test : (p q : ℕ → Bool) (v : List ℕ) → Each1 (Fits w8) v → agree_below p q 256 ≡ true → list_all p v ≡ list_all q v
same_test p q [] fits all = refl
same_test p q (x ∷ xs) fits all = ap₂ (λ a b. a && b) (agree_below_at p q 256 x all fits.0.fits) (same_test p q xs fits.1 all)

-- where one answer is the contrary of another, the other is the contrary of the first
pub other_way : (a b : Bool) → a ≡ not b → b ≡ not a
other_way a true e = sym (ap not e)
other_way a false e = sym (ap not e)

-- where a small value is computed exactly of digits, all values are small exactly where all bytes are digits
pub small_for_digits : (f : ℕ → ℕ) (v : List ℕ) {a : List ℕ} → a ≡ map f v → Each1 (Fits w8) v
    → agree_below (λ k. is_small (f k)) is_ascii_hexdigit 256 ≡ true → list_all is_small a ≡ list_all is_ascii_hexdigit v
small_for_digits f v is fits all = ap (list_all is_small) is ∙ list_all-map is_small f v ∙ same_test (λ k. is_small (f k)) is_ascii_hexdigit v fits all

-- where each digit's value is computed of the digit, what is computed of a text of digits is their values
pub values_of_digits : (f : ℕ → ℕ) (v : List ℕ) {a : List ℕ} → a ≡ map f v → Each1 (Fits w8) v
    → passes_below (λ k. not (is_ascii_hexdigit k) || eqb (f k) (hex_value k)) 256 ≡ true → list_all is_ascii_hexdigit v ≡ true → a ≡ map hex_value v
values_of_digits f = agrees_where is_ascii_hexdigit f hex_value

-- a bit of the mask of values above 15 is set exactly where not all values are small
pub none_above : (v : List ℕ) → length v ≡ 16 → Each1 (Fits w8) v
    → not (eqb (mask_l (map (top 7) (zip2 (λ a b. cond (ltb a b) 255 0) (replicate 16 15) v)) % 2 ^ 64) 0) ≡ not (list_all is_small v)
none_above v long fits =
    let above = λ (a b : ℕ). cond (ltb a b) 255 0 in
    ap (λ l. not (eqb (mask_l (map (top 7) l) % 2 ^ 64) 0)) (zip2_splat_left above 15 16 v long ∙ sym (zip2_splat (λ b a. above a b) v 16 15 long))
    ∙ ap (λ m. not (eqb m 0)) (bitmask_splat w8 (λ a b. ltb b a) v 16 15 long (omega arith))
    ∙ ap not (none_set (λ x. ltb 15 x) v ∙ same_test (λ x. not (ltb 15 x)) is_small v fits refl)

-- the larger of two values in each lane is small in all lanes exactly where all values of both are
pub larger_small : (a b : List ℕ) {n : ℕ} → length a ≡ n → length b ≡ n
    → list_all is_small (sel_l (map (top 7) (zip2 (act2 (mask (lt unsigned)) (s_int w8) (s_int w8) (s_int w8)) a b)) b a) ≡ (list_all is_small a && list_all is_small b)
larger_small [] [] p q = refl
larger_small [] (y ∷ ys) p q = absurd (omega arith)
larger_small (x ∷ xs) [] p q = absurd (omega arith)
larger_small (x ∷ xs) (y ∷ ys) p q = ap₂ (λ a b. a && b) (of (ltb x y) refl) (larger_small xs ys {n = length xs} refl (omega arith)) ∙ four (is_small x) (is_small y) _ _
  where
    both : (p q : Bool) → (p ≡ true → q ≡ true) → p ≡ (q && p)
    both true q h = sym (ap (λ c. c && true) (h refl))
    both false true h = refl
    both false false h = refl

    of : (less : Bool) → ltb x y ≡ less → is_small (cond (top 7 (cond less 255 0)) y x) ≡ (is_small x && is_small y)
    of true h = both (is_small y) (is_small x) (λ s. lt-ltb _ _ (omega (arith, ltb-true _ _ h, ltb-true _ _ s)))
    of false h = both (is_small x) (is_small y) (λ s. lt-ltb _ _ (omega (arith, ltb-false _ _ h, ltb-true _ _ s))) ∙ and_comm (is_small y) (is_small x)

    four : (p q r s : Bool) → ((p && q) && (r && s)) ≡ ((p && r) && (q && s))
    four true true r s = refl
    four true false true s = refl
    four true false false s = refl
    four false q r s = refl

-- ---- the digits of a word

same_below : (f g : ℕ → ℕ) (a n : ℕ) → ((j : ℕ) → a ≤ j → j < a + n → f j ≡ g j) → map f (range_with_len a n) ≡ map g (range_with_len a n)
same_below f g a zero h = refl
same_below f g a (suc n) h = ap₂ (λ x xs. x ∷ xs) (h a (omega arith) (omega arith)) (same_below f g (a + 1) n (λ j low high. h j (omega (arith, low)) (omega (arith, high))))

-- the values of the 16 digits of word i, in pairs, are the eight bytes from 8 * i on
pub word_is : (text : List ℕ) (i : ℕ) → 16 * i + 16 ≤ length text
    → map (pair_in (map hex_value (digits_of_word text i))) (range_with_len 0 8) ≡ map (λ j. byte_at text (8 * i + j)) (range_with_len 0 8)
word_is text i inside =
    same_below (pair_in (map hex_value (digits_of_word text i))) (λ j. byte_at text (8 * i + j)) 0 8 (λ j low high.
    let first : 16 * i + 2 * j ≡ 2 * (8 * i + j) = omega arith in
    let second : 16 * i + (2 * j + 1) ≡ 2 * (8 * i + j) + 1 = omega arith in
    ap₂ (λ a b. a * 16 + b) (at_digit (2 * j) (omega (arith, high)) ∙ ap (λ k. hex_value (get_or text k 0)) first)
    (at_digit (2 * j + 1) (omega (arith, high)) ∙ ap (λ k. hex_value (get_or text k 0)) second))
  where
    at_digit : (k : ℕ) → k < 16 → get_or (map hex_value (digits_of_word text i)) k 0 ≡ hex_value (get_or text (16 * i + k) 0)
    at_digit k below =
        get_or-map hex_value (digits_of_word text i) k 0 0 (omega (arith, length-chunk (16 * i) 16 text inside, below)) ∙ ap hex_value (get_or-chunk (16 * i) 16 text k 0 below)

-- sixteen small values make eight bytes in pairs, and no sum of a pair wraps
pub pairs_told : (values : List ℕ) → length values ≡ 16 → list_all is_small values ≡ true
    → map (λ k. (get_or (values ++ values) (2 * k) 0 * 16 % 256 + get_or (values ++ values) (2 * k + 1) 0) % 256) (range_with_len 0 8) ≡ map (pair_in values) (range_with_len 0 8)
pairs_told values long small =
    same_below _ (pair_in values) 0 8 (λ j low high.
    let first = get_or_append_left values values 0 (2 * j) (omega (arith, high, long)) in
    let second = get_or_append_left values values 0 (2 * j + 1) (omega (arith, high, long)) in
    let a = value (2 * j) (omega (arith, high)) in
    let b = value (2 * j + 1) (omega (arith, high)) in
    ap₂ (λ x y. (x * 16 % 256 + y) % 256) first second ∙ omega (arith, a, b))
  where
    value : (k : ℕ) → k < 16 → get_or values k 0 < 16
    value k below = ltb-true _ _ (passes_in is_small values 16 k (ap (list_all is_small) (take_all 16 values (omega (arith, long))) ∙ small) below (omega (arith, long)))

-- ---- the digits of a page, word by word

-- the digits of i + 1 words are those of i words and of one more
pub one_more : (text : List ℕ) (i : ℕ)
    → list_all is_ascii_hexdigit (take (16 * (i + 1)) text) ≡ (list_all is_ascii_hexdigit (take (16 * i) text) && list_all is_ascii_hexdigit (digits_of_word text i))
one_more text i =
    let more : 16 * (i + 1) ≡ 16 * i + 16 = omega arith in
    ap (λ n. list_all is_ascii_hexdigit (take n text)) more ∙ ap (list_all is_ascii_hexdigit) (take-add (16 * i) 16 text)
    ∙ list_all-append is_ascii_hexdigit (take (16 * i) text) (digits_of_word text i)
