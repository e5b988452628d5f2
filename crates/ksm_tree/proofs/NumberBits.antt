-- What the words of a set, and their summary, say of its numbers.
use Rattle.ksm_tree.proofs.Names.{arith, bit_at, bit_at_clear_other, bit_at_clear_same, bit_at_ones, bit_at_set_other, bit_at_set_same, bit_or, Bool, false, FindsLeast, get_or, get_or-replicate}
use Rattle.ksm_tree.proofs.Names.{get_or-set_other, get_or-set_same, get_or_default, get_or_past, has, HasNoBit, IsLeast, IsLowestBit, IsSummed, length, length-replicate, length-set, List, Marks, not}
use Rattle.ksm_tree.proofs.Names.{Option, replicate, set, shr-shr, true, w64, ℕ, ◌%◌, ◌*◌, ◌+◌, ◌-◌, ◌/◌, ◌<◌, ◌==◌, ◌^◌, ◌≡◌, ◌≢◌, ◌≤◌}
use Rattle.std.specs.Int.Bits.{bit_and}

module _ (words : List ℕ) where
  -- what the words behind one answer holds from a number of that word on, where the word has no bit from there on
  pub further : (from : ℕ) {w : ℕ} → w ≡ from / 64 → HasNoBit (get_or words w 0) (from % 64) → (found : Option ℕ)
      → FindsLeast words ((w + 1) * 64) (64 * length words) found → FindsLeast words from (64 * length words) found
  further from at none found h = grind arith

  module _ {upper : List ℕ} (h : IsSummed words upper) where
    -- the least number of the upper set behind a word's is that of the word of the least number behind that word
    pub found_behind : (at : ℕ) {next bit : ℕ} → IsLeast upper (at + 1) (64 * length upper) next → IsLowestBit (get_or words next 0) 0 bit → IsLeast words ((at + 1) * 64) (64 * length words) (next * 64 + bit)
    found_behind at {next} {bit} named found = grind (arith, get_or_past)

    -- the least number of the upper set from one on is that of a word that is there
    pub within_named : {low next : ℕ} → IsLeast upper low (64 * length upper) next → next < length words
    within_named named = grind (arith, get_or_past)

    -- the upper set is right once a word is put, if it says of that whether it is 0, and of the others what it did
    pub summed_put : {w : ℕ} (word : ℕ) {upper' : List ℕ} {there : Bool} → w < length words → there ≡ not (word == 0) → Marks upper upper' w there → IsSummed (set words w word) upper'
    summed_put word within here marks = grind (arith, length-set, get_or-set_same, get_or-set_other)

-- words of which each bit is set have each number below their end
pub all_there : (k n : ℕ) → n < 64 * k → has (replicate k 18446744073709551615) n ≡ true
all_there k n below = grind (arith, get_or-replicate, bit_at_ones 64)

-- words that are 0 have no number
pub none_there : (k n : ℕ) → has (replicate k 0) n ≡ false
none_there k n = grind (arith, get_or-replicate, get_or_past, length-replicate)

-- a word that has a number's bit as it is to be, and keeps its other bits, marks that number
marks_put : {words : List ℕ} {number : ℕ} (word bit : ℕ) → number < 64 * length words → bit_at word (number % 64) ≡ bit → ((i : ℕ) → i < 64 → i ≢ number % 64 → bit_at word i ≡ bit_at (get_or words (number / 64) 0) i) → Marks words (set words (number / 64) word) number (bit == 1)
marks_put word bit room here others = grind (arith, length-set, get_or-set_same, get_or-set_other)

module _ (words : List ℕ) (number : ℕ) (room : number < 64 * length words) where
  -- a number's bit that is set marks it as there
  pub marks_more : Marks words (set words (number / 64) (bit_or (get_or words (number / 64) 0) (1 * 2 ^ (number % 64) % 18446744073709551616))) number true
  marks_more = marks_put _ 1 room (bit_at_set_same w64 _ _ (omega arith)) (grind (arith, bit_at_set_other w64))

  -- a number's bit that is cleared marks it as not there
  pub marks_less : Marks words (set words (number / 64) (bit_and (get_or words (number / 64) 0) (18446744073709551615 - 1 * 2 ^ (number % 64) % 18446744073709551616))) number false
  marks_less = marks_put _ 0 room (bit_at_clear_same w64 _ _ (omega arith)) (grind (arith, bit_at_clear_other w64))

-- a bit of a word that is shifted is a higher bit of the word
pub bit_of_rest : (word from i : ℕ) → bit_at (word / 2 ^ from) i ≡ bit_at word (from + i)
bit_of_rest word from i = grind (arith, shr-shr)

pub bit_behind : (word from i : ℕ) → from ≤ i → bit_at word i ≡ bit_at (word / 2 ^ from) (i - from)
bit_behind word from i behind = grind (arith, bit_of_rest)

-- words that are all alike
pub ruleset replicated = (all_there, length-replicate, none_there)

-- what a word with another bit says of the numbers
pub ruleset steps = (get_or_default, length-set, marks_less, marks_more)
