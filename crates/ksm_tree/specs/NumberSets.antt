-- Sets of numbers as words of bits. (own)
use Rattle.std.specs.Prelude.{Bool, false, length, List, MatchOption, not, Option, slice_index, true, ℕ, ◌%◌, ◌*◌, ◌/◌, ◌<◌, ◌==◌, ◌^◌, ◌≡◌, ◌≢◌, ◌≤◌}
use Rattle.ksm_tree.specs.Terms.{bit_at}

-- the bit of the number is set
abbrev pub has : List ℕ → ℕ → Bool
has words n = bit_at (slice_index words (n / 64)) (n % 64) == 1

-- none of the numbers from low on and below high
abbrev pub HasNone : List ℕ → ℕ → ℕ → Type 0
HasNone words low high = (n : ℕ) → low ≤ n → n < high → has words n ≡ false

-- n is the least of them
pub record IsLeast (words : List ℕ) (low high n : ℕ) : Type 0 where
  pub low_is : low ≤ n
  pub high_is : n < high
  pub there : has words n ≡ true
  pub least : HasNone words low n

-- the least of them is found, if there is one
abbrev pub FindsLeast : List ℕ → ℕ → ℕ → Option ℕ → Type 0
FindsLeast words low high found = MatchOption found (HasNone words low high) (IsLeast words low high)

-- the number is in the set after it, or is not; the other numbers are as they were
pub record Marks (old new : List ℕ) (number : ℕ) (marked : Bool) : Type 0 where
  pub room : length new ≡ length old
  pub here : has new number ≡ marked
  pub others : (n : ℕ) → n ≢ number → has new n ≡ has old n

-- the upper set has the numbers of just those words that are not 0, and room for one number more than they are
pub record IsSummed (words upper : List ℕ) : Type 0 where
  pub room : length words < 64 * length upper
  pub named : (w : ℕ) → w < 64 * length upper → has upper w ≡ not (slice_index words w == 0)

-- the numbers of the words have 32 bits, and the words are no more than there may be; the upper set is right where these
-- may be two or more
pub record AreSummed (most : ℕ) (words upper : List ℕ) : Type 0 where
  pub fits : 64 * length words ≤ 2 ^ 32
  pub few : length words ≤ most
  pub summed : 1 < most → IsSummed words upper

-- no bit of the word is set from low on
abbrev pub HasNoBit : ℕ → ℕ → Type 0
HasNoBit word low = (i : ℕ) → low ≤ i → i < 64 → bit_at word i ≡ 0

-- bit i is the lowest that is set in the word, from low on
pub record IsLowestBit (word low i : ℕ) : Type 0 where
  pub low_is : low ≤ i
  pub high_is : i < 64
  pub there : bit_at word i ≡ 1
  pub lowest : (j : ℕ) → low ≤ j → j < i → bit_at word j ≡ 0
