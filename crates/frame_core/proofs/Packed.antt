-- The parts of a frame word.
use Rattle.std.proofs.Common.{◌≡◌, ℕ, ◌<◌, arith}
use Rattle.frame_core.specs.Terms.{COUNT_SPAN}
use Rattle.frame_core.specs.State.{frame_word, count_in, life_in}

-- the count in a frame word is the one that was packed
pub count_packed : (generation count : ℕ) → count < COUNT_SPAN → count_in (frame_word generation count) ≡ count
count_packed generation count low = omega arith

-- the life in a frame word is the one that was packed
pub life_packed : (generation count : ℕ) → count < COUNT_SPAN → life_in (frame_word generation count) ≡ generation
life_packed generation count low = omega arith

-- two words are equal only where both parts are
pub parts_of_word : (g h c d : ℕ) → c < COUNT_SPAN → d < COUNT_SPAN → frame_word g c ≡ frame_word h d → (g ≡ h) × (c ≡ d)
parts_of_word g h c d low low' e = (omega (arith, e), omega (arith, e))
