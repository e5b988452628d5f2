-- The core state: what the keeper knows, the references on each frame, and how far each reader has come; and how words of the table are packed.
-- Source: own, after mm/ksm (a stable node has no reference on its page).
use Rattle.std.specs.Prelude.{ℕ, ◌+◌, ◌*◌, ◌/◌, ◌%◌, List, Option, None, Some}
use Rattle.frame_core.specs.Terms.{COUNT_SPAN, PLACE_SPAN, Ledger, Life, Phase}

-- the keeper's ledger tells of each frame all but its count, and what each place names
pub record State : Type 0 where
  pub ledger : Ledger
  pub counts : List ℕ
  pub seats : List Phase

-- the word of a place: 0 for none, else the generation and the frame in one number
abbrev pub place_word : Option Life → ℕ
place_word None = 0
place_word (Some life) = life.generation * PLACE_SPAN + life.frame

-- the frame and the life in the word of a place that is not empty
abbrev pub life_at : ℕ → Life
life_at w = record { frame = w % PLACE_SPAN; generation = w / PLACE_SPAN }

-- the word of a frame: the generation and the count in one number
abbrev pub frame_word : ℕ → ℕ → ℕ
frame_word generation count = generation * COUNT_SPAN + count

-- the count and the generation in the word of a frame
abbrev pub count_in : ℕ → ℕ
count_in w = w % COUNT_SPAN

abbrev pub life_in : ℕ → ℕ
life_in w = w / COUNT_SPAN
