use Rattle.std.proofs.Common.{◌≡◌, ℕ, ◌<◌, zero, suc, refl, arith}
use Rattle.frame_table.proofs.CoreNames.{count_in, life_in, frame_word, place_word, frame_at, named_at, frame_word_at}
use Rattle.std.specs.Prelude.{slice_index}
use Rattle.frame_table.specs.Worked.{ended, closed, life_word}
use Rattle.frame_table.proofs.worked.tables_that_were_closed.Goals as goal

-- of the one frame
only : (P : ℕ → Type 0) → P 0 → (f : ℕ) → f < 1 → P f
only P here zero below = here
only P here (suc f) below = absurd (omega (arith, below))

pub returns-clause-end : goal.returns-clause-end
returns-clause-end c = record {
  counts = only (λ f. count_in (slice_index (closed (life_word 1) (frame_word 1 1)).words (frame_word_at 1 f)) ≡ (frame_at ended f).base) refl;
  generations = only (λ f. life_in (slice_index (closed (life_word 1) (frame_word 1 1)).words (frame_word_at 1 f)) ≡ (frame_at ended f).generation) refl;
  places = only (λ p. slice_index (closed (life_word 1) (frame_word 1 1)).words p ≡ place_word (named_at ended p)) refl;
}

pub returns-clause-held : goal.returns-clause-held
returns-clause-held c = λ h. let n : ◌≡◌ {A = ℕ} 2 1 = h.counts 0 (omega arith) in omega (arith, n)

pub returns-clause-another_life : goal.returns-clause-another_life
returns-clause-another_life c = λ h. let n : ◌≡◌ {A = ℕ} 2 1 = h.generations 0 (omega arith) in omega (arith, n)

pub returns-clause-another_place : goal.returns-clause-another_place
returns-clause-another_place c = λ h. let n : ◌≡◌ {A = ℕ} 0 (life_word 1) = h.places 0 (omega arith) in omega (arith, n)
