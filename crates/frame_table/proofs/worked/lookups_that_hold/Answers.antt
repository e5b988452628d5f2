use Rattle.std.proofs.Common.{◌≡◌, ℕ, [], ◌∷◌, ap, sym, ◌∙◌, refl, arith}
use Rattle.frame_table.proofs.CoreNames.{frame_word, life_at, count_in, life_in}
use Rattle.frame_table.proofs.Names.{life_word}
use Rattle.frame_table.proofs.NoLookups.{words, long, made}
use Rattle.frame_table.proofs.worked.lookups_that_hold.Goals as goal

pub returns-clause-at_once : goal.returns-clause-at_once
returns-clause-at_once c = ((life_word 3), [], (frame_word 3 2), (λ e. omega (arith, e), tt, omega arith), (λ e. omega (arith, e), refl), refl, refl, refl)

pub returns-clause-after_a_loss : goal.returns-clause-after_a_loss
returns-clause-after_a_loss c = (
  (life_word 3),
  ((frame_word 3 2), (frame_word 3 1)) ∷ [],
  (frame_word 3 1),
  (λ e. omega (arith, e), ((λ e. omega (arith, e), refl), λ e. omega (arith, e), tt), omega arith),
  (λ e. omega (arith, e), refl),
  refl,
  refl,
  refl,
)

pub returns-clause-another_life : goal.returns-clause-another_life
returns-clause-another_life c (word, xs, last, goes, alive, frame, life, e) =
    let p : (life_word 3) ≡ word = cc (words e) in let n : 4 ≡ 3 = life ∙ sym (ap (λ (n : ℕ). (life_at n).generation) p) in omega (arith, n)

pub returns-clause-another_frame : goal.returns-clause-another_frame
returns-clause-another_frame c (word, xs, last, goes, alive, frame, life, e) =
    let p : (life_word 3) ≡ word = cc (words e) in let n : 1 ≡ 0 = frame ∙ sym (ap (λ (n : ℕ). (life_at n).frame) p) in omega (arith, n)

pub returns-clause-uncompared : goal.returns-clause-uncompared
returns-clause-uncompared c (word, [], last, goes, alive, frame, life, e) =
    let w : (frame_word 4 2) ≡ last = cc (words e) in let n : 4 ≡ 3 = ap life_in w ∙ alive.1 in omega (arith, n)
returns-clause-uncompared c (word, x ∷ xs, last, (named, lost, few), alive, frame, life, e) = made _ xs x lost (cc (words e))

pub returns-clause-lost : goal.returns-clause-lost
returns-clause-lost c (word, [], last, goes, alive, frame, life, e) =
    let a : (frame_word 3 2) ≡ last = cc (words e) in let b : (frame_word 3 1) ≡ last = cc (words e) in omega (arith, a, b)
returns-clause-lost c (word, x ∷ [], last, goes, alive, frame, life, e) = cc (e)
returns-clause-lost c (word, x ∷ y ∷ xs, last, goes, alive, frame, life, e) = cc (e)

pub returns-clause-from_zero : goal.returns-clause-from_zero
returns-clause-from_zero c (word, [], last, goes, alive, frame, life, e) = let w : (frame_word 3 0) ≡ last = cc (words e) in alive.0 (sym (ap count_in w))
returns-clause-from_zero c (word, x ∷ [], last, goes, alive, frame, life, e) = cc (e)
returns-clause-from_zero c (word, x ∷ y ∷ xs, last, goes, alive, frame, life, e) = cc (e)

pub returns-clause-after_all_tries : goal.returns-clause-after_all_tries
returns-clause-after_all_tries c (word, xs, last, (named, lost, few), alive, frame, life, e) = let n = long _ word xs _ _ e in omega (arith, few, n)

pub returns-clause-not_exchanged : goal.returns-clause-not_exchanged
returns-clause-not_exchanged c (word, xs, last, goes, alive, frame, life, e) = let n = long _ word xs _ _ e in omega (arith, n)
