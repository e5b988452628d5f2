use Rattle.std.proofs.Common.{◌≡◌, ℕ, [], ◌∷◌, sym, ap, ◌∙◌, refl, arith}
use Rattle.frame_table.proofs.CoreNames.{frame_word, life_at, count_in, life_in}
use Rattle.frame_table.proofs.Names.{life_word}
use Rattle.frame_table.proofs.NoLookups.{words, long}
use Rattle.frame_table.proofs.worked.lookups_of_an_old_life.Goals as goal

pub returns-clause-at_once : goal.returns-clause-at_once
returns-clause-at_once c = ((life_word 3), [], (frame_word 4 2), (λ e. omega (arith, e), tt, omega arith), λ e. omega (arith, e), λ e. omega (arith, e), refl)

pub returns-clause-after_a_loss : goal.returns-clause-after_a_loss
returns-clause-after_a_loss c = (
  (life_word 3),
  ((frame_word 3 2), (frame_word 4 2)) ∷ [],
  (frame_word 4 2),
  (λ e. omega (arith, e), ((λ e. omega (arith, e), refl), λ e. omega (arith, e), tt), omega arith),
  λ e. omega (arith, e),
  λ e. omega (arith, e),
  refl,
)

pub returns-clause-same_life : goal.returns-clause-same_life
returns-clause-same_life c (word, [], last, goes, some, another, e) =
    let w : (frame_word 3 2) ≡ last = cc (words e) in let p : (life_word 3) ≡ word = cc (words e) in another (sym (ap life_in w) ∙ ap (λ (n : ℕ). (life_at n).generation) p)
returns-clause-same_life c (word, x ∷ xs, last, goes, some, another, e) = cc (e)

pub returns-clause-unreferenced : goal.returns-clause-unreferenced
returns-clause-unreferenced c (word, [], last, goes, some, another, e) = let w : (frame_word 4 0) ≡ last = cc (words e) in some (sym (ap count_in w))
returns-clause-unreferenced c (word, x ∷ xs, last, goes, some, another, e) = cc (e)

pub returns-clause-exchanged : goal.returns-clause-exchanged
returns-clause-exchanged c (word, xs, last, goes, some, another, e) = let n = long _ word xs _ _ e in omega (arith, n)

pub returns-clause-tried_there : goal.returns-clause-tried_there
returns-clause-tried_there c (word, [], last, goes, some, another, e) = cc (e)
returns-clause-tried_there c (word, x ∷ xs, last, (named, lost, few), some, another, e) =
    let w : (frame_word 4 2) ≡ x.0 = cc (words e) in
    let p : (life_word 3) ≡ word = cc (words e) in
    let n : 4 ≡ 3 = ap life_in w ∙ (lost.0.1 ∙ sym (ap (λ (n : ℕ). (life_at n).generation) p)) in
    omega (arith, n)
