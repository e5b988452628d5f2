use Rattle.std.proofs.Common.{◌≡◌, [], ◌∷◌, ap, ◌∙◌, refl, arith}
use Rattle.frame_core.specs.State.{count_in, frame_word}
use Rattle.frame_table.proofs.Names.{life_word}
use Rattle.frame_table.proofs.NoLookups.{words, long, made}
use Rattle.frame_table.proofs.worked.lookups_of_an_unreferenced_frame.Goals as goal

pub returns-clause-at_once : goal.returns-clause-at_once
returns-clause-at_once c = ((life_word 3), [], (frame_word 3 0), (λ e. omega (arith, e), tt, omega arith), refl, refl)

pub returns-clause-in_any_life : goal.returns-clause-in_any_life
returns-clause-in_any_life c = ((life_word 3), [], (frame_word 4 0), (λ e. omega (arith, e), tt, omega arith), refl, refl)

pub returns-clause-after_a_loss : goal.returns-clause-after_a_loss
returns-clause-after_a_loss c = (
  (life_word 3),
  ((frame_word 3 2), (frame_word 3 1)) ∷ [],
  (frame_word 3 0),
  (λ e. omega (arith, e), ((λ e. omega (arith, e), refl), λ e. omega (arith, e), tt), omega arith),
  refl,
  refl,
)

pub returns-clause-after_all_tries : goal.returns-clause-after_all_tries
returns-clause-after_all_tries c (word, xs, last, (named, lost, few), none, e) = let n = long _ word xs _ _ e in omega (arith, few, n)

pub returns-clause-after_no_loss : goal.returns-clause-after_no_loss
returns-clause-after_no_loss c (word, [], last, goes, none, e) = cc (e)
returns-clause-after_no_loss c (word, x ∷ xs, last, (named, lost, few), none, e) = made _ xs x lost (cc (words e))

pub returns-clause-referenced : goal.returns-clause-referenced
returns-clause-referenced c (word, [], last, goes, none, e) =
    let w : (frame_word 3 1) ≡ last = cc (words e) in let n : 1 ≡ 0 = ap count_in w ∙ none in omega (arith, n)
returns-clause-referenced c (word, x ∷ xs, last, goes, none, e) = cc (e)
