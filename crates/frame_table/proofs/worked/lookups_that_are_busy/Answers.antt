use Rattle.std.proofs.Common.{◌≡◌, ℕ, ◌+◌, ◌*◌, List, [], ◌∷◌, length, ap, sym, refl, ◌∙◌, arith, append-nil}
use Rattle.frame_table.specs.Lookup.{ReaderLog, lookup_so_far}
use Rattle.frame_core.specs.State.{count_in, frame_word}
use Rattle.frame_table.proofs.Names.{life_word}
use Rattle.frame_table.proofs.NoLookups.{words, long, made}
use Rattle.frame_table.proofs.worked.lookups_that_are_busy.Goals as goal

-- how long a log of so many lost rounds is
tried : (word : ℕ) (xs : List (ℕ × ℕ)) (log : ReaderLog) → log ≡ lookup_so_far 1 word xs → length log ≡ 1 + length xs * 2
tried word xs log e = let n = long 1 word xs [] log (e ∙ sym (append-nil (lookup_so_far 1 word xs))) in omega (arith, n)

pub returns-clause-all_tries : goal.returns-clause-all_tries
returns-clause-all_tries c = (
  (life_word 3),
  ((frame_word 3 2), (frame_word 3 1)) ∷ ((frame_word 3 1), (frame_word 4 1)) ∷ [],
  λ e. omega (arith, e),
  ((λ e. omega (arith, e), refl), λ e. omega (arith, e), ((λ e. omega (arith, e), refl), λ e. omega (arith, e), tt)),
  refl,
  refl,
)

pub returns-clause-one_try : goal.returns-clause-one_try
returns-clause-one_try c (word, xs, some, lost, two, e) = let n = tried word xs _ e in omega (arith, two, n)

pub returns-clause-three_tries : goal.returns-clause-three_tries
returns-clause-three_tries c (word, xs, some, lost, two, e) = let n = tried word xs _ e in omega (arith, two, n)

pub returns-clause-no_loss : goal.returns-clause-no_loss
returns-clause-no_loss c (word, [], some, lost, two, e) = cc (e)
returns-clause-no_loss c (word, x ∷ [], some, lost, two, e) = cc (e)
returns-clause-no_loss c (word, x ∷ y ∷ xs, some, lost, two, e) = made _ xs y lost.2 (cc (words e))

pub returns-clause-from_zero : goal.returns-clause-from_zero
returns-clause-from_zero c (word, [], some, lost, two, e) = cc (e)
returns-clause-from_zero c (word, x ∷ xs, some, lost, two, e) = let w : (frame_word 3 0) ≡ x.0 = cc (words e) in lost.0.0 (sym (ap count_in w))
