-- The words of a page are read one after another.
use Rattle.std.proofs.Common.{ℕ, ◌+◌, ◌<◌, List, length, Some, None, get_or, set, sym, ap, ◌∙◌, subst, arith, get_or-set_other, get_or-set_same}
use mathlib.Core.Logic.{dite}
use native.Mathlib.Decide.{ℕ_discrete}
use Rattle.frame_table.specs.Named.{HeldView}
use Rattle.frame_table.specs.Lookup.{ReadsWord}
use Rattle.frame_table.specs.Equal.{IsRead}

-- the words of a page read and kept so far stay so as one more word is read and kept
pub one_more_read : (words : List ℕ) (w x : HeldView) (i word : ℕ) → i < length words → ReadsWord w i word x → ((k : ℕ) → k < i → IsRead w k (get_or words k 0)) → (k : ℕ) → k < i + 1 → IsRead x k (get_or (set words i word) k 0)
one_more_read words w x i word room r before k below = dite (ℕ_discrete k i)
    (λ here. subst (λ (j : ℕ). IsRead x j (get_or (set words i word) j 0)) (sym here) (r.2 ∙ ap Some (sym (get_or-set_same words i word 0 room))))
    (λ else. ap (λ (z : HeldView). get_or z.known k None) r.0 ∙ (get_or-set_other w.known i k (Some word) None else ∙ (before k (omega arith) ∙ ap Some (sym (get_or-set_other words i k word 0 else)))))
