use Rattle.ksm_book.proofs.Names.{arith, IsSound, refl, sound_none_waiting, subst, sym}
use Rattle.ksm_book.proofs.Laying.{laid_mapped}
use Rattle.ksm_book.proofs.state.State.begin_pass.Goals as goal

pub invariant_of-self : goal.invariant_of-self
invariant_of-self c = (
  subst IsSound (sym (grind (arith, c.settle_all.ensures))) (sound_none_waiting _ c.self.invariant.0),
  rw c.settle_all.ensures (laid_mapped c.self.invariant.1 _ (λ r. refl) (grind arith)),
)
