use Rattle.ksm_tree.proofs.Names.{arith, refl, Some}
use Rattle.ksm_tree.proofs.OneSlot.{seen_slot, slots_set}
use Rattle.ksm_tree.proofs.slots.Slots.put.Goals as goal

pub invariant_of-self : goal.invariant_of-self
invariant_of-self c = rw (c.put.ensures, c.set.ensures)
    (slots_set c.self.invariant _ (Some c.args.dup) (grind arith) c.len.ensures.count (refl, tt) c.mark.ensures
    (grind (arith, seen_slot, c.self.invariant.stales)))
