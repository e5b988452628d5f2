use Rattle.ksm_tree.proofs.Names.{arith, None, refl}
use Rattle.ksm_tree.proofs.OneSlot.{seen_within, slots_set}
use Rattle.ksm_tree.proofs.slots.Slots.clear.Goals as goal

pub invariant_of-self : goal.invariant_of-self
invariant_of-self c =
    rw (c.clear.ensures.slots, c.set.ensures)
    (slots_set c.self.invariant _ None (grind (arith, seen_within)) refl (tt, tt)
    c.mark-2.ensures c.mark.ensures)
