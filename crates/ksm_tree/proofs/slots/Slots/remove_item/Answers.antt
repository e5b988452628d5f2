use Rattle.ksm_tree.proofs.Names.{arith, get_or_past, nil_from_length, without_item}
use Rattle.ksm_tree.proofs.OneSlot.{seen_slot, slots_changed, slots_same}
use Rattle.ksm_tree.proofs.slots.Slots.remove_item.Goals as goal

pub invariant_of-self : goal.invariant_of-self
invariant_of-self c = rw (c.in-Some.ensures.removed, c.set.ensures)
    (slots_changed c.self.invariant c.args.place (without_item c.args.page) (grind (arith, seen_slot))
    (grind arith) (grind (arith, c.mark.ensures)))

pub invariant_of-self-else-left-eq0 : goal.invariant_of-self-else-left-eq0
invariant_of-self-else-left-eq0 c = rw (c.in-Some.ensures.removed, c.set.ensures)
    (slots_changed c.self.invariant c.args.place (without_item c.args.page) (grind (arith, seen_slot)) (grind arith)
    (grind (arith, nil_from_length, seen_slot, get_or_past, c.self.invariant.stales)))

pub invariant_of-self-in_default : goal.invariant_of-self-in_default
invariant_of-self-in_default c = grind (arith, slots_same)
