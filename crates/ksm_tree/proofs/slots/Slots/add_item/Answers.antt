use Rattle.ksm_tree.proofs.Names.{arith, get_or_past, length-append, nil_from_length, with_item}
use Rattle.ksm_tree.proofs.OneSlot.{seen_slot, slots_changed}
use Rattle.ksm_tree.proofs.slots.Slots.add_item.Goals as goal

pub invariant_of-self-then-count-eq1 : goal.invariant_of-self-then-count-eq1
invariant_of-self-then-count-eq1 c = rw (c.in_ok-count.ensures.added, c.set.ensures)
    (slots_changed c.self.invariant c.args.place (with_item c.args.page) (grind (arith, seen_slot))
    c.in_ok-count.ensures.count (grind (arith, c.mark.ensures)))

pub invariant_of-self-else-count-eq1 : goal.invariant_of-self-else-count-eq1
invariant_of-self-else-count-eq1 c =
    rw (c.in_ok-count.ensures.added, c.set.ensures)
    (slots_changed c.self.invariant c.args.place (with_item c.args.page) (grind (arith, seen_slot))
    c.in_ok-count.ensures.count (grind (arith, length-append, nil_from_length, seen_slot, get_or_past, c.self.invariant.stales)))
