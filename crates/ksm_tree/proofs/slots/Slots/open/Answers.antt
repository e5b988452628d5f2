use Rattle.ksm_tree.proofs.Names.{arith, length-replicate, ◌∙◌}
use Rattle.ksm_tree.proofs.OneSlot.{none_set, none_slots}
use Rattle.ksm_tree.proofs.slots.Slots.open.Goals as goal

pub invariant_of-result : goal.invariant_of-result
invariant_of-result c =
    let n = c.args.places in
    rw c.in_ok-open.ensures.empty (record {
      few = rw length-replicate c.requires;
      placed = (none_slots 0 n).1;
      counted = c.in_ok-open-2.ensures.none ∙ (none_slots 0 n).2;
      empties = none_set n c.in_ok-full.ensures.wide c.in_ok-full.ensures.all (omega arith);
      stales = none_set n c.in_ok-empty.ensures.wide (λ p _. c.in_ok-empty.ensures.none p) (omega arith);
    })

pub returns-clause-opened : goal.returns-clause-opened
returns-clause-opened c = grind (arith, length-replicate, none_slots 0 c.args.places)
