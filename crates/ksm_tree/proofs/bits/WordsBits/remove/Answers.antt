use Rattle.ksm_tree.proofs.Names.{arith, get_or-set_other, get_or-set_same, get_or_default, length-set}
use Rattle.ksm_tree.proofs.NumberBits.{marks_less, summed_put}
use Rattle.ksm_tree.proofs.bits.WordsBits.remove.Goals as goal

pub invariant_of-self : goal.invariant_of-self
invariant_of-self g c = grind (arith, get_or_default, length-set, summed_put)

pub invariant_of-self-else-left-eq0 : goal.invariant_of-self-else-left-eq0
invariant_of-self-else-left-eq0 g c = grind (arith, get_or_default, length-set, get_or-set_same, get_or-set_other)

pub returns-else-this-gt1 : goal.returns-else-this-gt1
returns-else-this-gt1 g c =
    grind (arith, get_or_default c.self.inside.words.items, marks_less c.args.self.now c.args.number)
