use Rattle.ksm_tree.proofs.Names.{arith, bit_at_set_same, get_or_default, length-set, nat_tests, w64}
use Rattle.ksm_tree.proofs.NumberBits.{marks_more, summed_put}
use Rattle.ksm_tree.proofs.bits.WordsBits.add.Goals as goal

pub invariant_of-self : goal.invariant_of-self
invariant_of-self g c = grind (arith, nat_tests, get_or_default, length-set, summed_put, bit_at_set_same w64)

pub returns-else-this-gt1 : goal.returns-else-this-gt1
returns-else-this-gt1 g c = grind (arith, get_or_default, marks_more c.args.self.now c.args.number)
