use Rattle.ksm_tree.proofs.Names.{arith, bit_at-trailing_zeros, w64}
use Rattle.ksm_tree.proofs.bits.lowest.Goals as goal

pub returns : goal.returns
returns c = grind (arith, bit_at-trailing_zeros w64 c.args.word)
