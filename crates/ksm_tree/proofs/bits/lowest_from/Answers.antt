use Rattle.ksm_tree.proofs.Names.{arith, bit_at_above}
use Rattle.ksm_tree.proofs.NumberBits.{bit_behind, bit_of_rest}
use Rattle.ksm_tree.proofs.bits.lowest_from.Goals as goal

pub returns-then-rest-eq0 : goal.returns-then-rest-eq0
returns-then-rest-eq0 c = grind (arith, bit_behind c.args.word c.args.from)

pub returns-else-rest-eq0 : goal.returns-else-rest-eq0
returns-else-rest-eq0 c =
    let rest = bit_of_rest c.args.word c.args.from c.lowest.result in
    grind (arith, rest, bit_at_above c.args.word 64, bit_behind c.args.word c.args.from)
