use Rattle.ksm_order.proofs.{ap, arith, few_in_part, get_or-set_same, get_or_default, length, length-map, local_mark, nil_from_length, set_part}
use Rattle.ksm_order.proofs.node.mark_in.Goals as goal

pub set_mark-requires : goal.set_mark-requires
set_mark-requires g c =
    let at = rw c.as_slice.ensures.value at c.part_of-at.ensures in
    grind (arith, few_in_part at c.index_mut.ensures.value)

pub returns : goal.returns
returns g c =
    let at = rw c.as_slice.ensures.value at c.part_of-at.ensures in
    let is = c.index_mut.ensures.value in
    let marked = set_part c.requires.parts at is (local_mark c.args.key c.args.mark) c.set_mark.ensures (λ none. grind (arith, ap length none, length-map, nil_from_length (g.P.Part.items c.index_mut.result.now))) in
    grind (arith, marked, few_in_part at is, get_or-set_same, get_or_default)
