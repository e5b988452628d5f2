use Rattle.ksm_order.proofs.{ap, arith, length, length-append, local_with, same_part, set_part}
use Rattle.ksm_order.proofs.node.put.Goals as goal

pub returns-in_err-insert : goal.returns-in_err-insert
returns-in_err-insert g c =
    let room = c.in_ok-into.ensures in
    grind (arith, room.items, same_part room.parts room.place c.index_mut.ensures.value c.in_err-insert.ensures.kept)

pub returns : goal.returns
returns g c =
    let room = c.in_ok-into.ensures in
    grind (arith, room.items, set_part room.parts room.place c.index_mut.ensures.value (local_with c.args.item) c.in_ok-insert.ensures.added (λ none. grind (arith, ap length none, length-append)))
