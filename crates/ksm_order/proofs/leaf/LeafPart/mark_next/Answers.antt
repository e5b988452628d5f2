use Rattle.ksm_order.proofs.{arith, find_here, get_or_default, IsHere}
use Rattle.ksm_order.proofs.leaf.LeafPart.mark_next.Goals as goal

pub returns-clause-there : goal.returns-clause-there
returns-clause-there c =
    let here : IsHere (λ x. x.key) c.args.key c.self.inside.items.items c.self.inside.next = record { within = omega arith; is = λ d. grind (arith, get_or_default) } in
    grind (arith, find_here c.self.invariant.ascending here)
