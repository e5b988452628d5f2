use Rattle.ksm_order.proofs.Names.{arith, nat_lt}
use Rattle.ksm_order.proofs.Parts.{any_in_part, begins_any}
use Rattle.ksm_order.proofs.node.reaches_on.Goals as goal

pub returns-then-at-parts-clause-told : goal.returns-then-at-parts-clause-told
returns-then-at-parts-clause-told g c told =
    grind (arith, any_in_part g.P.Part.items c.args.parts.now _ c.if-at-parts.true c.index-parts-at.is (λ x. nat_lt c.args.key x.key), begins_any c.args.key)
