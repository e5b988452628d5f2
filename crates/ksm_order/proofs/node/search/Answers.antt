use Rattle.ksm_order.proofs.{ahead_of, arith, behind_later, behind_of}
use Rattle.ksm_order.proofs.node.search.Goals as goal

pub loop-low-preserved-then-begins_behind : goal.loop-low-preserved-then-begins_behind
loop-low-preserved-then-begins_behind g c = grind (arith, behind_of, c.index-parts-mid.is)

pub loop-low-preserved : goal.loop-low-preserved
loop-low-preserved g c =
    grind (arith, ahead_of _ c.args.parts.now _ (omega arith) c.index-parts-mid.is c.args.key c.requires.parts)

pub returns : goal.returns
returns g c = grind (arith, behind_later g.P.Part.items c.args.key c.args.parts.now c.loop-low.low)
