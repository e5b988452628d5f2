use Rattle.ksm_order.proofs.{drop, flat_map, key_at, marked, ◌≡◌}
use Rattle.ksm_order.proofs.node.NodePart.nth.Given as goal

-- the one looked for stands among the parts ahead at the place that is left
abbrev pub invariant-loop-part : goal.invariant-loop-part
invariant-loop-part g l =
    key_at (marked (flat_map g.P.Part.items (drop l.part-index l.parts))) l.left ≡ key_at (marked (flat_map g.P.Part.items l.parts)) l.initial.left
