use Rattle.ksm_order.proofs.{drop, flat_map, many, ◌+◌, ◌≡◌}
use Rattle.ksm_order.proofs.node.count_marked.Given as goal

-- those counted and those of the parts ahead are all
abbrev pub invariant-loop-part : goal.invariant-loop-part
invariant-loop-part g l =
    l.count + many (flat_map g.P.Part.items (drop l.part-index l.parts)) ≡ many (flat_map g.P.Part.items l.parts)
