use Rattle.ksm_order.proofs.{[], arith, drop-set-lt, get_or-set_same, local_without, nat_tests, nil_from_length, replaced, set_part, sym, take-set, ◌∙◌}
use Rattle.ksm_order.proofs.node.take_out.Goals as goal

pub returns-then-not-is_empty : goal.returns-then-not-is_empty
returns-then-not-is_empty g c =
    let at = rw c.as_slice.ensures.value at c.part_of-at.ensures in
    let removed = c.remove_from-fewer.ensures.removed in
    grind (arith, set_part c.requires at c.index_mut.ensures.value (local_without c.args.key) removed (grind (arith, get_or-set_same)))

pub returns : goal.returns
returns g c =
    let at = rw c.as_slice.ensures.value at c.part_of-at.ensures in
    let none = nil_from_length (g.P.Part.items c.remove_from-fewer.new.part) (grind (arith, nat_tests, get_or-set_same)) in
    grind (arith, replaced c.requires at c.index_mut.ensures.value (local_without c.args.key) {all = c.remove.new.self.items} [] (λ k d lt. absurd (omega arith)) (sym none ∙ c.remove_from-fewer.ensures.removed) (grind (arith, take-set, drop-set-lt)))
