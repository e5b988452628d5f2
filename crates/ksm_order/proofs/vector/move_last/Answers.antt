use Rattle.ksm_order.proofs.{[], arith, get_or-append_seam, length-append, moved_up, ◌∷◌}
use Rattle.ksm_order.proofs.vector.move_last.Goals as goal

pub returns-then-at-last : goal.returns-then-at-last
returns-then-at-last g c others item is =
    grind (arith, is, length-append others (item ∷ []), get_or-append_seam others item [], moved_up others c.args.at item)
