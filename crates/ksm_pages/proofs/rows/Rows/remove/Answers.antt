use Rattle.ksm_pages.proofs.Names.{rules}
use Rattle.ksm_pages.proofs.Leading.{led_out}
use Rattle.ksm_pages.proofs.Writing.{can_be, still_gone}
use Rattle.ksm_pages.proofs.rows.Rows.remove.Goals as goal

pub change-requires : goal.change-requires
change-requires c = search (rules, can_be c.self.inside c.self.invariant.0 c.in-Some.ensures.there)

pub invariant_of-self : goal.invariant_of-self
invariant_of-self c =
    let s = c.self.inside in (
      rw c.lose_row.ensures (rw c.remove.ensures (still_gone s c.self.invariant.0 c.in-Some.ensures.there c.remove-gone.ensures.value
          c.remove-gone.ensures.updates c.state.ensures c.change.ensures)),
      led_out c.self.invariant.1 c.remove-gone.ensures.updates (λ e is. cc),
    )
