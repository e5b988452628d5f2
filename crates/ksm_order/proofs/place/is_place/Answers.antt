use Rattle.ksm_order.proofs.{arith, get_or_default, ℕ, ◌-◌}
use Rattle.ksm_order.proofs.place.is_place.Goals as goal

pub returns-then-at-items-2-clause-place : goal.returns-then-at-items-2-clause-place
returns-then-at-items-2-clause-place g c end = grind (arith, λ (k : ℕ). c.requires k (c.args.at - 1), get_or_default)

pub returns-else-at-items-2-clause-place : goal.returns-else-at-items-2-clause-place
returns-else-at-items-2-clause-place g c from =
    grind (arith, λ (k : ℕ). c.requires k (c.args.at - 1), c.requires c.args.at, get_or_default)
