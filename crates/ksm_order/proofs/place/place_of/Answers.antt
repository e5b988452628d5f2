use Rattle.std.specs.Prelude.{◌/◌}
use Rattle.ksm_order.proofs.Names.{arith, get_or_default, ℕ, ◌+◌}
use Rattle.ksm_order.proofs.place.place_of.Goals as goal

pub loop-left-preserved-then-key : goal.loop-left-preserved-then-key
loop-left-preserved-then-key g c =
    grind (arith, λ (k : ℕ). c.requires k (c.loop-left.at + c.loop-left.left / 2), get_or_default)

pub loop-left-preserved : goal.loop-left-preserved
loop-left-preserved g c =
    grind (arith, c.requires (c.loop-left.at + c.loop-left.left / 2), get_or_default)
