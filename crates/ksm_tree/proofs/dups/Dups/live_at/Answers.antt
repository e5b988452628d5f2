use Rattle.ksm_tree.proofs.Names.{arith, is_live}
use Rattle.ksm_tree.proofs.Chained.{found_passing}
use Rattle.ksm_tree.proofs.dups.Dups.live_at.Goals as goal

pub returns : goal.returns
returns c =
    grind (arith, c.then_some.ensures, found_passing c.args.place is_live c.self.inside.slots.dups c.self.invariant.lawful.in_place_order)

pub returns-in_err-dup : goal.returns-in_err-dup
returns-in_err-dup c =
    grind (arith, found_passing c.args.place is_live c.self.inside.slots.dups c.self.invariant.lawful.in_place_order)
