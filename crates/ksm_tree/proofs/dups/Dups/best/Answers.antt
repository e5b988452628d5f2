use Rattle.ksm_tree.proofs.Names.{[], arith, true}
use Rattle.ksm_tree.proofs.Joining.{walk_best}
use Rattle.ksm_tree.proofs.dups.Dups.best.Goals as goal

pub returns-in_err-group-clause-best : goal.returns-in_err-group-clause-best
returns-in_err-group-clause-best c =
    grind (arith, walk_best c.args.tree c.args.bytes.now c.args.limit c.self.inside.slots.dups [] true (grind (arith, c.in_err-group.ensures, c.self.invariant.grouped c.args.tree c.args.bytes.now)) c.self.invariant.lawful.in_place_order)
