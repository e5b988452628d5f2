use Rattle.ksm_tree.proofs.Names.{arith}
use Rattle.ksm_tree.proofs.Chained.{ungrouped}
use Rattle.ksm_tree.proofs.dups.Dups.group_of.Goals as goal

pub returns-clause-none : goal.returns-clause-none
returns-clause-none c =
    rw (← c.self.view_is) (grind (arith, c.known.ensures.number, ungrouped c.self.invariant c.args.tree c.args.bytes.now))
