use Rattle.ksm_tree.proofs.Chained.{told}
use Rattle.ksm_tree.proofs.dups.Dups.drop_stale.Goals as goal

pub vacate-requires : goal.vacate-requires
vacate-requires c = told c.self.invariant

pub invariant_of-self : goal.invariant_of-self
invariant_of-self c = c.vacate.ensures.chained _ c.self.invariant
