use Rattle.ksm_book.proofs.Names.{arith, Ok, Prune, Pruned, seen}
use Rattle.ksm_book.proofs.Singles.{Does, lawful}
use Rattle.ksm_book.proofs.state.State.prune.Goals as goal

pub invariant_of-self : goal.invariant_of-self
invariant_of-self c =
    let did : Does c.self.inside (seen c.drop_stale-count.new.pages) c.drop_stale-count.new.keeper Prune
    (Ok (Pruned c.drop_stale-count.result)) = (grind arith, c.drop_stale-count.ensures.laid) in
    lawful c.self.invariant.0 did
