use Rattle.ksm_book.proofs.Names.{arith}
use Rattle.ksm_book.proofs.Folded.{nowhere_is}
use Rattle.ksm_book.proofs.state.State.close_pass.Goals as goal

pub returns-then-under_way-clause-closed : goal.returns-then-under_way-clause-closed
returns-then-under_way-clause-closed c = grind (arith, nowhere_is)

pub returns-clause-closed : goal.returns-clause-closed
returns-clause-closed c = grind (arith, nowhere_is)
