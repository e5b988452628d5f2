use Rattle.ksm_book.proofs.Names.{arith}
use Rattle.ksm_book.proofs.SoFar.{all_so_far}
use Rattle.ksm_book.proofs.state.State.end_pass_over_due.Goals as goal

pub returns-then-later-eq0-clause-state : goal.returns-then-later-eq0-clause-state
returns-then-later-eq0-clause-state c = grind (arith, all_so_far)
