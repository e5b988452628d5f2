use Rattle.ksm_pages.proofs.Names.{arith}
use Rattle.ksm_pages.proofs.pages.Pages.open.Goals as goal

pub returns : goal.returns
returns c = grind (arith, c.new.ensures, c.in_ok-open.ensures)

pub returns-in_err-vec-clause-fault : goal.returns-in_err-vec-clause-fault
returns-in_err-vec-clause-fault c = grind (arith, c.from_residual-in_err-vec.ensures)
