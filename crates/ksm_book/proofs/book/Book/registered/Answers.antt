use Rattle.ksm_book.proofs.Names.{arith}
use Rattle.ksm_book.proofs.SoFar.{known_so_far}
use Rattle.ksm_book.proofs.book.Book.registered.Goals as goal

pub returns : goal.returns
returns c = grind (arith, known_so_far)
