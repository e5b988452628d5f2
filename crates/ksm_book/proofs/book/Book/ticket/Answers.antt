use Rattle.ksm_book.proofs.Names.{arith}
use Rattle.ksm_book.proofs.SoFar.{ticket_so_far}
use Rattle.ksm_book.proofs.book.Book.ticket.Goals as goal

pub returns : goal.returns
returns c = grind (arith, ticket_so_far)
