use Rattle.ksm_book.proofs.Names.{arith, bytes_of, ◌≡◌}
use Rattle.ksm_book.proofs.SoFar.{bytes_so_far}
use Rattle.ksm_book.proofs.book.Book.read.Goals as goal
use Rattle.ksm_book.proofs.book.Book.read.Goals.{After-read}

bytes : (c : After-read) → c.read.result ≡ bytes_of c.args.page c.args.self.now.state
bytes c = grind (arith, c.read.ensures.bytes, c.self.view_is, bytes_so_far c.self.inside.due.reach c.self.inside.state.state c.args.page)

pub returns-clause-bytes : goal.returns-clause-bytes
returns-clause-bytes c = bytes c

pub returns-clause-stored : goal.returns-clause-stored
returns-clause-stored c = grind (arith, bytes c, c.each_page_has_what_was_stored_last.ensures.read, c.self.invariant.0, c.self.view_is)
