use Rattle.ksm_book.proofs.book.Book.counters.Goals as goal

pub returns : goal.returns
returns c = rw (← c.self.view_is) c.counters_so_far.ensures
