use Rattle.ksm_book.proofs.state.State.counters.Goals as goal

pub returns : goal.returns
returns c = rw (← c.self.view_is) c.counters.ensures
