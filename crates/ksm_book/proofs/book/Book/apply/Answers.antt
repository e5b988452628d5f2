use Rattle.ksm_book.proofs.Carried.{carried_out}
use Rattle.ksm_book.proofs.book.Book.apply.Goals as goal

pub returns-in_default-clause-carried : goal.returns-in_default-clause-carried
returns-in_default-clause-carried c = carried_out (rw (← c.self.view_is) c.carry_out-answer.ensures.carried)
