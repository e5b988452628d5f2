use Rattle.std.proofs.Common.{sym, subst₂, ap, ◌∙◌}
use Rattle.ksm_base.specs.Counting.{counters_of}
use Rattle.ksm_book.specs.Carried.{JournaledBook}
use Rattle.ksm_ffi.specs.declared.answer.Answer.{Answer}
use Rattle.ksm_base.specs.declared.counters.Counters.{Counters}
use Rattle.ksm_ffi.specs.Answers.{number_of}
use Rattle.ksm_ffi.specs.Books.{TellsCounters}
use Rattle.ksm_ffi.proofs.Seen.{seen, not_seen}
use Rattle.ksm_ffi.proofs.books.ksm_book_counters.Goals as goal
use Rattle.ksm_ffi.proofs.books.ksm_book_counters.Goals.{in-Book, in_default-deref}

pub returns-clause-counted : goal.returns-clause-counted
returns-clause-counted c =
    let thing = c.in-Some.thing.value in
    let told = (λ (b : JournaledBook) (a : Answer). TellsCounters (counters_of b.state) a c.match-deref.counted) in
    elim c.match-deref.branch [
      | in-Book w ↦
          let b = w.in-Book.bookkeeper in
          seen told b w.in-Book.field-1 _ _ thing c.match-deref.answer _ c.in-Some.ensures.old c.put.ensures (sym c.deref.ensures ∙ w.in-Book.is) c.number-2.ensures
          (subst₂ (λ (a : Answer) (m : Counters). TellsCounters (counters_of b.state) a m) (sym w.answer-is) (sym w.counted-is) w.count-answer.ensures)
      | in_default-deref w ↦
          not_seen told _ _ thing _ c.in-Some.ensures.old c.put.ensures (c.number-2.ensures ∙ ap number_of w.answer-is) (λ b h is. w.in_default-deref.not-Book b h (c.deref.ensures ∙ is))
    ]
