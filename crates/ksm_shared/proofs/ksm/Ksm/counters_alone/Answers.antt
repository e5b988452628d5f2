use Rattle.std.proofs.Common.{◌∙◌, ap}
use Rattle.ksm_base.specs.Counting.{counters_of}
use Rattle.ksm_book.specs.Carried.{JournaledBook}
use Rattle.ksm_shared.specs.Locked.{Locked}
use Rattle.ksm_shared.proofs.ksm.Ksm.counters_alone.Goals as goal

pub returns-clause-counters : goal.returns-clause-counters
returns-clause-counters g c =
    c.counters.ensures
    ∙ ap (λ (b : JournaledBook). counters_of b.state) c.book.ensures
    ∙ ap (λ (l : Locked). counters_of l.book.state) c.show.ensures.kept
    ∙ ap counters_of c.show.ensures.state
