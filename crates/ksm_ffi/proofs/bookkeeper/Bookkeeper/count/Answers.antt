use Rattle.std.proofs.Common.{refl, ap, ◌∙◌}
use Rattle.ksm_base.specs.Counting.{counters_of}
use Rattle.ksm_book.specs.Carried.{JournaledBook}
use Rattle.ksm_ffi.proofs.bookkeeper.Bookkeeper.count.Goals as goal

pub returns : goal.returns
returns c = (refl, c.counters.ensures ∙ ap (λ (b : JournaledBook). counters_of b.state) c.self.view_is)
