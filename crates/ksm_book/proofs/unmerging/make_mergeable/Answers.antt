use Rattle.ksm_book.proofs.Names.{arith, refl}
use Rattle.ksm_book.proofs.Along.{along_end, along_next}
use Rattle.ksm_book.proofs.unmerging.make_mergeable.Goals as goal

pub pages-preserved : goal.pages-preserved
pages-preserved c =
    grind (arith, along_next (λ _. refl) c.pages.invariant.along c.lie_in_order.ensures.rise c.in-Some.ensures.1)

pub returns : goal.returns
returns c = grind (arith, along_end (λ _. refl) c.pages.invariant.along c.in_default.ensures)
