use Rattle.ksm_book.proofs.Names.{arith, list_any-append, Named, pages_of, pages_ordered, refl, same_page, with_rises}
use Rattle.ksm_book.proofs.Dues.{has_found, has_put, pages_in}
use Rattle.ksm_book.proofs.due.Due.insert.Goals as goal

pub invariant_of-self-2 : goal.invariant_of-self-2
invariant_of-self-2 c =
    rw c.in_ok-insert.ensures.added
    (with_rises pages_ordered (λ (m : Named). m.page) c.args.spot.page _ c.self.inside.order refl c.self.invariant)

pub returns-then-is_some-clause-added : goal.returns-then-is_some-clause-added
returns-then-is_some-clause-added c = λ x.
    let order = c.self.inside.order in
    let there = has_found c.args.spot.page order in
    let either = list_any-append (λ q. same_page q c.args.spot.page) (pages_in order) (pages_of c.self.inside.added.items) in
    grind (arith, c.self.view_is)

pub returns-clause-added : goal.returns-clause-added
returns-clause-added c = λ x. grind (arith, c.self.view_is, list_any-append, has_put)
