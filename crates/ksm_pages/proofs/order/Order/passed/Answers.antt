use Rattle.ksm_pages.proofs.Names.{ap, arith, drop, Some, sym, up_to_few, visited, ◌∙◌}
use Rattle.ksm_pages.proofs.Ranked.{behind_is, visited_many}
use Rattle.ksm_pages.proofs.order.Order.passed.Goals as goal

pub returns-clause-ahead : goal.returns-clause-ahead
returns-clause-ahead g c =
    rw c.in-Some.is (behind_is c.self.inside.pages c.self.view_is (Some c.in-Some.page) c.from_of.result c.from_of.ensures c.self.invariant.ascending
    ∙ ap (λ n. drop n (visited c.args.self.now)) (sym c.up_to.ensures))

pub returns-clause-within : goal.returns-clause-within
returns-clause-within g c = omega (arith, c.up_to.ensures, up_to_few c.from_of.result c.self.inside.pages, visited_many c.self.inside.pages c.self.view_is)
