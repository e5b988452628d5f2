use Rattle.ksm_pages.proofs.Names.{ap, arith, Item, key_of, last_of, length, length-filter, pages_between, rules, Some, sym, up_to, up_to_few, visited, ◌-◌, ◌∙◌, ◌≡◌}
use Rattle.ksm_order.specs.Listed.{marked}
use Rattle.ksm_pages.proofs.Ranked.{passed_last, passed_many, passed_none, some_at}
use Rattle.ksm_pages.proofs.order.Order.between.Goals as goal
use Rattle.ksm_pages.proofs.order.Order.between.Goals.{After-up_to-before}

before : (g : _) (c : After-up_to-before g) → c.up_to-before.result ≡ up_to (key_of c.args.page) c.self.inside.pages
before g c = c.up_to-before.ensures ∙ ap (λ n. up_to n c.self.inside.pages) c.key_of.ensures.key

pub returns-then-before-passed-clause-count : goal.returns-then-before-passed-clause-count
returns-then-before-passed-clause-count g c =
    let many : length (pages_between c.args.cursor c.args.page (visited c.args.self.now)) ≡ c.up_to-before.result - c.passed-passed.result =
    search (rules, passed_many) in
    search (rules, many)

pub returns-then-before-passed-clause-last : goal.returns-then-before-passed-clause-last
returns-then-before-passed-clause-last g c =
    sym (ap (last_of c.args.cursor) (passed_none _ c.self.view_is _ _ c.key_of.ensures.few c.self.invariant.ascending
    _ c.passed-passed.ensures.ahead (grind (arith, before)) c.if-before-passed.true))

pub returns-in-Some-clause-last : goal.returns-in-Some-clause-last
returns-in-Some-clause-last g c =
    ap Some c.page_of.ensures
    ∙ sym (passed_last _ c.self.view_is _ _ c.key_of.ensures.few c.self.invariant.ascending
    _ c.passed-passed.ensures.ahead (before g ((goal.at.returns-in-Some-clause-last g c).After-up_to-before)) (omega arith) (sym c.nth.ensures ∙ c.in-Some.is))

pub returns-in-None : goal.returns-in-None
returns-in-None g c =
    let items = c.self.inside.pages in
    absurd (some_at (marked items) _
    (omega (arith, c.if-before-passed.false, c.up_to-before.ensures, up_to_few c.key_of.result items, length-filter (λ (x : Item). x.marked) items))
    (sym c.nth.ensures ∙ c.in-None.is))
