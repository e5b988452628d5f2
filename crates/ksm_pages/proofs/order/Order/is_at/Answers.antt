use Rattle.ksm_pages.proofs.Names.{add-one, ap, arith, drop, IsTrue, same_as_key, same_page_eq, slice_get, slice_get_past, Some, sym, visited, ◌==◌, ◌∙◌, ◌≡◌}
use Rattle.ksm_pages.proofs.Ranked.{behind_at, visited_at}
use Rattle.ksm_pages.proofs.order.Order.is_at.Goals as goal
use Rattle.ksm_pages.proofs.order.Order.is_at.Goals.{After-key_of}

-- the page is the one at the place
there : (g : _) (c : After-key_of g) → IsTrue (c.in-Some.key == c.key_of.result) → slice_get (visited c.args.self.now) c.args.place ≡ Some c.args.page
there g c is =
    visited_at c.self.inside.pages c.self.view_is c.args.place (sym c.nth.ensures ∙ c.in-Some.is)
    ∙ ap Some (same_page_eq _ _ (same_as_key c.args.page c.key_of.ensures.few c.in-Some.key
    ∙ ap (λ n. c.in-Some.key == n) (sym c.key_of.ensures.key) ∙ is))

pub returns-in-Some-clause-within : goal.returns-in-Some-clause-within
returns-in-Some-clause-within g c = λ is.
    grind (arith, there g ((goal.at.returns-in-Some-clause-within g c).After-key_of) is, slice_get_past (visited c.args.self.now) c.args.place)

pub returns-in-Some-clause-behind : goal.returns-in-Some-clause-behind
returns-in-Some-clause-behind g c = λ is.
    behind_at c.self.inside.pages c.self.view_is c.self.invariant.ascending c.args.place (there g ((goal.at.returns-in-Some-clause-behind g c).After-key_of) is)
    ∙ ap (λ n. drop n (visited c.args.self.now)) (sym (add-one c.args.place))
