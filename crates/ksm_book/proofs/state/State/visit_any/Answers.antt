use Rattle.ksm_book.proofs.Names.{ap, refl, view_of}
use Rattle.ksm_book.specs.contracts.state.State.{the_view}
use Rattle.ksm_book.proofs.RowVisits.{finds_it, found_lawful, shared_visited, waits_visited}
use Rattle.ksm_book.proofs.state.State.visit_any.Goals as goal

pub invariant_of-self-2 : goal.invariant_of-self-2
invariant_of-self-2 c = found_lawful _ c.self.invariant _ c.in_ok-found.ensures.found

pub returns-in-Waits-clause-visited : goal.returns-in-Waits-clause-visited
returns-in-Waits-clause-visited c = waits_visited _ (the_view (record c.self.inside { pages = c.visit.new.self }))
    (finds_it _ (λ e. cc) c.self.invariant (ap view_of c.self.view_is) _ c.in-Waits.is c.in_ok-found.ensures.found) refl

pub returns-in_ok-join-in-Dup-clause-visited : goal.returns-in_ok-join-in-Dup-clause-visited
returns-in_ok-join-in-Dup-clause-visited c =
    let met = finds_it _ (λ e. cc) c.self.invariant (ap view_of c.self.view_is) _ c.in-Dup.is c.in_ok-found.ensures.found in
    shared_visited c.args.self.now c.join.new.self met met.so.0 met.so.2 c.in_ok-join-in-Dup.ensures.visited

pub returns-in-Zero-clause-visited : goal.returns-in-Zero-clause-visited
returns-in-Zero-clause-visited c =
    let met = finds_it _ (λ e. cc) c.self.invariant (ap view_of c.self.view_is) _ c.in-Zero.is c.in_ok-found.ensures.found in
    shared_visited c.args.self.now c.become_zero.new.self met met.so.0 met.so.4 c.become_zero.ensures.visited

pub returns-in_ok-pair-in-Partner-clause-visited : goal.returns-in_ok-pair-in-Partner-clause-visited
returns-in_ok-pair-in-Partner-clause-visited c =
    let met = finds_it _ (λ e. cc) c.self.invariant (ap view_of c.self.view_is) _ c.in-Partner.is c.in_ok-found.ensures.found in
    shared_visited c.args.self.now c.pair.new.self met met.so.0 met.so.5 c.in_ok-pair-in-Partner.ensures.visited
