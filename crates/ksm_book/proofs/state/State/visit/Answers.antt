use Rattle.ksm_book.proofs.Names.{ap, refl, view_of, ◌≡◌}
use Rattle.ksm_book.specs.contracts.state.State.{the_view}
use Rattle.ksm_book.proofs.RowVisits.{finds_it, found_lawful, waits_visited}
use Rattle.ksm_book.proofs.state.State.visit.Goals as goal
use Rattle.ksm_book.proofs.state.State.visit.Goals.{After-visit_any}

pub invariant_of-self-in-Waits : goal.invariant_of-self-in-Waits
invariant_of-self-in-Waits c = found_lawful _ c.self.invariant _ (c.glance.ensures.waits c.in-Waits.is)

pub invariant_of-self-in-Changed : goal.invariant_of-self-in-Changed
invariant_of-self-in-Changed c = found_lawful _ c.self.invariant _ (c.glance.ensures.changed c.in-Changed.is)

pub returns-in-Waits-clause-visited : goal.returns-in-Waits-clause-visited
returns-in-Waits-clause-visited c = waits_visited _ _
    (finds_it _ (λ e. cc) c.self.invariant (ap view_of c.self.view_is) _ refl (c.glance.ensures.waits c.in-Waits.is)) refl

-- where a glance tells nothing, the book is as it was
as_before : (c : After-visit_any) → the_view (record c.self.inside { pages = c.glance.new.self }) ≡ c.args.self.now
as_before c = rw (c.glance.ensures.nothing c.in-Nothing.is) c.self.view_is

pub returns-in-Nothing-clause-visited : goal.returns-in-Nothing-clause-visited
returns-in-Nothing-clause-visited c =
    rw (← as_before (goal.at.returns-in-Nothing-clause-visited c).After-visit_any) c.visit_any.ensures.visited

pub returns-in-Nothing-clause-refused : goal.returns-in-Nothing-clause-refused
returns-in-Nothing-clause-refused c =
    rw (← as_before (goal.at.returns-in-Nothing-clause-refused c).After-visit_any) c.visit_any.ensures.refused
