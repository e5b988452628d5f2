use Rattle.ksm_book.proofs.Names.{ap, arith, BookValue, Comes, due_visited, Find, inl, inr, on_err, refl, seen, StaysBefore, sym, view_of, ◌∙◌, ◌∷◌, ◌≡◌}
use Rattle.ksm_book.specs.contracts.state.State.{the_view}
use Rattle.ksm_book.proofs.DueFound.{changed_keeps, changed_later, left_due, partner_takes}
use Rattle.ksm_book.proofs.RowVisits.{finds_it, found_lawful}
use Rattle.ksm_book.proofs.state.State.visit_due.Goals as goal
use Rattle.ksm_book.proofs.state.State.visit_due.Goals.{After-remove, in-Dup+in_ok-join-in-Dup, in-Gone, in-Partner+in_ok-pair-in-Partner, in-Zero, In_ok-found}
use Rattle.ksm_book.proofs.DueKept.{IsDueNoMore, more_due}
use Rattle.ksm_book.proofs.Folded.{changed_comes}
use Rattle.ksm_book.proofs.SoFar.{KeepsLater}

-- where the search changed nothing, what was reached with the book is reached still
as_before : (c : In_ok-found) → seen c.visit.new.self ≡ seen c.self.inside.pages
    → Comes c.args.self.now (the_view (record c.self.inside { pages = c.visit.new.self })) (λ s. s)
as_before c same = changed_comes _ _ (λ b. b) (grind (arith, same, c.self.view_is))

pub invariant_of-self-2 : goal.invariant_of-self-2
invariant_of-self-2 c = found_lawful _ c.self.invariant _ c.in_ok-found.ensures.found

pub take_over-requires-clause-takes : goal.take_over-requires-clause-takes
take_over-requires-clause-takes c =
    let found = c.in_ok-found.ensures.found in
    let met = finds_it _ (λ e. cc) c.self.invariant (ap view_of c.self.view_is) _ c.in-Partner.is found in
    let takes = partner_takes c.in-Partner.other met (sym c.comes_before.ensures ∙ c.if-comes_before.false) in
    grind (arith, c.in-Partner.is, found, takes)

pub returns-in_err-take_over-in-Partner-2-clause-refused : goal.returns-in_err-take_over-in-Partner-2-clause-refused
returns-in_err-take_over-in-Partner-2-clause-refused c =
    let at = (goal.at.returns-in_err-take_over-in-Partner-2-clause-refused c).In_ok-found in
    let stays : StaysBefore c.args.spot.page c.args.self.now c.take_over.new.self = λ from s before.
    c.in_err-take_over-in-Partner-2.ensures.refused from s (as_before at (grind (arith, c.in-Partner.is, c.in_ok-found.ensures.found)) from s before) in
    on_err _ stays

pub returns-in-Partner-2-clause-comes : goal.returns-in-Partner-2-clause-comes
returns-in-Partner-2-clause-comes c = λ from s before. c.in_ok-take_over-in-Partner-2.ensures.comes from s
    (as_before (goal.at.returns-in-Partner-2-clause-comes c).In_ok-found (grind (arith, c.in-Partner.is, c.in_ok-found.ensures.found)) from s before)

pub returns-in-Changed-clause-due : goal.returns-in-Changed-clause-due
returns-in-Changed-clause-due c =
    changed_keeps (finds_it _ (λ e. cc) c.self.invariant (ap view_of c.self.view_is) _ c.in-Changed.is c.in_ok-found.ensures.found)
    _ c.requires.is_due c.requires.due

-- the page was visited as one that is due, which it is no longer
left : (c : After-remove) → Comes c.args.self.now c.match-found.self (λ s. due_visited s c.args.spot.page)
    × IsDueNoMore c.args.spot.page c.args.self.now.state c.match-found.self.state
    × KeepsLater c.args.spot.page c.args.self.now.state c.match-found.self.state
left c =
    let was = (goal.at.returns-clause-comes c).In_ok-found in
    let by = λ (w : BookValue) (f : Find) (is : was.in_ok-found.found ≡ f).
    left_due c.args.self.now w c.args.spot.page f (seen was.visit.new.self) was.self.invariant (ap view_of was.self.view_is) (rw is at was.in_ok-found.ensures.found) in
    elim c.match-found.branch [
      | in-Gone w ↦ rw w.self-is (elim w.in-Gone.is [ inl gone ↦ by _ _ gone refl | inr waits ↦ by _ _ waits refl ])
      | in-Dup+in_ok-join-in-Dup w ↦ rw w.self-is (by _ _ w.in-Dup.is w.in_ok-join-in-Dup.ensures.visited)
      | in-Zero w ↦ rw w.self-is (by _ _ w.in-Zero.is w.become_zero.ensures.visited)
      | in-Partner+in_ok-pair-in-Partner w ↦
          rw w.self-is (by _ _ w.in-Partner.is
          (sym w.comes_before.ensures ∙ w.if-comes_before.true, w.in_ok-pair-in-Partner.ensures.visited))
    ]

pub returns-clause-comes : goal.returns-clause-comes
returns-clause-comes c = (left c).0

pub returns-clause-later : goal.returns-clause-later
returns-clause-later c = grind (arith, (left c).2 c.args.due.now.reach c.requires.gone, c.requires.later, c.remove.ensures.rest)

pub returns-in-Changed-clause-later : goal.returns-in-Changed-clause-later
returns-in-Changed-clause-later c =
    grind (arith, changed_later (finds_it _ (λ e. cc) c.self.invariant (ap view_of c.self.view_is) _ c.in-Changed.is c.in_ok-found.ensures.found), c.requires.later, c.requires.gone)

pub returns-clause-due : goal.returns-clause-due
returns-clause-due c = (left c).1 c.remove.new.self.pages
    (more_due c.args.self.now.state c.args.due.now.pages (c.args.spot.page ∷ c.remove.new.self.pages)
    (λ p is. grind (arith, c.remove.ensures.gone p)) c.requires.due)
