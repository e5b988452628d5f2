use Rattle.ksm_book.proofs.Names.{ap, BookValue, change_row, has_gone_by, if◌then◌else◌, none-some, on_err, row_at, settled, sym, view_of, with_rows, ◌-◌, ◌∙◌, ◌≡◌}
use Rattle.ksm_book.proofs.DueFound.{other_alone, taken_comes, taken_later, taken_leaves, taken_refused, waits_at}
use Rattle.ksm_book.proofs.state.State.take_over.Goals as goal
use Rattle.ksm_book.proofs.state.State.take_over.Goals.{After-stop_waiting}

freeing : (c : After-stop_waiting)
    → view_of c.stop_waiting.new.self ≡ with_rows (view_of c.args.self.now) (change_row c.args.other settled c.args.self.now.state.rows)
freeing c = rw (← c.in-Some.ensures.spot) c.stop_waiting.ensures

pub unreachable-requires : goal.unreachable-requires
unreachable-requires c =
    none-some _ (sym c.in_default.ensures ∙ ap (λ (v : BookValue). row_at c.args.other v.state.rows) c.self.view_is
    ∙ waits_at c.lies_lawfully.ensures.sound c.requires.takes)

pub stop_waiting-requires : goal.stop_waiting-requires
stop_waiting-requires c = rw c.in-Some.ensures.spot (other_alone c.lies_lawfully.ensures.sound c.requires.takes)

pub returns-in_err-visit-clause-refused : goal.returns-in_err-visit-clause-refused
returns-in_err-visit-clause-refused c = on_err _
    (taken_refused c.args.self.now c.stop_waiting.new.self c.visit.new.self c.lies_lawfully.ensures.sound
    c.requires.takes (freeing (goal.at.returns-in_err-visit-clause-refused c).After-stop_waiting) c.in_err-visit.ensures.refused)

pub returns-clause-comes : goal.returns-clause-comes
returns-clause-comes c =
    taken_comes c.args.self.now c.stop_waiting.new.self c.visit.new.self c.lies_lawfully.ensures.sound
    c.requires.takes (freeing (goal.at.returns-clause-comes c).After-stop_waiting) c.in_ok-visit.ensures.visited.comes

pub returns-clause-later : goal.returns-clause-later
returns-clause-later c =
    let reach = c.args.due.now.reach in
    let less = taken_later c.args.self.now c.stop_waiting.new.self c.visit.new.self c.lies_lawfully.ensures.sound
    c.requires.takes (freeing (goal.at.returns-clause-later c).After-stop_waiting) c.in_ok-visit.ensures.visited.comes reach c.requires.gone in
    rw (c.remove.ensures.rest, c.lose_waiting.ensures, c.in_ok-insert.ensures.rest)
    (ap (λ n. n - (if has_gone_by reach c.args.other then 0 else 1)) c.requires.later ∙ sym less)

pub returns-clause-due : goal.returns-clause-due
returns-clause-due c =
    taken_leaves c.args.self.now c.stop_waiting.new.self c.visit.new.self c.lies_lawfully.ensures.sound
    c.requires.takes (freeing (goal.at.returns-clause-due c).After-stop_waiting) _ _ _
    (rw (← c.in-Some.ensures.spot) c.in_ok-insert.ensures.added) (rw c.lose_waiting.ensures at c.remove.ensures.gone) c.in_ok-visit.ensures.visited.comes c.requires.due
