use Rattle.ksm_book.proofs.Names.{ap, at_home_on, Done, MovePage, ne_eqb, Ok, option_map, refl, same_Some, seen, sym, view_of, ◌∙◌}
use Rattle.ksm_book.proofs.Laying.{may_left, resettled, turned}
use Rattle.ksm_book.proofs.Singles.{carried_so, Does, move_home, move_moved, row_held, lawful}
use Rattle.ksm_book.proofs.state.State.move_page.Goals as goal

pub returns-then-held-node : goal.returns-then-held-node
returns-then-held-node c =
    carried_so c.self.view_is refl
    (rw (← ap view_of c.self.view_is)
    (move_home c.self.invariant.0.rows_rise c.in-Some.ensures.found
    (rw (← c.shape.ensures) c.if-node-shape.false) (sym c.in-Some.ensures.home ∙ c.if-held-node.true)))

pub invariant_of-self : goal.invariant_of-self
invariant_of-self c = (c.self.invariant.0, (turned c.self.invariant.1 c.in_default-take_frame.ensures.provides).laid)

pub release_if-requires-clause-may : goal.release_if-requires-clause-may
release_if-requires-clause-may c =
    may_left c.self.invariant.1 c.self.invariant.0.rows_rise (row_held c.in-Some.ensures) c.in-Some-take_frame.ensures.provides c.in-Some-take_frame.ensures.took c.move_on-left.ensures.left

moved_there : (c : goal.After-release_if) → Does c.self.inside (seen c.move_on-left.new.self)
    c.release_if.new.keeper (MovePage c.in-Some.held.spot.page c.args.node) (Ok Done)
moved_there c =
    let laid = c.self.invariant.1 in
    let rise = c.self.invariant.0.rows_rise in
    let found = row_held c.in-Some.ensures in
    let goes = c.move_on-left.ensures.moved in
    let bytes = same_Some _ _ (sym c.bytes-bytes.ensures ∙ ap (option_map (λ r. r.bytes)) found) in
    let got = resettled laid rise found c.in-Some-take_frame.ensures.provides c.in-Some-take_frame.ensures.took c.move_on-left.ensures.left
    (at_home_on c.args.node) (λ r. refl) refl refl (sym bytes) goes c.release_if.ensures in
    move_moved rise found
    (rw (← c.shape.ensures) c.if-node-shape.false)
    _ (ne_eqb c.in-Some.ensures.row.home c.args.node (λ e. c.if-held-node.false (c.in-Some.ensures.home ∙ e)))
    goes (rw bytes at got)

pub returns : goal.returns
returns c = carried_so c.self.view_is (rw c.in-Some.ensures.spot) (moved_there c).0

pub invariant_of-self-2 : goal.invariant_of-self-2
invariant_of-self-2 c = lawful c.self.invariant.0 (moved_there c)
