use Rattle.ksm_book.proofs.Names.{ap, arith, BookValue, HasVisited, pages_ahead, part_before, part_visited, shown_so_far, Stops, subst, sym, ◌∙◌, ◌≡◌}
use Rattle.ksm_book.proofs.DueKept.{more_due}
use Rattle.ksm_book.proofs.Folded.{begun_ahead, comes_to, settled_twice}
use Rattle.ksm_book.proofs.SoFar.{counts_ended, shown_ended}
use Rattle.ksm_book.proofs.state.State.visit_part.Goals as goal
use Rattle.ksm_book.proofs.state.State.visit_part.Goals.{In_ok-quiet}

pub part_over_due-requires-clause-due : goal.part_over_due-requires-clause-due
part_over_due-requires-clause-due c =
    let put = c.put_in_order.ensures in
    let same = put.same (put.known ∙ sym put.ready ∙ c.if-put_in_order.true) in
    more_due c.args.self.now.state _ _ (λ p is. same.1 p ∙ is) (c.requires.due same.0)

visits : (c : In_ok-quiet) → HasVisited (shown_so_far c.args.due.now c.args.self.now) c.visit_up_to.new.self (part_visited c.args.last) c.in_ok-quiet.quiet
visits c =
    let visited = c.in_ok-quiet.ensures.visited in
    record {
      comes = λ from s before. visited.comes from _ (c.begin_pass.ensures from s (grind (arith, before, c.end_pass_over_due.ensures.state)));
      still = λ is from s before. grind (arith, settled_twice, visited.still is from _ (c.begin_pass.ensures from s (grind (arith, before, c.end_pass_over_due.ensures.state))));
    }

pub returns-then-quiet-clause-visited : goal.returns-then-quiet-clause-visited
returns-then-quiet-clause-visited c =
    subst (λ (w : BookValue). HasVisited (shown_so_far c.args.due.now c.args.self.now) w (part_visited c.args.last) c.in_ok-quiet.quiet)
    (sym (shown_ended c.begin.new.self c.visit_up_to.new.self (grind (arith, c.begin.ensures, c.forget.ensures, c.end_pass_over_due.ensures.reach))))
    (visits (goal.at.returns-then-quiet-clause-visited c).In_ok-quiet)

pub returns-else-whole-clause-visited : goal.returns-else-whole-clause-visited
returns-else-whole-clause-visited c =
    subst (λ (w : BookValue). HasVisited (shown_so_far c.args.due.now c.args.self.now) w (part_visited c.args.last) c.in_ok-quiet.quiet)
    (sym (shown_ended c.forget.new.self c.visit_up_to.new.self (grind (arith, c.forget.ensures, c.end_pass_over_due.ensures.reach))))
    (visits (goal.at.returns-else-whole-clause-visited c).In_ok-quiet)

pub returns-then-quiet-clause-due : goal.returns-then-quiet-clause-due
returns-then-quiet-clause-due c = λ _.
    let whole = c.is_whole-whole.ensures c.if-whole.true in
    let begun = comes_to c.end_pass_over_due.new.self c.begin_pass.new.self _ c.begin_pass.ensures in
    rw c.begin.ensures (c.in_ok-quiet.ensures.due c.if-quiet.true (grind arith) whole.1)

pub returns-in_err-quiet-clause-stopped : goal.returns-in_err-quiet-clause-stopped
returns-in_err-quiet-clause-stopped c =
    let stops = c.in_err-quiet.ensures.stopped in
    let v = shown_so_far c.args.due.now c.args.self.now in
    let at : c.end_pass_over_due.new.self.state ≡ v.state = grind (arith, c.end_pass_over_due.ensures.state) in
    let same : pages_ahead c.begin_pass.new.self.state ≡ pages_ahead v.state =
    ap pages_ahead (comes_to c.end_pass_over_due.new.self c.begin_pass.new.self _ c.begin_pass.ensures) ∙ begun_ahead c.end_pass_over_due.new.self.state
    ∙ ap pages_ahead at in
    let part : Stops v c.visit_up_to.new.self c.args.last _ (part_before _) =
    record {
      within = stops.within;
      ahead = rw same at stops.ahead;
      comes = λ from s before. stops.comes from _ (c.begin_pass.ensures from s (grind (arith, before, c.end_pass_over_due.ensures.state)));
    } in
    let ended = shown_ended c.forget.new.self c.visit_up_to.new.self (grind (arith, c.forget.ensures, c.end_pass_over_due.ensures.reach)) in
    grind (arith, part, ended)

pub returns-then-quiet-clause-later : goal.returns-then-quiet-clause-later
returns-then-quiet-clause-later c = counts_ended c.begin.new.self c.visit_up_to.new.self.state (grind (arith, c.begin.ensures, c.forget.ensures, c.end_pass_over_due.ensures.reach))

pub returns-else-whole-clause-later : goal.returns-else-whole-clause-later
returns-else-whole-clause-later c = counts_ended c.forget.new.self c.visit_up_to.new.self.state (grind (arith, c.forget.ensures, c.end_pass_over_due.ensures.reach))

pub returns-in_err-quiet-clause-later : goal.returns-in_err-quiet-clause-later
returns-in_err-quiet-clause-later c = counts_ended c.forget.new.self c.visit_up_to.new.self.state (grind (arith, c.forget.ensures, c.end_pass_over_due.ensures.reach))
