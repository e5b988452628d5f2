use Rattle.ksm_book.proofs.Names.{Ahead, ahead_before, ap, arith, At, begun, BookState, BookValue, Comes, DueView, EndsAt, GuestPage, has_item, IfSome, last_of, last_visited, length, List, None, pages_ahead}
use Rattle.ksm_book.proofs.Names.{part_before, pass_ended_at_last, passes_ended, shown_so_far, Some, Stage, subst, sym, true, view_of, visit_begun, visits_beside, ℕ}
use Rattle.ksm_book.proofs.Names.{◌*◌, ◌-◌, ◌<◌, ◌∙◌, ◌≡◌, ◌≤◌}
use Rattle.ksm_book.specs.Terms.{End}
use Rattle.ksm_book.proofs.Along.{has_at}
use Rattle.ksm_book.proofs.Folded.{begun_ahead, changed_comes, comes_by, comes_to, first, page_made, passes_made, settled_twice, some_ahead, stopped_fewer, stopped_made}
use Rattle.ksm_book.proofs.SoFar.{ahead_so_far, ended_so_far, mergeable_so_far, sound_so_far}
use Rattle.std.proofs.Math.Nat.{div-mul-le_self, le-div_iff_mul-le, one-le-mul}
use Rattle.ksm_book.proofs.state.State.go_on.Goals as goal
use Rattle.ksm_book.proofs.state.State.go_on.Goals.{else-whole, In-End, then-whole+then-quiet}

-- the pass ends, if it had gone through all pages
abbrev closed : Stage → Stage
closed s = (pass_ended_at_last s.0, s.1)

-- so it does so far
closes : (due : DueView) (v w : BookValue) → view_of w ≡ record (view_of v) { state = pass_ended_at_last v.state }
    → Comes (shown_so_far due v) (shown_so_far due w) closed
closes due v w is = changed_comes _ _ pass_ended_at_last (grind (arith, ended_so_far due.reach v.state, is))

-- the page of the last visit is one of those ahead
last_ahead : (pages : List GuestPage) (most : ℕ) (ahead : Ahead) → EndsAt pages most ahead → IfSome (last_visited ahead) (λ page. has_item page pages ≡ true)
last_ahead pages most (At page) ends = has_at pages (most - 1) page ends.1
last_ahead pages most (End made) ends = tt

-- then the pages ahead are those once a visit begins
ahead_is : (v w : BookValue) → Comes v w closed → pages_ahead w.state ≡ pages_ahead (visit_begun v.state)
ahead_is v w comes = ap pages_ahead (comes_to v w closed comes) ∙ sym (begun_ahead (pass_ended_at_last v.state))

pub visit_part-requires-clause-due : goal.visit_part-requires-clause-due
visit_part-requires-clause-due c = grind (arith, c.close_pass-ahead.ensures.closed)

pub visit_part-requires-clause-later : goal.visit_part-requires-clause-later
visit_part-requires-clause-later c = grind (arith, c.close_pass-ahead.ensures.closed)

pub visit_part-requires-clause-ahead : goal.visit_part-requires-clause-ahead
visit_part-requires-clause-ahead c = grind (arith, last_ahead, c.close_pass-ahead.ensures.ahead, c.last.ensures)

-- memory stopped the visits before the last of them
pub returns-in-Err-clause-stopped : goal.returns-in-Err-clause-stopped
returns-in-Err-clause-stopped c =
    let at = closes c.args.due.now c.args.self.now c.close_pass-ahead.new.self c.close_pass-ahead.ensures.closed in
    let v = shown_so_far c.args.due.now c.args.self.now in
    let w = shown_so_far c.visit_part.new.due c.visit_part.new.self in
    let page = c.in-Err.page in
    let stopped = c.in-Err.ensures.stopped in
    let sound = sound_so_far c.args.due.now.reach c.args.self.now.state c.lies_lawfully.ensures.sound in
    let same = ahead_is v (shown_so_far c.args.due.now c.close_pass-ahead.new.self) at in
    let there : has_item page (pages_ahead (visit_begun v.state)) ≡ true = rw (← same) stopped.ahead in
    let comes : Comes v w (λ s. part_before page (closed s)) = λ from s before. stopped.comes from _ (at from s before) in
    let many : c.between-made.result.0 ≡ length (ahead_before page w.state) = grind (arith, ahead_so_far, mergeable_so_far) in
    let last : c.between-made.result.1 ≡ last_of w.state.cursor (ahead_before page w.state) = grind (arith, mergeable_so_far) in
    record {
      fewer = rw many (subst (λ (b : BookState). length (ahead_before page b) < c.args.most) (sym (comes_to v w (λ s. part_before page (closed s)) comes))
          (stopped_fewer (first v) sound page there c.close_pass-ahead.result c.requires.most
          (rw (sym (ahead_so_far c.args.due.now.reach c.close_pass-ahead.new.self.state) ∙ same) at c.close_pass-ahead.ensures.ahead) (rw (← c.last.ensures) stopped.within)));
      comes = comes_by v (shown_so_far c.visit_part.new.due c.set_cursor-in-Err.new.self) _ _
          (λ from s before. changed_comes w _ (λ b. record b { cursor = c.between-made.result.1 }) (grind (arith, c.set_cursor-in-Err.ensures)) from _ (comes from s before))
          (λ from deed is.
          let s : Stage = (v.state, deed) in
          let stop = part_before page (closed s) in
          let here = (comes from s is).0 in
          (λ i. (record stop.0 { cursor = (last ∙ ap (λ (b : BookState). last_of b.cursor (ahead_before page b)) here) i }, stop.1))
          ∙ stopped_made s sound page there ∙ ap (λ n. begun (visits_beside n s)) (sym (many ∙ ap (λ (b : BookState). length (ahead_before page b)) here)));
    }

-- the visits go to a page
pub returns-in-At-clause-made : goal.returns-in-At-clause-made
returns-in-At-clause-made c =
    let at = closes c.args.due.now c.args.self.now c.close_pass-ahead.new.self c.close_pass-ahead.ensures.closed in
    let v = shown_so_far c.args.due.now c.args.self.now in
    let w = shown_so_far c.visit_part.new.due c.visit_part.new.self in
    let page = c.in-At.page in
    let ends = rw (sym (ahead_so_far c.args.due.now.reach c.close_pass-ahead.new.self.state) ∙ ahead_is v (shown_so_far c.args.due.now c.close_pass-ahead.new.self) at) at c.in-At.ensures.ahead in
    let visited = rw (c.last.ensures ∙ ap last_visited c.in-At.is) at c.in-Ok.ensures.visited in
    record {
      some = c.requires.most;
      fit = omega arith;
      comes = comes_by v (shown_so_far c.visit_part.new.due c.set_cursor.new.self) _ _
          (λ from s before. changed_comes w _ (λ b. record b { cursor = Some page }) (grind (arith, c.set_cursor.ensures)) from _
          (visited.comes from _ (at from s before)))
          (λ _ deed _. page_made (v.state, deed) (sound_so_far _ _ c.lies_lawfully.ensures.sound) c.args.most page c.requires.most ends);
    }

-- the visits go to the end of the pass: at least one is made, and as many as there are pages ahead
made : (c : In-End) → (1 ≤ c.in-End.made) × (c.in-End.made ≡ length (pages_ahead (visit_begun (shown_so_far c.args.due.now c.args.self.now).state)))
made c =
    let v = shown_so_far c.args.due.now c.args.self.now in
    let at = closes c.args.due.now c.args.self.now c.close_pass-ahead.new.self c.close_pass-ahead.ensures.closed in
    let all = c.in-End.ensures.ahead.0 ∙ ap length (sym (ahead_so_far c.args.due.now.reach c.close_pass-ahead.new.self.state))
    ∙ ap length (ahead_is v (shown_so_far c.args.due.now c.close_pass-ahead.new.self) at) in
    (rw all (some_ahead v.state (rw (mergeable_so_far c.args.due.now.reach c.args.self.now.state) c.requires.some)), all)

pub nonzero_div-times : goal.nonzero_div-times
nonzero_div-times c = (made (goal.at.nonzero_div-times c).In-End).0

pub returns-after-whole-clause-made : goal.returns-after-whole-clause-made
returns-after-whole-clause-made c =
    let at = closes c.args.due.now c.args.self.now c.close_pass-ahead.new.self c.close_pass-ahead.ensures.closed in
    let v = shown_so_far c.args.due.now c.args.self.now in
    let w = shown_so_far c.visit_part.new.due c.visit_part.new.self in
    let times = c.if-whole.times in
    let made = made (goal.at.returns-after-whole-clause-made c).In-End in
    let visited = rw (c.last.ensures ∙ ap last_visited c.in-End.is) at c.in-Ok.ensures.visited in
    let told : (1 ≤ times) × (times * c.in-End.made ≤ c.args.most)
    × (1 < times → (c.in-Ok.quiet ≡ true) × ((visit_begun v.state).cursor ≡ None)) =
    elim c.if-whole.branch [
      | then-whole+then-quiet w ↦
          let fit = c.in-End.ensures.ahead.1 in (
            rw w.times-is ((le-div_iff_mul-le {k = c.in-End.made} {x = 1} {y = c.args.most} made.0).1 (omega arith)),
            rw w.times-is (div-mul-le_self c.args.most c.in-End.made),
            λ _. (w.if-quiet.true, grind (arith, comes_to v (shown_so_far c.args.due.now c.close_pass-ahead.new.self) closed at)),
          )
      | else-whole w ↦
          let fit = c.in-End.ensures.ahead.1 in
          rw w.times-is (omega arith, omega arith, λ more. absurd (omega arith))
    ] in
    record {
      some = one-le-mul told.0 made.0;
      fit = told.1;
      comes = comes_by v (shown_so_far c.visit_part.new.due c.end_passes.new.self) _ _
          (λ from s before. changed_comes w _ (passes_ended times) (grind (arith, c.end_passes.ensures)) from _
          (visited.comes from _ (at from s before)))
          (λ from deed is.
          passes_made (v.state, deed) (sound_so_far _ _ c.lies_lawfully.ensures.sound) (rw (mergeable_so_far c.args.due.now.reach c.args.self.now.state) c.requires.some) times told.0
          (λ more. (
            (told.2 more).1,
            grind (arith, settled_twice, visited.still (told.2 more).0 from _ (at from _ is)),
          ))
          ∙ ap (λ n. visits_beside (times * n) (v.state, deed)) (sym made.1));
    }
