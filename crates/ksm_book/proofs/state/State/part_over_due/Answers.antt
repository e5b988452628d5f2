use Rattle.ksm_book.proofs.Names.{ap, AreDue, arith, BookValue, comes_before, DueView, false, GuestPage, Option, part_before, part_visited, refl, shown_so_far, StaysStill, Stops, subst, sym, up_to, ◌∙◌}
use Rattle.ksm_book.proofs.DuePasses.{due_part, part_stops, rests_due, visits_due, whole_still}
use Rattle.ksm_book.proofs.SoFar.{none_later, shown_ended}
use Rattle.ksm_book.proofs.Walked.{begins_walk, walk_ends, walks_on}
use Rattle.ksm_book.proofs.state.State.part_over_due.Goals as goal

pub loop-spot-init : goal.loop-spot-init
loop-spot-init c = rw c.lead.ensures.kept (
  begins_walk _ c.args.self.now _ (c.cursor-reached.ensures ∙ ap (λ (v : BookValue). v.state.cursor) c.lead.ensures.kept) _ _ c.lies_lawfully.ensures.sound,
  grind (arith, c.lead.ensures.due, c.requires.due),
  grind (arith, c.lead.ensures.due, c.requires.ready),
  c.lead.ensures.later,
  grind (arith, c.lead.ensures.due),
)

pub loop-spot-preserved : goal.loop-spot-preserved
loop-spot-preserved c =
    let walking = c.loop-spot.invariant.0 in
    let first = c.in-Some.ensures in (
      walks_on visits_due walking _ first.1.1 (rests_due _ walking c.loop-spot.invariant.1 (λ q. comes_before q _) first.1.2) first.0 {calm = false}
          (record { comes = c.in-Ok.ensures.comes; still = λ quiet. absurd cc }),
      c.in-Ok.ensures.due,
      c.visit_due.ensures.ready,
      c.in-Ok.ensures.later,
      c.visit_due.ensures.reach ∙ c.loop-spot.invariant.4,
    )

pub returns-in-Err-clause-stopped : goal.returns-in-Err-clause-stopped
returns-in-Err-clause-stopped c =
    let new = c.settle_ahead.new.self in
    let ended = ap (λ (d : DueView). d.reach) c.settle_ahead.ensures.due in
    subst (λ (w : BookValue). Stops (shown_so_far c.args.due.now c.args.self.now) w c.args.last c.in-Some.spot.page (part_before c.in-Some.spot.page))
    (sym (shown_ended c.settle_ahead.new.due new ended))
    (part_stops _ c.loop-spot.invariant.0 c.loop-spot.invariant.1 c.args.due.now.reach c.visit_due.new.self _ c.in-Some.ensures c.requires.start
    c.in-Err.ensures.refused c.in-Err.ensures.refused_row new c.settle_ahead.ensures.state)

pub returns-in-Err-clause-later : goal.returns-in-Err-clause-later
returns-in-Err-clause-later c = rw c.settle_ahead.ensures.due (none_later c.settle_ahead.new.self.state.rows)

pub returns-clause-visited : goal.returns-clause-visited
returns-clause-visited c =
    let v = c.args.self.now in
    let walking = c.loop-spot.invariant.0 in
    let rest = rests_due _ walking c.loop-spot.invariant.1 (up_to c.args.last) c.in_default.ensures in
    let ends = walk_ends visits_due walking rest in
    record {
      comes = λ from s before.
          let reached = walking.comes from (v.state, s.1) (refl, before.1) in
          let part = due_part v.state s.1 walking.began c.args.due.now.reach c.requires.start c.args.last c.requires.ahead in
          grind (arith, reached, part, before, ends.same from (v.state, s.1) (refl, before.1), c.loop-spot.invariant.4);
      still = λ quiet.
          let whole = c.repeats-quiet.ensures quiet in
          subst (λ (o : Option GuestPage). StaysStill (shown_so_far c.args.due.now v) (part_visited o)) (sym whole.2)
          (whole_still v c.args.due.now.reach walking.began whole.1 (subst (AreDue v.state) whole.0 c.requires.due));
    }
