use Rattle.ksm_book.proofs.Names.{and_parts, arith, comes_before, FindsUpTo, GuestPage, is_quiet, IsStill, None, Option, subst, sym, up_to, ◌∙◌}
use Rattle.ksm_book.proofs.Along.{has_filter}
use Rattle.ksm_book.proofs.Folded.{comes_as, comes_to}
use Rattle.ksm_book.proofs.DuePasses.{due_begins, due_walks}
use Rattle.ksm_book.proofs.Walked.{before_it, begins_walk, is_ahead, rests_where, visits_page, walk_ends, walks_on}
use Rattle.ksm_book.proofs.state.State.visit_up_to.Goals as goal

pub loop-spot-init : goal.loop-spot-init
loop-spot-init c =
    let v = c.args.self.now in
    let at = c.cursor-reached.ensures in
    let sound = c.lies_lawfully.ensures.sound in
    (begins_walk _ v _ at _ _ sound, λ _ none. rw (at ∙ none) (due_begins v.state sound.rows_rise))

pub loop-spot-preserved : goal.loop-spot-preserved
loop-spot-preserved c =
    let page = c.in-Some.spot.page in
    let walking = c.loop-spot.invariant.0 in
    let next = c.in-Some.ensures.next in
    let kept = c.in-Some.ensures.kept in
    let rests = rests_where _ _ (λ q. comes_before q page) next.1.1 in
    let visited = rw kept at c.in-Ok.ensures.visited in (
      rw c.and-made.ensures (walks_on visits_page walking page next.1.0 rests next.0 visited),
      λ quiet none. let both = and_parts c.loop-spot.made.quiet (is_quiet c.in-Ok.visited) (sym c.and-made.ensures ∙ quiet) in
          due_walks c.loop-spot.self c.visit.new.self _ page _ walking.goes.0 next.1 visited.comes (visited.still both.1)
          (c.loop-spot.invariant.1 both.0 none),
    )

pub returns-in-Err-clause-stopped : goal.returns-in-Err-clause-stopped
returns-in-Err-clause-stopped c =
    let page = c.in-Some.spot.page in
    let walking = c.loop-spot.invariant.0 in
    let next = c.in-Some.ensures.next in
    let rests = rests_where _ _ (λ q. comes_before q page) next.1.1 in
    let stays = rw c.in-Some.ensures.kept at c.in-Err.ensures.refused in
    record {
      within = next.0;
      ahead = is_ahead visits_page walking page next.1.0 rests
          (grind (arith, comes_to c.loop-spot.self c.visit.new.self (λ s. s) stays, c.in-Err.ensures.refused_row));
      comes = comes_as c.visit.new.self (before_it visits_page walking page next.1.0 rests)
          (λ from s before. stays from _ (walking.comes from s before));
    }

pub returns-clause-visited : goal.returns-clause-visited
returns-clause-visited c =
    let walking = c.loop-spot.invariant.0 in
    let ends = walk_ends visits_page walking (rests_where _ _ (up_to c.args.last) c.in_default.ensures.next) in
    rw (c.drop_over.ensures ∙ c.in_default.ensures.kept) (record {
      comes = comes_as c.loop-spot.self ends walking.comes;
      still = λ quiet from s before. subst (IsStill s) (ends.same from s before) (walking.still quiet from s before);
    })

pub returns-clause-due : goal.returns-clause-due
returns-clause-due c = λ quiet start none.
    let left = subst (λ (o : Option GuestPage). FindsUpTo o c.loop-spot.reached c.loop-spot.self.state.rows None) none c.in_default.ensures.next in
    rw (c.drop_over.ensures ∙ c.in_default.ensures.kept)
    (λ k d lt restless out.
    c.loop-spot.invariant.1 quiet start k d lt restless (grind (arith, has_filter, left k d lt restless)))
