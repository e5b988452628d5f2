use Rattle.ksm_book.proofs.Names.{arith, FindsUpTo, mergeable_pages, None, one_before, refl, same_page_eq, Some, ◌∙◌}
use Rattle.ksm_book.proofs.Along.{after_later}
use Rattle.ksm_book.proofs.DuePasses.{at_cursor}
use Rattle.ksm_book.proofs.SoFar.{later_ends, later_passed, none_later}
use Rattle.ksm_book.proofs.state.State.lead.Goals as goal
use Rattle.ksm_book.proofs.state.State.lead.Goals.{else-waits, then-waits}

pub returns-in_default-clause-later : goal.returns-in_default-clause-later
returns-in_default-clause-later c = rw c.go_to.ensures (none_later c.args.self.now.state.rows)

pub loop-spot-init : goal.loop-spot-init
loop-spot-init c = (
  refl,
  rw c.cursor-reached.ensures c.count_ahead-later.ensures,
  λ q past. at_cursor c.args.self.now.state.cursor c.in-Some.page (mergeable_pages c.args.self.now.state.rows) (rw c.in-Some.is at c.requires.ahead) q
      (rw c.cursor-reached.ensures at past),
)

pub loop-spot-preserved : goal.loop-spot-preserved
loop-spot-preserved c =
    let next : FindsUpTo (Some c.in-Some.page) c.loop-spot.reached c.args.self.now.state.rows (Some c.in-Some-next_up_to.spot.page) =
    grind (arith, c.in-Some-next_up_to.ensures.next, c.loop-spot.invariant.0) in
    let page = c.in-Some-next_up_to.spot.page in
    let passed = later_passed c.args.self.now.state c.lies_lawfully.ensures.sound c.loop-spot.reached page next.1 in (
      c.in-Some-next_up_to.ensures.kept ∙ c.loop-spot.invariant.0,
      elim c.if-waits.branch [
        | then-waits w ↦ grind (arith, passed, w.later-is, w.saturating_sub-later.ensures, c.waits.ensures, c.self.view_is, w.if-waits.true, c.loop-spot.invariant, c.in-Some-next_up_to.ensures.kept)
        | else-waits w ↦ grind (arith, passed, w.later-is, c.waits.ensures, c.self.view_is, w.if-waits.false, c.loop-spot.invariant, c.in-Some-next_up_to.ensures.kept)
      ],
      λ q out. grind (arith, next.0, one_before q page, same_page_eq q page, after_later (Some c.in-Some.page) q page),
    )

pub returns-clause-later : goal.returns-clause-later
returns-clause-later c =
    let next : FindsUpTo (Some c.in-Some.page) c.loop-spot.reached c.args.self.now.state.rows None =
    grind (arith, c.in_default-next_up_to.ensures.next, c.loop-spot.invariant.0) in
    rw c.go_to-2.ensures (c.loop-spot.invariant.1 ∙ later_ends c.args.self.now.state c.lies_lawfully.ensures.sound c.loop-spot.reached c.in-Some.page next c.loop-spot.invariant.2)
