use Rattle.ksm_book.proofs.Names.{ap, left_by, relaid, rules, seen, Some, sym, ◌∙◌, ◌≡◌}
use Rattle.ksm_book.proofs.Laying.{may_left, turned}
use Rattle.ksm_book.proofs.Singles.{left_alone, left_any, left_shared, left_some, left_still, row_held}
use Rattle.ksm_book.proofs.unmerging.leave.Goals as goal
use Rattle.ksm_book.proofs.unmerging.leave.Goals.{else-is_some-2, Joined-is_some-2, then-is_some-2}

pub returns-then-is_some-clause-left : goal.returns-then-is_some-clause-left
returns-then-is_some-clause-left c = left_alone _ c.requires.held c.requires.laid c.lie_in_order.ensures.rise c.if-not-held.true
    (sym c.is_some.ensures ∙ c.if-is_some.true) c.let_go.ensures

pub returns-else-is_some-clause-left : goal.returns-else-is_some-clause-left
returns-else-is_some-clause-left c = left_still _ c.requires.held c.requires.laid c.lie_in_order.ensures.rise c.if-not-held.true
    (sym c.is_some.ensures ∙ c.if-is_some.false)

pub returns-in_default-clause-turned : goal.returns-in_default-clause-turned
returns-in_default-clause-turned c = search (rules, turned c.requires.laid c.in_default.ensures.provides)

left : (c : Joined-is_some-2) → c.if-is_some-2.left ≡ (seen c.args.pages.now).frame c.args.held.spot.page
left c = elim c.if-is_some-2.branch [ then-is_some-2 w ↦ w.left-is ∙ w.let_go_on-left.ensures.left | else-is_some-2 w ↦ w.left-is ∙ w.unshare_on-left.ensures.left ]

freed : (c : Joined-is_some-2) → seen c.if-is_some-2.pages ≡ relaid c.args.held.spot.page (left_by c.args.guest) (Some c.in-Some.frame) (seen c.args.pages.now)
freed c = elim c.if-is_some-2.branch [
  | then-is_some-2 w ↦ rw (← left_some c.args.guest (sym c.is_some-2.ensures ∙ w.if-is_some-2.true)) (ap seen w.pages-is ∙ w.let_go_on-left.ensures.gone)
  | else-is_some-2 w ↦
      rw (← left_any c.args.guest c.requires.held c.requires.laid c.lie_in_order.ensures.rise c.if-not-held.false (sym c.is_some-2.ensures ∙ w.if-is_some-2.false))
      (ap seen w.pages-is ∙ w.unshare_on-left.ensures.unshared)
]

pub release_if-requires-clause-may : goal.release_if-requires-clause-may
release_if-requires-clause-may c =
    may_left c.requires.laid c.lie_in_order.ensures.rise (row_held c.requires.held) c.in-Some.ensures.provides c.in-Some.ensures.took
    (left (goal.at.release_if-requires-clause-may c).Joined-is_some-2)

pub returns-clause-left : goal.returns-clause-left
returns-clause-left c =
    let s = (goal.at.returns-clause-left c).Joined-is_some-2 in
    left_shared c.args.guest c.requires.held c.requires.laid c.lie_in_order.ensures.rise c.in-Some.ensures.provides c.in-Some.ensures.took
    (left s) c.release_if.ensures c.bytes-bytes.ensures c.if-not-held.false (freed s)
