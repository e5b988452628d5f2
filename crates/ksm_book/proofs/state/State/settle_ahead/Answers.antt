use Rattle.ksm_book.proofs.Names.{ap, arith, BookView, change_row, settled, sym, view_of, with_rows, ◌∙◌, ◌≡◌}
use Rattle.ksm_book.specs.contracts.state.State.{the_view}
use Rattle.ksm_book.proofs.SoFar.{settles_first, settles_last, settles_none, settles_one, stops_later}
use Rattle.ksm_book.proofs.state.State.settle_ahead.Goals as goal
use Rattle.ksm_book.proofs.state.State.settle_ahead.Goals.{else-waits_later, then-waits_later}

pub loop-spot-init : goal.loop-spot-init
loop-spot-init c =
    let same : the_view (record c.self.inside { pages = c.list_restless.new.self }) ≡ c.args.self.now = rw c.list_restless.ensures c.self.view_is in
    ap view_of same ∙ (λ i. record (view_of c.args.self.now) {
      state = sym (settles_first c.args.self.now.state c.lies_lawfully.ensures.sound c.args.reach) i;
    })

pub loop-spot-preserved : goal.loop-spot-preserved
loop-spot-preserved c =
    let b = c.args.self.now.state in
    let page = c.in-Some.spot.page in
    let sound = c.lies_lawfully.ensures.sound in
    let here = ap view_of c.in-Some.ensures.kept ∙ c.loop-spot.invariant in
    let next = rw (ap (λ (v : BookView). v.state.rows) c.loop-spot.invariant) at c.in-Some.ensures.next.1 in
    let told = stops_later c.args.reach page _ _ (rw (ap (λ (v : BookView). v.state.rows) here) at c.waits_later.ensures) in
    elim c.if-waits_later.branch [
      | then-waits_later w ↦
          rw w.self-is (w.stop_waiting.ensures ∙ ap (λ (v : BookView). with_rows v (change_row page settled v.state.rows)) here
          ∙ (λ i. record (view_of c.args.self.now) { state = settles_one b sound c.args.reach c.loop-spot.reached page next (told.0 w.if-waits_later.true) i }))
      | else-waits_later w ↦
          rw w.self-is (here ∙ (λ i. record (view_of c.args.self.now) { state = settles_none b sound c.args.reach c.loop-spot.reached page next (told.1 w.if-waits_later.false) i }))
    ]

pub returns-clause-state : goal.returns-clause-state
returns-clause-state c =
    let rows = ap (λ (v : BookView). v.state.rows) c.loop-spot.invariant in
    grind (
      arith,
      c.in_default.ensures.kept,
      c.loop-spot.invariant,
      settles_last c.args.self.now.state c.lies_lawfully.ensures.sound c.args.reach c.loop-spot.reached (rw rows at c.in_default.ensures.next),
    )
