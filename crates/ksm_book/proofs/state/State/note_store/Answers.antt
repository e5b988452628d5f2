use Rattle.ksm_book.proofs.Names.{arith, false, InPageOrder, MatchOption, refl, row_at, same_page_refl, shared_state, stored, true, waiting_state, ◌≡◌}
use Rattle.ksm_book.proofs.ByPage.{filled_by, found_page}
use Rattle.ksm_book.proofs.DueBroken.{stored_due}
use Rattle.ksm_book.proofs.DueKept.{more_due}
use Rattle.ksm_book.proofs.SoFar.{later_changed}
use Rattle.ksm_book.proofs.state.State.note_store.Goals as goal
use Rattle.ksm_book.proofs.state.State.note_store.Goals.{After-waits}

rise : (c : After-waits) → InPageOrder c.args.self.now.state.rows
rise c = rw (← c.self.view_is) c.self.invariant.0.rows_rise

pub returns-then-waits-clause-due : goal.returns-then-waits-clause-due
returns-then-waits-clause-due c = λ bytes known.
    let added = c.add.ensures.added (grind (arith, known, c.lose_waiting.ensures)) in
    rw c.lose_waiting.ensures (stored_due c.args.self.now.state _ bytes _ (rise ((goal.at.returns-then-waits-clause-due c).After-waits)) c.requires.own
    (more_due c.args.self.now.state _ _ (λ p is. grind (arith, added.1 p)) (c.requires.due added.0))
    (grind (arith, added.1, same_page_refl)))

told : (c : After-waits) → MatchOption (row_at c.args.spot.page c.args.self.now.state.rows) (c.waits.result ≡ false) (λ r. c.waits.result ≡ waiting_state r.state)
told c = rw (← c.self.view_is) c.waits.ensures

pub returns-else-waits-clause-due : goal.returns-else-waits-clause-due
returns-else-waits-clause-due c = λ bytes known.
    let at = (goal.at.returns-else-waits-clause-due c).After-waits in
    stored_due c.args.self.now.state _ bytes _ (rise at) c.requires.own (c.requires.due known) (grind (arith, told at, c.if-waits.false))

pub returns-then-waits-clause-later : goal.returns-then-waits-clause-later
returns-then-waits-clause-later c = λ bytes.
    let at = (goal.at.returns-then-waits-clause-later c).After-waits in
    let row = filled_by (λ r. shared_state r.state ≡ false) c.requires.own in
    let less = later_changed c.args.due.now.reach c.args.self.now.state _ (stored bytes) row.0 (rise at) row.1 refl in
    let is : waiting_state row.0.state ≡ true = grind (arith, told at, row.1, c.if-waits.true) in
    grind (arith, less, is, c.requires.later, c.lose_waiting.ensures, c.add.ensures.rest, found_page c.args.spot.page c.args.self.now.state.rows row.0 row.1)

pub returns-else-waits-clause-later : goal.returns-else-waits-clause-later
returns-else-waits-clause-later c = λ bytes.
    let at = (goal.at.returns-else-waits-clause-later c).After-waits in
    let row = filled_by (λ r. shared_state r.state ≡ false) c.requires.own in
    let less = later_changed c.args.due.now.reach c.args.self.now.state _ (stored bytes) row.0 (rise at) row.1 refl in
    let is : waiting_state row.0.state ≡ false = grind (arith, told at, row.1, c.if-waits.false) in
    grind (arith, less, is, c.requires.later)
