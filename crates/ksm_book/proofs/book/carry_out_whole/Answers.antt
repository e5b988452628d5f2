use Rattle.ksm_book.proofs.DueBroken.{added_come, added_due, fewer_due, left_dropped, stays_due}
use Rattle.ksm_book.proofs.DueKept.{more_due}
use Rattle.ksm_book.proofs.Names.{AreDue, arith, Drop, MoveDup, Prune, Register, Row, row_at, SetPagesToScan, Some, ◌≡◌}
use Rattle.ksm_book.proofs.book.carry_out_whole.Goals as goal

pub returns-in-Register-clause-due : goal.returns-in-Register-clause-due
returns-in-Register-clause-due c = λ known.
    let b = c.args.state.now.state in
    let added = c.add.ensures.added known in
    let due : AreDue b c.args.due.now.pages = grind (arith, added.0) in
    stays_due _ _ (Register _ _ _) _ _ (λ _ is. added_come b _ _ _ added.1 due (grind arith) _ _)
    (added_due b _ _ _ added.1 due) c.register.ensures

pub returns-in-Drop-clause-due : goal.returns-in-Drop-clause-due
returns-in-Drop-clause-due c = λ known.
    let b = c.args.state.now.state in
    let left = c.note_leaving.ensures.left known in
    let due : AreDue b c.args.due.now.pages = grind (arith, left.0) in
    stays_due _ _ (Drop _) _ _ (λ _ is.
    let at : (row : Row) × (row_at c.in-Drop.page b.rows ≡ Some row) = grind arith in
    left_dropped _ _ _ _ due left.1 c.lies_lawfully.ensures.sound at.0 at.1)
    (more_due b _ _ (λ p is. grind (arith, left.1 p)) due) c.drop_page.ensures

pub returns-in-Prune-clause-due : goal.returns-in-Prune-clause-due
returns-in-Prune-clause-due c = λ known.
    stays_due _ _ Prune _ _ (λ _ _. fewer_due c.args.state.now.state _ _ (grind (arith, known))) (grind (arith, known)) c.prune.ensures

pub returns-in-MoveDup-clause-due : goal.returns-in-MoveDup-clause-due
returns-in-MoveDup-clause-due c = λ known.
    stays_due _ _ (MoveDup _ _) _ _ (λ _ _. grind (arith, known)) (grind (arith, known)) c.move_dup.ensures

pub returns-in-SetPagesToScan-clause-due : goal.returns-in-SetPagesToScan-clause-due
returns-in-SetPagesToScan-clause-due c = λ known.
    stays_due _ _ (SetPagesToScan _) _ _ (λ _ _. grind (arith, known)) (grind (arith, known)) c.set.ensures
