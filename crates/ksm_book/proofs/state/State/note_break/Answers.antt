use Rattle.ksm_book.proofs.DueBroken.{left_broken}
use Rattle.ksm_book.proofs.Names.{arith, Row, row_at, Some, ◌≡◌}
use Rattle.ksm_book.proofs.state.State.note_break.Goals as goal

pub returns-clause-broken : goal.returns-clause-broken
returns-clause-broken c = λ bytes known.
    let added = c.add.ensures.added known in
    let left = c.note_leaving.ensures.left added.0 in
    let at : (row : Row) × (row_at c.args.spot.page c.args.self.now.state.rows ≡ Some row) = grind arith in
    left_broken _ _ _ _ (c.requires.due left.0) left.1 c.lies_lawfully.ensures.sound _ at.1 _ added.1 _
