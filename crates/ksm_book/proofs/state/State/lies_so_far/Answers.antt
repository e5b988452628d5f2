use Rattle.ksm_book.proofs.Names.{arith, BookState, IsLaid, seen, so_far, state_of}
use Rattle.ksm_book.proofs.DueKept.{calmed, calmed_at}
use Rattle.ksm_book.proofs.Laying.{laid_mapped}
use Rattle.ksm_book.proofs.Promised.{finds_place, lie_on}
use Rattle.ksm_book.proofs.Sharing.{spent_most}
use Rattle.ksm_book.proofs.SoFar.{over, sound_so_far}
use Rattle.ksm_book.proofs.state.State.lies_so_far.Goals as goal
use Rattle.ksm_book.proofs.state.State.lies_so_far.Goals.{After-lie_in_order}

abbrev inside : After-lie_in_order → BookState
inside c = state_of (seen c.self.inside.pages) c.self.inside.cursor c.self.inside.passes

laid : (c : After-lie_in_order) → IsLaid (record (seen c.self.inside.pages) { rows = (so_far c.args.reach (inside c)).rows }) c.self.inside.keeper
laid c = laid_mapped c.self.invariant.1 (calmed (over c.args.reach (inside c))) (grind arith) (grind arith)

pub returns-clause-sound : goal.returns-clause-sound
returns-clause-sound c = rw (← c.self.view_is) (sound_so_far _ _ c.self.invariant.0)

pub returns-clause-placed : goal.returns-clause-placed
returns-clause-placed c =
    let at = (goal.at.returns-clause-placed c).After-lie_in_order in
    rw (← c.self.view_is) (lie_on (so_far c.args.reach (inside at)) _ (sound_so_far _ _ c.self.invariant.0) _ (laid at).placed
    (λ page none. c.lie_in_order.ensures.absent page (grind (arith, none, calmed_at (over c.args.reach (inside at)) (inside at) page))))

pub returns-clause-place : goal.returns-clause-place
returns-clause-place c =
    let at = (goal.at.returns-clause-place c).After-lie_in_order in
    rw (← c.self.view_is) (finds_place (so_far c.args.reach (inside at)) _ (sound_so_far _ _ c.self.invariant.0) _ (laid at).placed)

pub returns-clause-numbers : goal.returns-clause-numbers
returns-clause-numbers c =
    rw (← c.self.view_is) (λ k d lt. omega (arith, c.self.invariant.0.numbers k d lt, spent_most c.self.invariant.1))
