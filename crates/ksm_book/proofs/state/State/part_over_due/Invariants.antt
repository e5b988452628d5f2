use Rattle.ksm_book.proofs.Names.{AreDue, CountsLater, due_visited, false, reach_to, true, ◌≡◌}
use Rattle.ksm_book.proofs.Walked.{IsWalking, room_behind}
use Rattle.ksm_book.proofs.state.State.part_over_due.Given as goal

abbrev pub invariant-loop-spot : goal.invariant-loop-spot
invariant-loop-spot l =
    IsWalking due_visited l.fn.last l.fn.self l.self l.reached false × AreDue l.self.state l.due.pages × (l.due.ready ≡ true)
    × CountsLater l.due l.self.state × (l.due.reach ≡ reach_to l.fn.last)

abbrev pub decreases-loop-spot : goal.decreases-loop-spot
decreases-loop-spot l = room_behind l.reached
