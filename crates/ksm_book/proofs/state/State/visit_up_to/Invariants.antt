use Rattle.ksm_book.proofs.Names.{after_cursor, AreDue, filter, mergeable_pages, None, page_visited, true, ◌≡◌}
use Rattle.ksm_book.proofs.Walked.{IsWalking, room_behind}
use Rattle.ksm_book.proofs.state.State.visit_up_to.Given as goal

abbrev pub invariant-loop-spot : goal.invariant-loop-spot
invariant-loop-spot l =
    IsWalking page_visited l.fn.last l.fn.self l.self l.reached l.made.quiet
    × (l.made.quiet ≡ true → l.fn.self.state.cursor ≡ None
    → AreDue l.self.state (filter (after_cursor l.reached) (mergeable_pages l.fn.self.state.rows)))

abbrev pub decreases-loop-spot : goal.decreases-loop-spot
decreases-loop-spot l = room_behind l.reached
