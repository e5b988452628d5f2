use Rattle.ksm_book.proofs.Names.{Comes, CountsLater, shown_so_far, TellsDue, visits_beside, ◌-◌, ◌≤◌}
use Rattle.ksm_book.proofs.state.State.scan.Given as goal

abbrev pub invariant-loop-done : goal.invariant-loop-done
invariant-loop-done l =
    (l.done ≤ l.count) × Comes (shown_so_far l.fn.due l.fn.self) (shown_so_far l.due l.self) (visits_beside l.done)
    × TellsDue l.due l.self.state × CountsLater l.due l.self.state

abbrev pub decreases-loop-done : goal.decreases-loop-done
decreases-loop-done l = l.count - l.done
