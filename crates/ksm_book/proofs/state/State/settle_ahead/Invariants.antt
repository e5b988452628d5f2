use Rattle.ksm_book.proofs.Names.{after_cursor, has_gone_by, view_of, ◌||◌, ◌≡◌}
use Rattle.ksm_book.proofs.DueKept.{narrowed}
use Rattle.ksm_book.proofs.Walked.{room_behind}
use Rattle.ksm_book.proofs.state.State.settle_ahead.Given as goal

-- of the rows up to the page that was reached only those wait that the pass has gone by
abbrev pub invariant-loop-spot : goal.invariant-loop-spot
invariant-loop-spot l =
    view_of l.self ≡ record (view_of l.fn.self) {
      state = narrowed (λ q. after_cursor l.reached q || has_gone_by l.fn.reach q) l.fn.self.state;
    }

abbrev pub decreases-loop-spot : goal.decreases-loop-spot
decreases-loop-spot l = room_behind l.reached
