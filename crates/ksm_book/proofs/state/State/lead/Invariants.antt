use Rattle.ksm_book.proofs.Names.{after_cursor, count_by, comes_before, false, GuestPage, reach_at, waits_later, ◌≡◌}
use Rattle.ksm_book.proofs.Walked.{room_behind}
use Rattle.ksm_book.proofs.state.State.lead.Given as goal

-- the rows that wait behind the page that was reached are counted, which the last one is not before
abbrev pub invariant-loop-spot : goal.invariant-loop-spot
invariant-loop-spot l =
    (l.self ≡ l.fn.self) × (l.later ≡ count_by (waits_later (reach_at l.reached)) l.fn.self.state.rows)
    × ((q : GuestPage) → after_cursor l.reached q ≡ false → comes_before l.page q ≡ false)

abbrev pub decreases-loop-spot : goal.decreases-loop-spot
decreases-loop-spot l = room_behind l.reached
