use Rattle.ksm_book.proofs.Names.{GuestPage, has_item, pages_of, true, ◌||◌, ◌≡◌}
use Rattle.ksm_book.proofs.due.Due.put_in_order.Given as goal

abbrev pub invariant-added : goal.invariant-added
invariant-added l =
    (l.self.ready ≡ l.self.known) × (l.self.reach ≡ l.fn.self.reach) × (l.self.later ≡ l.fn.self.later)
    × (l.self.known ≡ true → (l.fn.self.known ≡ true) × ((page : GuestPage)
    → (has_item page l.self.pages || has_item page (pages_of l.added.items)) ≡ has_item page l.fn.self.pages))

abbrev pub decreases-added : goal.decreases-added
decreases-added l = goal.left-added l
