use Rattle.ksm_tree.proofs.Names.{arith, find_none, insert_here, IsPlace, nat_tests, none_found, numbers_ordered, with_found, with_place, with_ascends, ◌==◌, ◌≡◌}
use Rattle.ksm_tree.proofs.places.Places.insert.Goals.{After-insert-there_is_room}
use Rattle.ksm_tree.proofs.places.Places.insert.Goals as goal

inserted : (c : After-insert-there_is_room) → c.insert-there_is_room.new.self.items ≡ with_place c.args.place c.args.self.now.list.items
inserted c =
    let places = c.args.self.now.list.items in
    let at : IsPlace (λ p. p) c.args.place places c.place_near_end-at.result =
    rw (c.as_slice-places.ensures, c.from-key.ensures) at c.place_near_end-at.ensures in
    let absent = none_found (λ p. p == c.args.place) places (grind arith) in
    grind (arith, c.insert-there_is_room.ensures.succeeds, insert_here at c.args.place (find_none (λ p. p == c.args.place) places absent))

pub invariant_of-self : goal.invariant_of-self
invariant_of-self c =
    grind (arith, inserted (goal.at.invariant_of-self c).After-insert-there_is_room, with_ascends (λ p. p) c.args.place _ c.args.self.now.ascending)

pub returns-then-not-stands_at-clause-with : goal.returns-then-not-stands_at-clause-with
returns-then-not-stands_at-clause-with c = grind (arith, inserted)

pub returns-else-not-stands_at-clause-with : goal.returns-else-not-stands_at-clause-with
returns-else-not-stands_at-clause-with c =
    with_found numbers_ordered c.args.place c.args.self.now.list.items (λ i j d less lt. grind (arith, nat_tests, c.args.self.now.ascending i j d))
    (grind arith)
