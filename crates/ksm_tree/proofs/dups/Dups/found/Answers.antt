use Rattle.ksm_tree.proofs.Names.{[], ap, AreChained, arith, Dup, dups_seen, number_of, refl, rules, with_item, without_place, ℕ, ◌∙◌, ◌∷◌, ◌≡◌}
use Rattle.ksm_tree.proofs.Chained.{fresh_chained, new_again, none_left, room_chained, told}
use Rattle.ksm_tree.proofs.dups.Dups.found.Goals.{After-vacate}
use Rattle.ksm_tree.proofs.dups.Dups.found.Goals as goal

pub invariant_of-self : goal.invariant_of-self
invariant_of-self c = room_chained c.self.invariant c.reserve.ensures.kept (search rules)

pub invariant_of-self-in_err-reserve-2 : goal.invariant_of-self-in_err-reserve-2
invariant_of-self-in_err-reserve-2 c = room_chained c.self.invariant c.reserve.ensures.kept c.reserve-2.ensures.chains

pub vacate-requires : goal.vacate-requires
vacate-requires c = told (room_chained c.self.invariant c.reserve.ensures.kept c.reserve-2.ensures.chains)

-- the dups are in their groups, but for the one at the place
vacant : (c : After-vacate) → AreChained c.vacate.new.slots c.self.inside.next c.vacate.new.groups
vacant c = c.vacate.ensures.chained _ (room_chained c.self.invariant c.reserve.ensures.kept c.reserve-2.ensures.chains)

seen : (c : After-vacate) → dups_seen c.vacate.new.slots c.self.inside.next c.vacate.new.groups ≡ record c.args.self.now { dups = without_place c.args.place c.args.self.now.dups }
seen c = grind (arith, c.self.view_is, c.reserve.ensures.kept, c.reserve-2.ensures.numbers, c.vacate.ensures.gone, c.vacate.ensures.numbers)

pub add-requires-3-clause-counted : goal.add-requires-3-clause-counted
add-requires-3-clause-counted c = told (vacant (goal.at.add-requires-3-clause-counted c).After-vacate)

pub invariant_of-self-2 : goal.invariant_of-self-2
invariant_of-self-2 c =
    let here = (goal.at.invariant_of-self-2 c).After-vacate in
    let named = ap (λ s. number_of c.args.tree c.args.bytes.now s.numbers) (seen here) ∙ c.requires.known in
    rw c.put.ensures (fresh_chained _ _ (vacant here) refl (grind arith) (grind (arith, none_left))
    (c.add-3.ensures.added _ _ named) (c.add-3.ensures.totals _ _ named))

pub returns-clause-made : goal.returns-clause-made
returns-clause-made c =
    let view = seen (goal.at.returns-clause-made c).After-vacate in
    let dup : ℕ → Dup = λ n. record { row = record { number = n; place = c.args.place; tree = c.args.tree; bytes = c.args.bytes.now }; items = with_item c.args.second (c.args.first ∷ []) } in
    let again = new_again (dup c.args.self.now.next) c.args.self.now.dups in
    c.keep_open.ensures ∙ rw (c.put.ensures, c.in_ok-add-2.ensures.added) (grind (arith, view, again, c.add-3.ensures.numbers))
