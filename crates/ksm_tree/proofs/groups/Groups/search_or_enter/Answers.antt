use Rattle.ksm_tree.proofs.Names.{arith, content_of, get, Group, inl, None, refl, rules, Some, ◌∙◌, ◌≡◌}
use Rattle.ksm_tree.specs.Groups.{number_in}
use Rattle.std.specs.BTreeMap.Entry.{map_with_value}
use Rattle.slab.specs.Slab.{Updates as Fills}
use Rattle.ksm_tree.proofs.Standing.{Keeps, keeps, no_other}
use Rattle.ksm_tree.proofs.groups.Groups.search_or_enter.Goals.{After-insert_reserved}
use Rattle.ksm_tree.proofs.groups.Groups.search_or_enter.Goals as goal

-- the group had no number
absent : (c : After-insert_reserved) → number_in c.args.tree c.args.bytes.now c.make_room.new.self ≡ None
absent c = rw c.in-Vacant.is at c.in_ok-entry.ensures.found

entered : (c : After-insert_reserved) → Keeps c.make_room.new.self c.insert_reserved.new.self (map_with_value c.in_ok-entry.field-0 c.in-Ok.number)
entered c =
    let g = c.make_room.new.self in
    let k = content_of c.args.tree c.args.bytes.now in
    let fresh : Group = record { content = k; places = c.new.result } in
    let key : c.insert_reserved.result ≡ c.in-Ok.number = search rules in
    let vacant : get g.groups c.in-Ok.number ≡ None = grind (arith, key, c.reserve_one.ensures.rest, c.insert_reserved.ensures.was_vacant) in
    let fills : Fills g.groups c.insert_reserved.new.self c.in-Ok.number (Some fresh) = grind (arith, key, c.reserve_one.ensures.rest, c.insert_reserved.ensures.updates) in
    keeps g _ k (c.in_ok-entry.ensures.update.0 c.in-Ok.number) fills (rw vacant refl) c.new.ensures.none (inl (absent c, vacant, refl, refl))

pub invariant_of-self-in-Vacant : goal.invariant_of-self-in-Vacant
invariant_of-self-in-Vacant c = record { lawful = search (rules, (entered c).lawful, c.insert-number.ensures.writes_back); bounded = c.make_room.new.self.bounded }

pub returns-in-Ok-clause-chains : goal.returns-in-Ok-clause-chains
returns-in-Ok-clause-chains c =
    let e = entered ((goal.at.returns-in-Ok-clause-chains c).After-insert_reserved) in
    let was = c.make_room.ensures.chains in
    record { chains = λ t b. (search (rules, e.chains)) ∙ was.chains t b; totals = was.totals }

pub returns-in-Ok-clause-reserve : goal.returns-in-Ok-clause-reserve
returns-in-Ok-clause-reserve c =
    let e = entered ((goal.at.returns-in-Ok-clause-reserve c).After-insert_reserved) in
    let none = absent ((goal.at.returns-in-Ok-clause-reserve c).After-insert_reserved) in
    let apart = no_other c.make_room.new.self.numbers (map_with_value c.in_ok-entry.field-0 c.in-Ok.number) c.args.tree c.args.bytes.now c.in-Ok.number (c.in_ok-entry.ensures.update.0 c.in-Ok.number) in
    grind (arith, c.in_ok-entry.ensures.value, c.in_ok-entry.ensures.len c.in-Ok.number, apart, e.chains)
