use Rattle.ksm_order.proofs.{ap, AreParts, arith, cut, few_in_part, find_in_part, flat_map, IsPartOf, Item, length, length-append, length-map, local_mark, many, nil_from_length, part_having, set}
use Rattle.ksm_order.proofs.{set_part, with_mark, ◌+◌, ◌∙◌, ◌≡◌, ◌≤◌}
use Rattle.std.proofs.lemmas.List.Sums.{count_by-le-length}
use Rattle.std.specs.Int.{from_bool}
use Rattle.ksm_order.proofs.node.NodePart.mark_next.Goals.{In_ok-was}
use Rattle.ksm_order.proofs.node.NodePart.mark_next.Goals as goal

place : (g : _) (c : In_ok-was g) → IsPartOf g.P.Part.items c.args.key c.self.inside.parts.items c.self.inside.last
place g c = part_having c.self.invariant.0 (omega arith) c.index_mut.ensures.value c.in_ok-was.ensures.there

-- the part has its item marked, and so have all
there : (g : _) (c : In_ok-was g) → let f = g.P.Part.items in let old = c.self.inside.parts.items in let new = set old c.self.inside.last c.mark_next.new.self in
    AreParts f new × (flat_map f new ≡ with_mark c.args.key c.args.mark (flat_map f old))
    × (many (flat_map f new) + many (f c.index_mut.result.now) ≡ many (flat_map f old) + many (f c.mark_next.new.self))
there g c = set_part c.self.invariant.0 (place g c) c.index_mut.ensures.value (local_mark c.args.key c.args.mark) c.in_ok-was.ensures.marked
    (λ none. grind (arith, ap length none, length-map, c.in_ok-was.ensures.there, nil_from_length (g.P.Part.items c.index_mut.result.now)))

pub mark_next-requires : goal.mark_next-requires
mark_next-requires g c = grind (arith, cut g.P.Part.items c.self.inside.parts.items c.self.inside.last, c.index_mut.ensures.value, length-append)

-- one more is marked, or one fewer, as in the part; and no more than there are
counted : (g : _) (c : In_ok-was g) → let f = g.P.Part.items in let old = flat_map f c.self.inside.parts.items in
    let new = flat_map f (set c.self.inside.parts.items c.self.inside.last c.mark_next.new.self) in
    (from_bool c.in_ok-was.was' ≤ many old) × (many new + from_bool c.in_ok-was.was' ≡ many old + from_bool c.args.mark) × (many new ≤ length old)
counted g c =
    let f = g.P.Part.items in
    let new = flat_map f (set c.self.inside.parts.items c.self.inside.last c.mark_next.new.self) in
    let is = there g c in
    let few = few_in_part (place g c) c.index_mut.ensures.value in
    let told = c.in_ok-was.ensures.counted in
    let long : length new ≡ length (flat_map f c.self.inside.parts.items) = ap length is.1 ∙ length-map _ _ in
    (omega (arith, few.1, told.0), omega (arith, is.2, told.1), omega (arith, long, count_by-le-length (λ (x : Item). x.marked) new))

pub overflow_sub-self : goal.overflow_sub-self
overflow_sub-self g c = grind (arith, (counted g (goal.at.overflow_sub-self g c).In_ok-was).0)

pub overflow_add-self : goal.overflow_add-self
overflow_add-self g c = grind (arith, counted g (goal.at.overflow_add-self g c).In_ok-was)

pub invariant_of-self-2 : goal.invariant_of-self-2
invariant_of-self-2 g c = grind (arith, there, counted)

pub returns-clause-there : goal.returns-clause-there
returns-clause-there g c =
    let s = (goal.at.returns-clause-there g c).In_ok-was in
    grind (arith, find_in_part (place g s) c.index_mut.ensures.value, c.in_ok-was.ensures.there)

pub returns-clause-marked : goal.returns-clause-marked
returns-clause-marked g c = rw (← c.self.view_is) (there g (goal.at.returns-clause-marked g c).In_ok-was).1

pub returns-clause-counted : goal.returns-clause-counted
returns-clause-counted g c = grind (arith, counted, c.self.view_is)
