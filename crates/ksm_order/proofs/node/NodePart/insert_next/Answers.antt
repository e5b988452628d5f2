use Rattle.ksm_order.proofs.Names.{ap, AreParts, arith, flat_map, IsPartOf, length, length-append, many, nat_lt, refl, set, with_item, ◌+◌, ◌≡◌}
use Rattle.ksm_order.proofs.Changes.{byte_of, local_with, set_part}
use Rattle.ksm_order.proofs.Parts.{any_in_part, cut, find_in_part, many_with, part_among}
use Rattle.ksm_order.proofs.node.NodePart.insert_next.Goals as goal

place : (g : _) (c : goal.After-self-2-1 g) → IsPartOf g.P.Part.items c.args.item.key c.self.inside.parts.items c.self.inside.last
place g c = part_among c.self.invariant.0 (omega arith) c.index_mut.ensures.value (c.if-not-insert_next.ensures.added refl).2
    (λ told. grind (arith, told)) (λ told. rw c.as_slice.ensures.value at c.reaches_on-behind.ensures.behind told)

-- the part has the item, and so have all
put : (g : _) (c : goal.After-self-2-1 g) → let f = g.P.Part.items in let old = c.self.inside.parts.items in let new = set old c.self.inside.last c.insert_next.new.self in
    AreParts f new × (flat_map f new ≡ with_item c.args.item (flat_map f old))
    × (many (flat_map f new) + many (f c.index_mut.result.now) ≡ many (flat_map f old) + many (f c.insert_next.new.self))
put g c = set_part c.self.invariant.0 (place g c) c.index_mut.ensures.value (local_with c.args.item) (c.if-not-insert_next.ensures.added refl).1
    (λ none. grind (arith, ap length none, length-append))

pub insert_next-requires : goal.insert_next-requires
insert_next-requires g c = grind (arith, cut g.P.Part.items c.self.inside.parts.items c.self.inside.last, c.index_mut.ensures.value, length-append)

pub invariant_of-self-2 : goal.invariant_of-self-2
invariant_of-self-2 g c =
    let f = g.P.Part.items in
    let absent = (c.if-not-insert_next.ensures.added refl).0 in
    grind (arith, put g c, local_with c.args.item, many_with c.args.item (flat_map f c.self.inside.parts.items), find_in_part (place g c) c.index_mut.ensures.value, absent, byte_of)

pub returns-clause-added : goal.returns-clause-added
returns-clause-added g c told =
    let f = g.P.Part.items in
    let parts = c.self.inside.parts.items in
    let added = c.if-not-insert_next.ensures.added refl in
    let key = c.args.item.key in
    let any = any_in_part f parts c.self.inside.last (omega arith) c.index_mut.ensures.value in
    rw (← c.self.view_is) (
      grind (arith, find_in_part (place g c) c.index_mut.ensures.value, added.0),
      (put g c).1,
      record {
        over = grind (arith, added.2.over, any (λ y. nat_lt y.key key));
        under = grind (arith, added.2.under, any (λ y. nat_lt key y.key), rw c.as_slice.ensures.value at c.reaches_on-behind.ensures.told);
      },
    )
