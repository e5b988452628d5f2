use Rattle.ksm_order.proofs.{AreParts, arith, into_first, into_second, IsPartOf, same_part, split}
use Rattle.ksm_order.proofs.node.make_room.Goals.{After-spill}
use Rattle.ksm_order.proofs.node.make_room.Goals as goal

are : (g : _) (c : After-spill g) → AreParts g.P.Part.items c.reserve.new.self.items
are g c = rw c.in_ok-reserve.ensures.items c.requires.parts

place : (g : _) (c : After-spill g) → IsPartOf g.P.Part.items c.args.key c.reserve.new.self.items c.args.at
place g c = rw c.in_ok-reserve.ensures.items c.requires.place

pub returns-in_err-more : goal.returns-in_err-more
returns-in_err-more g c =
    let s = (goal.at.returns-in_err-more g c).After-spill in
    grind (arith, c.in_ok-reserve.ensures.items, same_part (are g s) (place g s) c.index_mut.ensures.value c.in_err-more.ensures.failed)

pub returns-in-None : goal.returns-in-None
returns-in-None g c =
    let s = (goal.at.returns-in-None g c).After-spill in
    grind (arith, c.in_ok-reserve.ensures.items, same_part (are g s) (place g s) c.index_mut.ensures.value (rw c.in-None.is at c.in_ok-more.ensures.kept))

pub returns-then-behind : goal.returns-then-behind
returns-then-behind g c =
    let s = (goal.at.returns-then-behind g c).After-spill in
    let cut = rw c.in-Some.is at c.in_ok-more.ensures.cut in
    grind (arith, c.in_ok-insert.ensures.items, c.in_ok-reserve.ensures.items, split (are g s) (place g s) c.index_mut.ensures.value cut, into_first (are g s) (place g s) c.index_mut.ensures.value cut)

pub returns-else-behind : goal.returns-else-behind
returns-else-behind g c =
    let s = (goal.at.returns-else-behind g c).After-spill in
    let cut = rw c.in-Some.is at c.in_ok-more.ensures.cut in
    grind (arith, c.in_ok-insert.ensures.items, c.in_ok-reserve.ensures.items, split (are g s) (place g s) c.index_mut.ensures.value cut, into_second (are g s) (place g s) c.index_mut.ensures.value cut)
