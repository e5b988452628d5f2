use Rattle.ksm_tree.proofs.Names.{arith, rules, with_item}
use Rattle.ksm_tree.proofs.Chained.{room_chained, stays_chained, told_changed, told_dup}
use Rattle.ksm_tree.proofs.dups.Dups.join_at.Goals as goal

pub add_item-requires : goal.add_item-requires
add_item-requires c = grind (arith, told_dup c.args.dup c.self.invariant c.self.view_is c.in-Some.ensures)

pub invariant_of-self : goal.invariant_of-self
invariant_of-self c = room_chained c.self.invariant c.in_err-add_item.ensures.kept (search rules)

pub invariant_of-self-2 : goal.invariant_of-self-2
invariant_of-self-2 c = rw c.in_ok-add_item.ensures.added (stays_chained c.self.invariant c.in-Some.place _ _)

pub returns-clause-joined : goal.returns-clause-joined
returns-clause-joined c =
    rw c.in_ok-add_item.ensures.added
    (told_changed c.args.dup c.self.invariant c.self.view_is c.in-Some.ensures (with_item c.args.page)
    c.add_item.new.self.ready)
