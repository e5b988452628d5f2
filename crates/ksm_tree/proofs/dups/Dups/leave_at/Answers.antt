use Rattle.ksm_tree.proofs.Names.{arith, change_items_of, find_none, has_number, without_item}
use Rattle.ksm_tree.proofs.Chained.{stays_chained, told_changed, told_dup}
use Rattle.ksm_tree.proofs.Alike.{change_none}
use Rattle.ksm_tree.proofs.dups.Dups.leave_at.Goals as goal

pub remove_item-requires : goal.remove_item-requires
remove_item-requires c = grind (arith, told_dup c.args.dup c.self.invariant c.self.view_is c.in_ok-place.ensures)

pub invariant_of-self : goal.invariant_of-self
invariant_of-self c = rw c.remove_item.ensures (stays_chained c.self.invariant c.in_ok-place.place _ _)

pub returns-clause-left : goal.returns-clause-left
returns-clause-left c =
    rw c.remove_item.ensures (told_changed c.args.dup c.self.invariant c.self.view_is c.in_ok-place.ensures
    (without_item c.args.page) c.remove_item.new.self.ready)

pub returns-in_err-place-clause-left : goal.returns-in_err-place-clause-left
returns-in_err-place-clause-left c =
    let none = find_none (has_number c.args.dup) c.args.self.now.dups in
    grind (arith, none, change_none (has_number c.args.dup) (change_items_of (without_item c.args.page)) c.args.self.now.dups)
