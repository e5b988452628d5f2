use Rattle.ksm_tree.proofs.Names.{absent_kept, arith, Dup, numbers_ordered, sym}
use Rattle.ksm_tree.proofs.Chained.{gone_chained}
use Rattle.ksm_tree.proofs.dups.vacate.Goals as goal

pub returns-in-Some-clause-chained : goal.returns-in-Some-clause-chained
returns-in-Some-clause-chained c next h =
    rw c.clear.ensures.gone (gone_chained h c.args.place c.in-Some.dup.now _ (sym c.in-Some.ensures) c.remove.ensures.removed c.remove.ensures.totals)

pub returns-in_default-clause-gone : goal.returns-in_default-clause-gone
returns-in_default-clause-gone c = grind (arith, absent_kept numbers_ordered (λ (d : Dup). d.row.place) c.args.place c.args.slots.now.dups)
