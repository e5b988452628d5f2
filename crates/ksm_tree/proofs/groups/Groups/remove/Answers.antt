use Rattle.ksm_tree.proofs.Names.{sym, without}
use Rattle.ksm_tree.proofs.Standing.{rechained}
use Rattle.ksm_tree.proofs.groups.Groups.remove.Goals as goal

pub returns-in-Some-get_mut-clause-removed : goal.returns-in-Some-get_mut-clause-removed
returns-in-Some-get_mut-clause-removed c =
    rechained c.args.self.now _ _ _ c.in-Some-get_mut.ensures.value
    (without c.args.place) c.remove.ensures.without _ _ (sym c.in-Some.ensures)
