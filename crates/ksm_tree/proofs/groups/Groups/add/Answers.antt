use Rattle.ksm_tree.proofs.Names.{with_place}
use Rattle.ksm_tree.proofs.Standing.{rechained}
use Rattle.ksm_tree.proofs.groups.Groups.add.Goals as goal

pub returns-in-Some-clause-added : goal.returns-in-Some-clause-added
returns-in-Some-clause-added c =
    rechained c.args.self.now _ _ _ c.in-Some.ensures.value (with_place c.args.place) c.insert.ensures.with
