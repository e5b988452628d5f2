use Rattle.ksm_tree.proofs.Names.{ap, arith, content_in, inr, nil_from_length, refl, sym}
use Rattle.ksm_tree.proofs.Standing.{Keeps, keeps}
use Rattle.ksm_tree.proofs.groups.Groups.drop_idle.Goals.{After-remove}
use Rattle.ksm_tree.proofs.groups.Groups.drop_idle.Goals as goal

gone : (c : After-remove) → Keeps c.args.self.now c.try_remove.new.self c.remove.new.self
gone c =
    keeps c.args.self.now c.remove.new.self _ c.remove.ensures.updates c.try_remove.ensures.updates
    (grind (arith, nil_from_length)) refl (inr (ap content_in (sym c.in-Some.ensures.value), refl, refl))

pub invariant_of-self-clause-lawful : goal.invariant_of-self-clause-lawful
invariant_of-self-clause-lawful c = (gone (goal.at.invariant_of-self-clause-lawful c).After-remove).lawful

pub returns-in-Some-clause-chains : goal.returns-in-Some-clause-chains
returns-in-Some-clause-chains c =
    record { chains = (gone (goal.at.returns-in-Some-clause-chains c).After-remove).chains; totals = refl }
