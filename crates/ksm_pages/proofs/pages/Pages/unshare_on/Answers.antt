use Rattle.ksm_pages.proofs.Names.{refl, relaid, rules, seen, Some, unshared}
use Rattle.ksm_pages.proofs.Turning.{Comes, known_left, relaid_on}
use Rattle.ksm_pages.proofs.pages.Pages.unshare_on.Goals as goal

came : (c : goal.After-leave)
    → Comes c.self.inside c.change-was.new.self c.leave.new.dups (relaid c.args.spot.page unshared (Some c.args.frame) (seen c.args.self.now))
came c =
    relaid_on (known_left {s = c.self.inside} c.self.invariant c.self.view_is c.requires (c.leave.ensures c.self.inside.rows c.args.spot.page c.change-was.ensures.before)) _
    (c.change-was.ensures.made (λ h. record h { row = unshared h.row; frame = Some c.args.frame }) (search rules)) unshared (λ x. (refl, refl)) (λ r. (refl, refl))
    (λ lone. lone)

pub invariant_of-self : goal.invariant_of-self
invariant_of-self c = (came c).lawful

pub returns-clause-unshared : goal.returns-clause-unshared
returns-clause-unshared c = (came c).told_as
