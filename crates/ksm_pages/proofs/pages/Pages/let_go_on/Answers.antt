use Rattle.ksm_pages.proofs.Names.{let_go, refl, relaid, rules, seen, Some}
use Rattle.ksm_pages.proofs.Turning.{Comes, known_left, relaid_on}
use Rattle.ksm_pages.proofs.pages.Pages.let_go_on.Goals as goal

came : (c : goal.After-leave)
    → Comes c.self.inside c.change-was.new.self c.leave.new.dups (relaid c.args.spot.page let_go (Some c.args.frame) (seen c.args.self.now))
came c =
    relaid_on (known_left {s = c.self.inside} c.self.invariant c.self.view_is c.requires (c.leave.ensures c.self.inside.rows c.args.spot.page c.change-was.ensures.before)) _
    (c.change-was.ensures.made (λ h. record h { row = let_go h.row; frame = Some c.args.frame }) (search rules)) let_go (λ x. (refl, refl)) (λ r. (refl, refl))
    (λ lone. lone)

pub invariant_of-self : goal.invariant_of-self
invariant_of-self c = (came c).lawful

pub returns-clause-gone : goal.returns-clause-gone
returns-clause-gone c = (came c).told_as
