use Rattle.ksm_pages.specs.Held.{laid_on}
use Rattle.ksm_pages.proofs.Names.{at_home_on, refl, relaid, rules, seen, Some}
use Rattle.ksm_pages.proofs.Turning.{Comes, known_left, relaid_on}
use Rattle.ksm_pages.proofs.pages.Pages.move_on.Goals as goal

came : (c : goal.After-leave)
    → Comes c.self.inside c.change_out_of_tree-was.new.self c.leave.new.dups (relaid c.args.spot.page (at_home_on c.args.node) (Some c.args.frame) (seen c.args.self.now))
came c =
    relaid_on (known_left {s = c.self.inside} c.self.invariant c.self.view_is c.requires (c.leave.ensures c.self.inside.rows c.args.spot.page c.change_out_of_tree-was.ensures.before)) _
    (c.change_out_of_tree-was.ensures.made (laid_on c.args.frame (at_home_on c.args.node)) (search rules)) (at_home_on c.args.node) (λ x. (refl, refl)) (λ r. (refl, refl))
    (λ _ is. cc)

pub invariant_of-self : goal.invariant_of-self
invariant_of-self c = (came c).lawful

pub returns-clause-moved : goal.returns-clause-moved
returns-clause-moved c = (came c).told_as
