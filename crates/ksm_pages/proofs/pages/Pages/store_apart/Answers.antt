use Rattle.ksm_pages.specs.Held.{laid_on}
use Rattle.ksm_pages.proofs.Names.{refl, relaid, rules, seen, Some, stored}
use Rattle.ksm_pages.proofs.Turning.{Comes, known_left, relaid_on}
use Rattle.ksm_pages.proofs.pages.Pages.store_apart.Goals as goal

came : (c : goal.After-leave)
    → Comes c.self.inside c.change-was.new.self c.leave.new.dups (relaid c.args.spot.page (stored c.args.bytes.now) (Some c.args.frame) (seen c.args.self.now))
came c =
    relaid_on (known_left {s = c.self.inside} c.self.invariant c.self.view_is c.requires (c.leave.ensures c.self.inside.rows c.args.spot.page c.change-was.ensures.before)) _
    (c.change-was.ensures.made (laid_on c.args.frame (stored c.args.bytes.now)) (search rules)) (stored c.args.bytes.now) (λ x. (refl, refl)) (λ r. (refl, refl))
    (λ _ is. cc)

pub invariant_of-self : goal.invariant_of-self
invariant_of-self c = (came c).lawful

pub returns-clause-stored : goal.returns-clause-stored
returns-clause-stored c = (came c).told_as
