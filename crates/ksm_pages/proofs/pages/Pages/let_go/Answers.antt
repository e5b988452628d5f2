use Rattle.ksm_pages.proofs.Names.{arith, changed, let_go, refl, seen}
use Rattle.ksm_pages.proofs.Turning.{Comes, own_left, rested}
use Rattle.ksm_pages.proofs.pages.Pages.let_go.Goals as goal

came : (c : goal.After-let_go) → Comes c.self.inside c.let_go.new.self c.self.inside.dups (changed c.args.spot.page let_go (seen c.args.self.now))
came c =
    rested (own_left c.self.invariant c.self.view_is c.requires) c.requires _ c.let_go.ensures let_go (λ x. (refl, refl)) (λ r. (refl, refl)) (λ x own. grind (arith, own)) (λ lone. lone)

pub invariant_of-self : goal.invariant_of-self
invariant_of-self c = (came c).lawful

pub returns : goal.returns
returns c = (came c).told_as
