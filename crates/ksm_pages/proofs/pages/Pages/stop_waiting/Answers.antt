use Rattle.ksm_pages.proofs.Names.{arith, changed, on_its_own, on_row, refl, rules, seen, settled}
use Rattle.ksm_pages.proofs.Turning.{Comes, own_left, rested}
use Rattle.ksm_pages.proofs.pages.Pages.stop_waiting.Goals as goal

came : (c : goal.After-change) → Comes c.self.inside c.change.new.self c.self.inside.dups (changed c.args.spot.page on_its_own (seen c.args.self.now))
came c =
    rested (own_left c.self.invariant c.self.view_is c.requires) c.requires _ (c.change.ensures.made (on_row settled) (search rules))
    on_its_own (λ x. (refl, refl)) (λ r. (refl, refl)) (λ x own. grind (arith, own)) (λ lone. lone)

pub invariant_of-self : goal.invariant_of-self
invariant_of-self c = (came c).lawful

pub returns : goal.returns
returns c = (came c).told_as
