use Rattle.ksm_pages.proofs.Names.{arith, changed, refl, seen, stored}
use Rattle.ksm_pages.proofs.Turning.{Comes, own_left, rested}
use Rattle.ksm_pages.proofs.pages.Pages.store.Goals as goal

came : (c : goal.After-store) → Comes c.self.inside c.store.new.self c.self.inside.dups (changed c.args.spot.page (stored c.args.bytes.now) (seen c.args.self.now))
came c =
    rested (own_left c.self.invariant c.self.view_is c.requires) c.requires _ c.store.ensures (stored c.args.bytes.now)
    (λ x. (refl, refl)) (λ r. (refl, refl)) (λ x own. grind (arith, own)) (λ _ is. cc)

pub invariant_of-self : goal.invariant_of-self
invariant_of-self c = (came c).lawful

pub returns : goal.returns
returns c = (came c).told_as
