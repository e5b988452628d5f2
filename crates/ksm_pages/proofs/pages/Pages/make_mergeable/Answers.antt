use Rattle.ksm_pages.proofs.Names.{changed, refl, rules, seen, true}
use Rattle.ksm_pages.proofs.Turning.{Comes, held_as, stays}
use Rattle.ksm_pages.proofs.pages.Pages.make_mergeable.Goals as goal

came : (c : goal.After-change)
    → Comes c.self.inside c.change.new.self c.self.inside.dups (changed c.args.spot.page (λ r. record r { mergeable = true }) (seen c.args.self.now))
came c =
    stays c.self.inside c.self.invariant c.self.view_is _ (λ r. record r { mergeable = true }) (λ r. refl) (λ r. refl)
    (λ x lone. lone) c.change.new.self (held_as (c.change.ensures.made _ (search rules)))

pub invariant_of-self : goal.invariant_of-self
invariant_of-self c = (came c).lawful

pub returns : goal.returns
returns c = (came c).told_as
