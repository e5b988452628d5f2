use Rattle.ksm_pages.proofs.Names.{None, refl, relaid, seen, sym, true≢false, Zero, ◌∙◌}
use Rattle.ksm_pages.proofs.Changing.{not_alone}
use Rattle.ksm_pages.proofs.Turning.{Comes, moved, own_left}
use Rattle.ksm_pages.proofs.pages.Pages.become_zero.Goals as goal

gone : (c : goal.After-become_zero)
    → Comes c.self.inside c.become_zero.new.self c.self.inside.dups (relaid c.args.spot.page (λ r. record r { state = Zero }) None (seen c.args.self.now))
gone c =
    moved (own_left c.self.invariant c.self.view_is c.requires) _ c.become_zero.ensures.zero (λ x. refl) (λ r. record r { state = Zero }) (λ r. refl) refl refl
    (λ _ is. absurd (true≢false (sym is ∙ not_alone _))) refl

pub invariant_of-self : goal.invariant_of-self
invariant_of-self c = (gone c).lawful

pub returns-clause-zero : goal.returns-clause-zero
returns-clause-zero c = (gone c).told_as
