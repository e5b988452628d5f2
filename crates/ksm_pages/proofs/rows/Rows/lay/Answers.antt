use Rattle.ksm_pages.proofs.Names.{arith, inr, refl, rules}
use Rattle.ksm_pages.proofs.Writing.{kept_mark, own_there, still_led, viewed}
use Rattle.ksm_pages.proofs.rows.Rows.lay.Goals as goal

pub invariant_of-self : goal.invariant_of-self
invariant_of-self c =
    still_led c.self.inside c.self.invariant.0 c.in-Some.ensures.there c.index_mut.ensures.value c.self.view_is _ (search (rules, kept_mark))
    (refl, λ fits. fits) c.self.invariant.1 (λ led. (led, refl, refl)) refl refl (search rules) (inr (refl, λ may. may))

pub returns : goal.returns
returns c =
    viewed c.self.inside c.self.invariant.0 c.in-Some.ensures.there c.index_mut.ensures.value c.self.view_is _ (search (rules, kept_mark))
    (refl, λ fits. fits) _ (λ _. grind (arith, own_there))
