use Rattle.ksm_pages.proofs.Names.{arith, inr, on_row, refl, rules, settled, true}
use Rattle.ksm_pages.proofs.Writing.{can_be, kept_mark, row_there, still_led, viewed}
use Rattle.ksm_pages.proofs.rows.Rows.note_unchanged.Goals as goal

pub change-requires : goal.change-requires
change-requires c = search (rules, can_be c.self.inside c.self.invariant.0 c.in-Some.ensures.there)

pub invariant_of-self : goal.invariant_of-self
invariant_of-self c =
    still_led c.self.inside c.self.invariant.0 c.in-Some.ensures.there c.index_mut-entry.ensures.value c.self.view_is _ (search (rules, kept_mark))
    (refl, λ _ own. grind arith) c.self.invariant.1 (λ led. (led, refl, refl)) c.state_alone-old.ensures
    (grind (arith, row_there)) c.change.ensures (inr (refl, λ may. may))

pub returns : goal.returns
returns c =
    viewed c.self.inside c.self.invariant.0 c.in-Some.ensures.there c.index_mut-entry.ensures.value c.self.view_is _ (search (rules, kept_mark))
    (refl, λ _ own. grind arith) (on_row (λ r. record (settled r) { unchanged = true })) (λ _. grind (arith, row_there))
