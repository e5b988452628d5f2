use Rattle.ksm_pages.proofs.Names.{arith, false, inr, is_in, refl, rules, sym, true≢false, written, ◌∙◌, ◌≡◌}
use Rattle.ksm_pages.proofs.Writing.{kept_mark, still_led, viewed}
use Rattle.ksm_pages.proofs.rows.Rows.store.Goals as goal
use Rattle.ksm_pages.proofs.rows.Rows.store.Goals.{After-take_bytes}

out : (c : After-take_bytes) → is_in c.index_mut.result.now.in_tree ≡ false
out c = grind (arith, c.index.ensures, c.index_mut.ensures.value, c.is_in.ensures, c.if-is_in.false)

pub invariant_of-self : goal.invariant_of-self
invariant_of-self c =
    let s = c.self.inside in
    let there = c.in-Some.ensures.there in
    let stood = c.index_mut.ensures.value in
    rw c.take_bytes.ensures
    (still_led s c.self.invariant.0 there stood c.self.view_is _ (kept_mark s c.self.invariant.0 there stood _ refl) (refl, λ fits. fits) c.self.invariant.1
    (λ led. absurd (true≢false (sym led ∙ out ((goal.at.invariant_of-self c).After-take_bytes)))) refl refl (search rules) (inr (refl, λ may. may)))

pub returns-else-is_in : goal.returns-else-is_in
returns-else-is_in c =
    let s = c.self.inside in
    let there = c.in-Some.ensures.there in
    let stood = c.index_mut.ensures.value in
    rw c.take_bytes.ensures
    (viewed s c.self.invariant.0 there stood c.self.view_is _ (kept_mark s c.self.invariant.0 there stood _ refl)
    (refl, λ fits. fits) (written c.args.bytes.now) (λ _. grind (arith, out ((goal.at.returns-else-is_in c).After-take_bytes))))
