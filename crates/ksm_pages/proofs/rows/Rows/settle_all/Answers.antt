use Rattle.ksm_pages.proofs.Names.{arith, forgotten, refl, rules}
use Rattle.ksm_pages.proofs.Leading.{led_mapped}
use Rattle.ksm_pages.proofs.Filing.{anew, next, retained_each}
use Rattle.ksm_pages.proofs.rows.Rows.settle_all.Goals as goal

pub invariant_of-self : goal.invariant_of-self
invariant_of-self c =
    (rw c.in-Some.ensures.1 (next c.self.invariant.0).rows, c.self.invariant.1)

pub invariant_of-self-in-None : goal.invariant_of-self-in-None
invariant_of-self-in-None c =
    let slots = retained_each _ forgotten (λ f k old keep new next t. search rules) _ c.self.inside.entries c.retain.new.self c.retain.ensures.retained in (
      (anew c.self.invariant.0 c.retain.new.self slots).rows,
      led_mapped _ _ forgotten slots (λ e led. (led, refl, refl)) c.self.invariant.1,
    )

pub returns-in-Some : goal.returns-in-Some
returns-in-Some c = grind (arith, (next c.self.invariant.0).seen, c.in-Some.ensures)

pub returns-in-None : goal.returns-in-None
returns-in-None c =
    let each = retained_each _ forgotten (λ f k old keep new next t. search rules) _ c.self.inside.entries c.retain.new.self c.retain.ensures.retained in
    grind (arith, (anew c.self.invariant.0 c.retain.new.self each).seen)
