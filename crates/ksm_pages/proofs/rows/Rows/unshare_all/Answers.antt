use Rattle.ksm_pages.proofs.Names.{arith, false, map_mapped, on_row, refl, rules, settled}
use Rattle.ksm_pages.proofs.Leading.{led_mapped}
use Rattle.ksm_pages.proofs.Filing.{all_held, plain, plain_seen, retained_each}
use Rattle.ksm_pages.proofs.rows.Rows.unshare_all.Goals as goal

pub invariant_of-self : goal.invariant_of-self
invariant_of-self c =
    let slots = retained_each _ plain (λ f k old keep new next t. search rules) _ c.self.inside.entries c.retain.new.self c.retain.ensures.retained in (
      (plain_seen c.self.invariant.0 c.retain.new.self slots).rows,
      led_mapped _ _ plain slots (λ e led. (led, refl, refl)) c.self.invariant.1,
    )

pub returns : goal.returns
returns c =
    let each = retained_each _ plain (λ f k old keep new next t. search rules) _ c.self.inside.entries c.retain.new.self c.retain.ensures.retained in
    let twice = map_mapped (on_row settled) (on_row (λ r. record r { unchanged = false }))
    (on_row (λ r. record (settled r) { unchanged = false })) (all_held c.self.inside) (λ k d lt. refl) in
    grind (arith, (plain_seen c.self.invariant.0 c.retain.new.self each).seen, twice, c.settle_all.ensures)
