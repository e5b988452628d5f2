use Rattle.ksm_pages.proofs.Names.{arith, rules}
use Rattle.ksm_pages.proofs.Filing.{out, out_seen, retained_each}
use Rattle.ksm_pages.proofs.rows.Rows.clear_tree.Goals as goal

pub invariant_of-self : goal.invariant_of-self
invariant_of-self c =
    let slots = retained_each _ out (λ f k old keep new next t. search rules) _ c.self.inside.entries c.retain.new.self c.retain.ensures.retained in
    ((out_seen c.self.invariant.0 c.retain.new.self slots).rows, record { at = λ t b k stands. absurd (grind (arith, slots k)) })

pub returns : goal.returns
returns c =
    let each = retained_each _ out (λ f k old keep new next t. search rules) _ c.self.inside.entries c.retain.new.self c.retain.ensures.retained in
    grind (arith, (out_seen c.self.invariant.0 c.retain.new.self each).seen)
