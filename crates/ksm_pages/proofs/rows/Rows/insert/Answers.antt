use Rattle.ksm_pages.proofs.Names.{arith, rules, ◌≡◌}
use Rattle.ksm_pages.proofs.Leading.{led_out}
use Rattle.ksm_pages.proofs.Writing.{filled, still_put, viewed_put}
use Rattle.ksm_pages.proofs.rows.Rows.insert.Goals as goal

-- the entry came under the key that was vacant
key_is : (c : goal.After-add) → c.insert_reserved.result ≡ c.in-Ok.key
key_is c = search rules

pub invariant_of-self-2 : goal.invariant_of-self-2
invariant_of-self-2 c =
    let vacant = rw (key_is c) at c.insert_reserved.ensures.was_vacant in
    let fills = rw (key_is c) at c.insert_reserved.ensures.updates in
    rw c.in_ok-insert.ensures.added (
      still_put c.self.inside c.self.invariant.0 c.self.view_is c.reserve_one.ensures.rest vacant c.in_ok-insert.ensures.absent fills
          (grind arith) (omega arith) c.add.ensures,
      led_out c.self.invariant.1 (filled c.self.inside c.self.invariant.0 c.self.view_is c.reserve_one.ensures.rest vacant c.in_ok-insert.ensures.absent fills)
          (λ e is. grind arith),
    )

pub returns-clause-added : goal.returns-clause-added
returns-clause-added c =
    let vacant = rw (key_is c) at c.insert_reserved.ensures.was_vacant in
    let now = viewed_put c.self.inside c.self.invariant.0 c.self.view_is c.reserve_one.ensures.rest vacant
    c.in_ok-insert.ensures.absent (rw (key_is c) at c.insert_reserved.ensures.updates) in
    grind (arith, now, c.in_ok-insert.ensures.added)
