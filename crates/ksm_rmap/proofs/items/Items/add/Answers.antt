use Rattle.ksm_order.proofs.Names.{All-append, All-cons, All-filter, arith, find_none, insert, IsPlace, length, length-insert, length-map, refill, ℕ, ◌<◌, ◌==◌, ◌^◌, ◌∙◌, ◌≡◌}
use Rattle.ksm_rmap.specs.Keys.{with_key}
use Rattle.ksm_rmap.proofs.Keys.{has_by_key, with_by_key}
use Rattle.ksm_order.proofs.Ordered.{none_found}
use Rattle.ksm_order.proofs.Places.{insert_here, with_ascends}
use Rattle.ksm_rmap.proofs.Pages.{refilled}
use Rattle.ksm_rmap.proofs.items.Items.add.Goals as goal

-- the key is put in at its place
put : (c : goal.After-self-1) → c.move_last.new.items ≡ insert c.self.inside.keys.items c.place_near_end-at.result c.key_of-key.result
put c = c.move_last.ensures c.self.inside.keys.items c.key_of-key.result (c.as_mut_slice.ensures.value ∙ c.in_ok-push.ensures.ok)

long : (c : goal.After-self-1) → length c.move_last.new.items ≡ length c.push.new.self.items
long c = grind (arith, put c, length-insert, c.in_ok-push.ensures.len)

-- it was not there, as its page was not, so it stands behind those before it
added : (c : goal.After-self-1)
    → refill (length c.push.new.self.items) c.push.new.self.items c.move_last.new.items ≡ with_key c.key_of-key.result c.self.inside.keys.items
added c =
    let keys = c.self.inside.keys.items in
    let key = c.key_of-key.result in
    let absent = none_found (λ k. k == key) keys (grind (arith, has_by_key c.args.page c.key_of-key.ensures.few, c.requires.absent)) in
    let place : IsPlace (λ k. k) key keys c.place_near_end-at.result = rw c.as_slice.ensures at c.place_near_end-at.ensures in
    refilled c.push.new.self.items c.move_last.new.items (long c)
    ∙ put c
    ∙ insert_here place key (find_none (λ k. k == key) keys absent)

pub invariant_of-self-2 : goal.invariant_of-self-2
invariant_of-self-2 c =
    let Small : ℕ → Type 0 = λ k. k < 2 ^ 48 in
    let key = c.key_of-key.result in
    record {
      ascending = rw (added c) (with_ascends (λ k. k) key _ c.self.invariant.ascending);
      small = rw (added c) (All-append Small _ _ (All-filter _ Small _ c.self.invariant.small)
          (All-cons Small key _ c.key_of-key.ensures.small (All-filter _ Small _ c.self.invariant.small)));
      few = grind (arith, refilled c.push.new.self.items c.move_last.new.items (long c), long c, c.in_ok-push.ensures.len, length-map, c.requires.fewer);
    }

pub returns-clause-added : goal.returns-clause-added
returns-clause-added c =
    grind (arith, added c, with_by_key c.args.page c.key_of-key.ensures.few)
