use Rattle.ksm_pages.proofs.Names.{All-map, ap, arith, Item, length, length-map, mark_of, mark_rises, same_key, ◌<◌, ◌^◌}
use Rattle.ksm_pages.proofs.order.Order.mark.Goals as goal

pub invariant_of-self : goal.invariant_of-self
invariant_of-self g c =
    let key = c.key_of.result in
    let mark = c.args.mergeable in
    let Small : Item → Type 0 = λ y. y.key < 2 ^ 48 in
    record {
      ascending = grind (arith, mark_rises);
      long = omega (arith, c.self.invariant.long, ap length c.set_mark.ensures, length-map c.self.inside.pages (mark_of key mark));
      small = rw c.set_mark.ensures (All-map Small _ _ (λ k d lt. rw (same_key key mark _) (c.self.invariant.small k d lt)));
    }
