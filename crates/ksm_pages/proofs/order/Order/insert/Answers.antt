use Rattle.ksm_pages.proofs.Names.{All-append, All-cons, All-filter, ap, arith, Item, length, map, Named, named_by, true, with_named, ◌+◌, ◌<◌, ◌^◌, ◌≡◌}
use Rattle.ksm_order.specs.Listed.{with_item}
use Rattle.ksm_order.proofs.Places.{with_ascends}
use Rattle.ksm_pages.proofs.Ranked.{found_by, longer_by, put_its}
use Rattle.ksm_pages.proofs.order.Order.insert.Goals as goal

pub invariant_of-self-2 : goal.invariant_of-self-2
invariant_of-self-2 g c =
    let rise = c.self.invariant.ascending in
    let x : Item = record { key = c.key_of.result; value = c.args.key; marked = true } in
    let added = c.add.ensures.added (grind arith) in
    let come = added.1 in
    let n : Named = record { page = c.args.page; key = c.args.key; mergeable = true } in
    let put : with_named n (map named_by c.self.inside.pages) ≡ map named_by (with_item x c.self.inside.pages) =
    rw c.key_of.ensures.key (put_its _ c.key_of.ensures.few c.args.key c.self.inside.pages) in
    let one_more : c.in-Some.len ≡ c.self.inside.len + 1 = grind arith in
    let Small : Item → Type 0 = λ y. y.key < 2 ^ 48 in
    record {
      ascending = rw come (with_ascends (λ y. y.key) x _ rise);
      long = omega (arith, one_more, c.self.invariant.long, ap length come, longer_by n x c.self.inside.pages rise (grind (arith, added.0, found_by c.args.page c.key_of.ensures.few c.self.inside.pages)) put);
      small = rw come (All-append Small _ _ (All-filter _ Small _ c.self.invariant.small)
          (All-cons Small x _ c.key_of.ensures.small (All-filter _ Small _ c.self.invariant.small)));
    }
