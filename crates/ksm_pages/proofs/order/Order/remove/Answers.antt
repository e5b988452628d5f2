use Rattle.ksm_pages.proofs.Names.{All-filter, AllPairs-filter, ap, arith, find, is_at, is_some, Item, length, true, ◌<◌, ◌^◌, ◌≡◌}
use Rattle.ksm_pages.proofs.Options.{some_mapped}
use Rattle.ksm_pages.proofs.Ranked.{found_by, gone_one}
use Rattle.ksm_pages.proofs.order.Order.remove.Goals as goal

pub invariant_of-self : goal.invariant_of-self
invariant_of-self g c =
    let there : is_some (find (is_at c.key_of.result) c.self.inside.pages) ≡ true =
    grind (arith, c.key_of.ensures, found_by c.args.page c.key_of.ensures.few c.self.inside.pages, some_mapped, c.self.view_is, c.requires) in
    record {
      ascending = rw c.remove.ensures (AllPairs-filter (λ (x y : Item). x.key < y.key) _ _ c.self.invariant.ascending);
      long = omega (arith, c.self.invariant.long, ap length c.remove.ensures, gone_one _ _ c.self.invariant.ascending there);
      small = rw c.remove.ensures (All-filter _ (λ (y : Item). y.key < 2 ^ 48) _ c.self.invariant.small);
    }
