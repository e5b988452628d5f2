use Rattle.ksm_order.proofs.Names.{arith, find_nothing, get_or_default, IsPlace, is_at, list_any_at, nat_lt, nat_tests, ◌-◌}
use Rattle.ksm_order.proofs.Places.{none_there}
use Rattle.ksm_order.proofs.leaf.fits.Goals as goal

pub returns : goal.returns
returns c told =
    let xs = c.args.items.now in
    let at = c.args.at in
    let key = c.args.key in
    let rise = c.requires.order in
    let place : IsPlace (λ x. x.key) key xs at = record {
      within = c.requires.within;
      ahead = λ k d. grind (arith, nat_tests, get_or_default, rise k (at - 1) d);
      behind = λ k d. grind (arith, nat_tests, get_or_default, rise at k d);
    } in (
      place,
      find_nothing (is_at key) xs (none_there place (λ i j d less lt. grind (arith, rise i j d)) (λ d lt. grind (arith, nat_tests, get_or_default))),
      record {
        over = grind (arith, nat_tests, list_any_at (λ x. nat_lt x.key key) xs (at - 1));
        under = grind (arith, nat_tests, list_any_at (λ x. nat_lt key x.key) xs at);
      },
    )
