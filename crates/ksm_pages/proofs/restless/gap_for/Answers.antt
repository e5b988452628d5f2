use Rattle.ksm_pages.proofs.Names.{always_returns_same, arith, IsNonDecreasingBy-from_all_adjacent, length, Listed, nat_le, nat_tests, rules, slice_get_past, slice_get_read, ◌-◌, ◌≡◌}
use Rattle.ksm_pages.proofs.Spots.{gap_here, sorted_rise}
use Rattle.ksm_pages.proofs.restless.gap_for.Goals as goal

pub returns-then-is_sorted_by : goal.returns-then-is_sorted_by
returns-then-is_sorted_by c =
    let added = c.args.added.now in
    let adjacent = rw c.if-is_sorted_by.true at (c.is_sorted_by.ensures.cases (λ (l m : Listed). nat_le l.page m.page)
    (always_returns_same _ (λ a r. r ≡ nat_le a.0.now.page a.1.0.now.page) _ (λ a r q k. search rules))) in
    let up = IsNonDecreasingBy-from_all_adjacent (λ (l : Listed). l.page) added (λ k d lt. grind (arith, nat_tests, adjacent k d lt)) in
    gap_here c.args.listed.now added c.requires c.place_of-at.result c.place_of-at.ensures.within c.in_ok-first.first.now.page c.in_ok-last.last.now.page
    c.place_of-at.ensures.ahead (c.is_place.ensures.place c.if-is_place.true).behind (sorted_rise added up)
    (λ k d lt. grind (arith, up 0 k d, c.in_ok-first.ensures.value, slice_get_read, slice_get_past))
    (λ k d lt. grind (arith, up k (length added - 1) d, c.in_ok-last.ensures.value, slice_get_read, slice_get_past))
