use Rattle.ksm_pages.proofs.Names.{All-permutation, append_assoc, AreSmall, arith, drop, IsPutAmong, Listed, subst, sym, take, ◌++◌, ◌<◌, ◌^◌, ◌≡◌}
use Rattle.ksm_pages.proofs.Spots.{put_between, put_shuffled, put_sorted}
use Rattle.ksm_pages.proofs.restless.put_all.Goals as goal
use Rattle.ksm_pages.proofs.restless.put_all.Goals.{After-turn_falling}

-- the pages that were added are small still
small : (c : After-turn_falling) → AreSmall c.turn_falling.new.added
small c = All-permutation (λ (l : Listed). l.page < 2 ^ 48) _ _ c.turn_falling.ensures c.requires.small.1

pub returns-in-Some : goal.returns-in-Some
returns-in-Some c =
    let listed = c.args.listed.now.items in
    let added = c.turn_falling.new.added in
    let at = c.in-Some.at in
    let is : c.extend_from_slice-in-Some.new.self.items ≡ take at listed ++ (added ++ drop at listed) =
    grind (arith, c.in_ok-extend_from_slice-2.ensures.items, c.in_ok-extend_from_slice.ensures.items, c.in_ok-behind.ensures.items, c.in_ok-behind.ensures.tail, c.as_slice-in-Some.ensures.value, append_assoc) in
    put_shuffled c.turn_falling.ensures (subst (IsPutAmong listed added) (sym is)
    (put_between listed added at c.requires.small.0 (small (goal.at.returns-in-Some c).After-turn_falling) (rw c.as_slice.ensures.value at c.in-Some.ensures)))

pub returns : goal.returns
returns c =
    put_shuffled c.turn_falling.ensures
    (put_sorted c.requires.small.0 (small (goal.at.returns c).After-turn_falling)
    (rw (← c.in_ok-extend_from_slice-3.ensures.items) c.in_ok-sort.ensures.same) c.in_ok-sort.ensures.order)
