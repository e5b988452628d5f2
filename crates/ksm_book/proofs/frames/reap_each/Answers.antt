use Rattle.ksm_book.proofs.Names.{arith, refl}
use Rattle.ksm_book.proofs.Made.{made_none, made_one, made_then, next_dies, none_dies, other_if}
use Rattle.ksm_book.proofs.frames.reap_each.Goals as goal

pub dying-preserved : goal.dying-preserved
dying-preserved c =
    let so_far = c.dying.invariant in
    let first = c.in-Some.ensures in
    let next = next_dies c.args.keeper.now.ledger _ _ _ first.low_is first.high_is
    (λ f ge lt. rw (← so_far.later f ge) (first.least f ge lt)) (rw (← so_far.later _ first.low_is) first.there) in
    record {
      own = grind arith;
      high = omega (arith, first.high_is);
      made = λ w m. so_far.made w (rw next (made_then (made_one _ _ _ _ c.reap.ensures.1) m));
      later = grind (arith, other_if);
    }

pub returns : goal.returns
returns c =
    let so_far = c.dying.invariant in
    let none = none_dies c.args.keeper.now.ledger _ _ so_far.high
    (λ f ge lt. rw (← so_far.later f ge) (c.in_default.ensures f ge lt)) in
    so_far.made _ (rw none (made_none refl))
