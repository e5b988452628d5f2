use Rattle.ksm_script.proofs.Names.{arith, EndsIdle, InBoth, zip_from}
use Rattle.ksm_script.proofs.passes.give_back_all.Goals as goal

pub returns-clause-given : goal.returns-clause-given
returns-clause-given c =
    zip_from (λ o. InBoth EndsIdle o) c.args.slots.now.items c.loop-k.slots.items (omega (arith, c.loop-k.invariant.len, c.loop-k.slots.ok.0, c.args.slots.now.ok.0))
    (λ k d lt. c.loop-k.invariant.given k d (omega (arith, lt, c.loop-k-test.false, c.len-k-end.ensures, c.args.slots.now.ok.0)))
