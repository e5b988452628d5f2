use Rattle.ksm_book.proofs.Names.{ap, arith, with_value, ◌∙◌}
use Rattle.ksm_book.proofs.Singles.{tuned}
use Rattle.ksm_book.proofs.state.State.set.Goals as goal

pub invariant_of-self : goal.invariant_of-self
invariant_of-self c =
    let knobs = c.with.ensures ∙ ap (with_value c.args.knob c.args.value) c.knobs-knobs.ensures in
    tuned c.args.knob c.args.value c.self.invariant (rw knobs at c.set_knobs.ensures) (grind arith) c.requires.free
