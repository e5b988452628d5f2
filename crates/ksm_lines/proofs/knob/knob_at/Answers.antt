use Rattle.ksm_lines.proofs.Names.{ap, arith, knob_name, stands, sym, ◌++◌, ◌∙◌}
use Rattle.ksm_lines.proofs.knob.knob_at.Goals as goal

pub returns-clause-none : goal.returns-clause-none
returns-clause-none c knob left is =
    let at = stands knob knob in
    c.loop-knob.invariant _ (omega (arith, at.0, c.loop-knob-test.false)) knob left (is ∙ ap (λ k. knob_name k ++ left) (sym at.1))
