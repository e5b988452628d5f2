use Rattle.std.proofs.Common.{sym, arith}
use Rattle.ksm_lines.proofs.Numbers.{high_more, read_more}
use Rattle.ksm_lines.proofs.field.number_in.Goals as goal

pub returns-then-value-from : goal.returns-then-value-from
returns-then-value-from c =
    let digit = c.if-not-is_ascii_digit.ensures in
    high_more _ _ _ _ c.loop-at-test.true digit.cases.0 digit.cases.1 c.from.ensures c.loop-at.invariant (omega (arith, c.from-in-loop-at.ensures))

pub loop-at-preserved : goal.loop-at-preserved
loop-at-preserved c =
    let digit = c.if-not-is_ascii_digit.ensures in
    read_more _ _ _ _ c.loop-at-test.true digit.cases.0 digit.cases.1 c.from.ensures c.loop-at.invariant (sym digit.value)
    (omega (arith, c.from-in-loop-at.ensures))
