use Rattle.ksm_lines.proofs.Names.{ap₂, arith, IsReadTo, refl, rules, subst, sym, ℕ, ◌*◌, ◌+◌, ◌-◌, ◌≡◌}
use Rattle.ksm_lines.proofs.Numbers.{read_more}
use Rattle.ksm_lines.proofs.Parted.{number_in_front}
use Rattle.ksm_lines.proofs.leading.number_to.Goals as goal

pub loop-at-init : goal.loop-at-init
loop-at-init c =
    let text = c.args.text.now in
    let digit = c.if-not-is_ascii_digit.ensures in
    let is = ap₂ (λ a b. a - b) c.from.ensures c.from-2.ensures in
    let value = c.from.result - c.from-2.result in
    let only : 0 * 10 + value ≡ value = omega arith in (
      subst (λ (n : ℕ). IsReadTo 1 text n) only
          (read_more text 0 0 value (search rules) digit.cases.0 digit.cases.1 is (refl, refl, omega arith) (sym digit.value) (omega (arith, is, digit.cases.1))),
      λ zero. (omega (arith, is, zero), omega arith),
    )

pub returns-then-not-is_ascii_digit-2-clause-text : goal.returns-then-not-is_ascii_digit-2-clause-text
returns-then-not-is_ascii_digit-2-clause-text c =
    number_in_front c.args.text.now c.loop-at.at c.loop-at.value c.args.end c.loop-at.invariant.0 c.loop-at-test.true (omega (arith, c.loop-at.auto.at))
    (λ zero. (c.loop-at.invariant.1 zero).1) c.if-byte-end.false

pub loop-at-preserved : goal.loop-at-preserved
loop-at-preserved c =
    let digit = c.if-not-is_ascii_digit-2.ensures in
    let is = ap₂ (λ a b. a - b) c.from-in-loop-at.ensures c.from-in-loop-at-2.ensures in (
      read_more _ _ _ _ c.loop-at-test.true digit.cases.0 digit.cases.1 is c.loop-at.invariant.0 (sym digit.value)
          (omega (arith, c.if-value-gt-MOST_BEFORE_A_DIGIT.false, is, digit.cases.1)),
      λ zero. absurd (c.if-value-eq0.false (c.loop-at.invariant.1 zero).0),
    )
