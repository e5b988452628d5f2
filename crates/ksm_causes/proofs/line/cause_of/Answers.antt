use Rattle.std.proofs.Common.{refl, sym, ap, ◌∙◌}
use Rattle.std.specs.Option.{is_some}
use Rattle.std.proofs.lemmas.Bool.{le-ltb}
use Rattle.ksm_causes.proofs.Exact.{line_good, told_read, told_unread}
use Rattle.ksm_causes.proofs.line.cause_of.Goals as goal

pub returns-in-Ok-clause-cause : goal.returns-in-Ok-clause-cause
returns-in-Ok-clause-cause c = sym (told_read _ _ _ _ (le-ltb _ _ c.if-line-gt-LONGEST_LINE.false) (ap is_some c.in-Ok.ensures.found))

pub returns-in-Ok-clause-bad : goal.returns-in-Ok-clause-bad
returns-in-Ok-clause-bad c = (λ e. (c.if-line-gt-LONGEST_LINE.false, _, c.in-Ok.ensures.written), λ good. refl)

pub returns-in-Err-clause-cause : goal.returns-in-Err-clause-cause
returns-in-Err-clause-cause c = c.words_trouble.ensures ∙ sym (told_unread _ _ _ _ (le-ltb _ _ c.if-line-gt-LONGEST_LINE.false) (ap is_some c.in-Err.ensures.found))

pub returns-in-Err-clause-bad : goal.returns-in-Err-clause-bad
returns-in-Err-clause-bad c = (
  λ e. let line = line_good c.args.line.now (sym c.words_trouble.ensures ∙ e) in (c.if-line-gt-LONGEST_LINE.false, line.0, line.1),
  λ good. absurd (cc (c.in-Err.ensures.read good.1 good.2)),
)
