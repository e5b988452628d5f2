use Rattle.ksm_lines.proofs.Names.{List, OfKnob, Shown, shown_name, ZeroPages, ℕ, ◌++◌, ◌≢◌}
use Rattle.ksm_lines.proofs.knob.shown_at.Goals as goal

pub returns-in_err-left-clause-none : goal.returns-in_err-left-clause-none
returns-in_err-left-clause-none c = rw c.from_residual.ensures none
  where
    none : (shown : Shown) (left : List ℕ) → c.args.text.now ≢ shown_name shown ++ left
    none (OfKnob knob) left = c.in_default.ensures.none knob left
    none ZeroPages left = c.in_err-left.ensures.none left
