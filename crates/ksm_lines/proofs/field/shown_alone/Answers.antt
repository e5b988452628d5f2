use Rattle.ksm_lines.proofs.Names.{refl, rules, Some, ◌≡◌}
use Rattle.ksm_lines.proofs.Names.parts
use Rattle.ksm_lines.proofs.Lines.{above_space, not_shown}
use Rattle.ksm_lines.proofs.Words.{gives_last}
use Rattle.ksm_lines.proofs.field.shown_alone.Goals as goal

pub returns : goal.returns
returns c =
    let is : c.args.left ≡ Some c.in_ok-ok_or.field-0 = search rules in
    gives_last parts.Shown above_space c.shown_named.result _ _ is refl not_shown c.shown_named.ensures
