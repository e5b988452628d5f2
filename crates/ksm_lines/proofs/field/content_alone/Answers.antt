use Rattle.ksm_lines.proofs.Names.{is_ascii_hexdigit, refl, rules, Some, ◌≡◌}
use Rattle.ksm_lines.proofs.Names.parts
use Rattle.ksm_lines.proofs.Words.{gives_last}
use Rattle.ksm_lines.proofs.field.content_alone.Goals as goal

pub returns : goal.returns
returns c =
    let is : c.args.left ≡ Some c.in_ok-ok_or.field-0 = search rules in
    gives_last parts.Content is_ascii_hexdigit c.content_in.result _ _ is refl (λ word e. rw e refl) c.content_in.ensures
