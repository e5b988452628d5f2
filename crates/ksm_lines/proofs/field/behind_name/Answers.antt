use Rattle.ksm_lines.proofs.Names.{ap, sym, to_le_bytes, w32, ◌∙◌}
use Rattle.ksm_lines.proofs.field.behind_name.Goals as goal

pub loop-i-init : goal.loop-i-init
loop-i-init g c = sym c.first_four.ensures ∙ ap (to_le_bytes w32) c.if-first_four.false ∙ c.first_four-else-text.ensures
