use Rattle.ksm_script.proofs.WorkedLines.{lookup_lines}
use Rattle.ksm_script.proofs.worked.lookup_lines.Goals as goal

pub returns : goal.returns
returns c = lookup_lines
