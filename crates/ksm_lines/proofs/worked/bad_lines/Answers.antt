use Rattle.ksm_lines.proofs.BadLines.{bad_lines}
use Rattle.ksm_lines.proofs.worked.bad_lines.Goals as goal

pub returns : goal.returns
returns c = bad_lines
