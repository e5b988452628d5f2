use Rattle.ksm_script.proofs.WorkedLines.{command_lines}
use Rattle.ksm_script.proofs.worked.command_lines.Goals as goal

pub returns : goal.returns
returns c = command_lines
