use Rattle.ksm_lines.specs.Reading.{left_length}
use Rattle.ksm_causes.proofs.line.+are_spaces.Given as goal

abbrev pub decreases-are_spaces : goal.decreases-are_spaces
decreases-are_spaces l = left_length l.left
