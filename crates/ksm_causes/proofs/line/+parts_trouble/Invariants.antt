use Rattle.std.proofs.Common.{length}
use Rattle.ksm_causes.proofs.line.+parts_trouble.Given as goal

abbrev pub decreases-parts_trouble : goal.decreases-parts_trouble
decreases-parts_trouble l = length l.parts.now
