use Rattle.ksm_book.proofs.Names.{Add, MakesSteps, replicate}
use Rattle.ksm_book.proofs.mounting.add_times.Given as goal

abbrev pub invariant-loop-done : goal.invariant-loop-done
invariant-loop-done l = MakesSteps l.fn.keeper l.keeper (replicate l.done (Add l.frame))
