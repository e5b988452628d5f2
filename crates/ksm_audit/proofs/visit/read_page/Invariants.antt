use Rattle.ksm_audit.proofs.Reading.{HasRead}
use Rattle.ksm_audit.proofs.visit.read_page.Given as goal

abbrev pub invariant-loop-i : goal.invariant-loop-i
invariant-loop-i l = HasRead l.fn.held l.i l.bytes l.held
