use Rattle.ksm_script.proofs.Turns.{IsAt}
use Rattle.ksm_script.proofs.script.run_lines.Given as goal

abbrev pub invariant-lines : goal.invariant-lines
invariant-lines g l =
    IsAt g.M.Lane.remaining g.M.Lane.takes g.M.Lane.waits g.M.Sends.is_sent g.W.Write.contents l.fn.reader (g.W.Write.contents l.fn.writer) l.fn.session.state l.reader l.writer l.session.state l.number
