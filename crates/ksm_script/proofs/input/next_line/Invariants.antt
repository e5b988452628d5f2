use Rattle.ksm_script.proofs.Names.{IsPlain, IsWithin, Keeps, length, ◌≤◌}
use Rattle.ksm_script.proofs.Pieces.{IsTalked}
use Rattle.ksm_script.proofs.input.next_line.Given as goal

abbrev pub invariant-turns : goal.invariant-turns
invariant-turns g l =
    IsPlain l.line × (length l.line ≤ 256)
    × IsTalked g.M.Lane.remaining g.M.Lane.takes g.M.Lane.waits (IsWithin g.M.Sends.is_sent g.W.Write.contents l.fn.writer) l.fn.reader l.reader l.line
    × (l.turn ≤ length l.line) × Keeps (g.W.Write.contents l.fn.writer) (g.W.Write.contents l.writer)
