use Rattle.ksm_script.proofs.Names.{Appends, flat_map, row_text, take}
use Rattle.ksm_script.proofs.reply.write_rows.Given as goal

abbrev pub invariant-loop-row : goal.invariant-loop-row
invariant-loop-row g l = Appends (g.W.Write.contents l.fn.writer) (g.W.Write.contents l.writer) (flat_map row_text (take l.row-index l.rows))
