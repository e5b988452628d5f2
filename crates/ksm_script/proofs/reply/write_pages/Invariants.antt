use Rattle.ksm_script.proofs.Names.{Appends, flat_map, mapper_text, take}
use Rattle.ksm_script.proofs.reply.write_pages.Given as goal

abbrev pub invariant-loop-page : goal.invariant-loop-page
invariant-loop-page g l = Appends (g.W.Write.contents l.fn.writer) (g.W.Write.contents l.writer) (flat_map mapper_text (take l.page-index l.pages))
