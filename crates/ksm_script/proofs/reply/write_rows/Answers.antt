use Rattle.ksm_script.proofs.Names.{[], refl, row_text}
use Rattle.ksm_audit.specs.declared.report.Row.TheVariants.{Found}
use Rattle.ksm_script.proofs.Parts.{pieces_part, text_broken}
use Rattle.ksm_script.proofs.reply.write_rows.Goals as goal

pub returns-in_err-write_row : goal.returns-in_err-write_row
returns-in_err-write_row g c =
    let told = c.in_err-write_row.ensures.1 in
    text_broken g.W.Write.contents g.S.Sends.fails c.from_residual.result _ _ _ _ c.from_residual.ensures.1
    (told.0, told.1, pieces_part row_text c.args.rows.now c.loop-row.row-index (Found 0 []) _ _ _ _ c.loop-row-test.true refl c.loop-row.invariant told.2)
