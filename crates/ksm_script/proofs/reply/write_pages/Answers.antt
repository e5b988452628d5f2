use Rattle.ksm_script.proofs.Names.{mapper_text, refl}
use Rattle.ksm_script.proofs.Parts.{pieces_part, text_broken}
use Rattle.ksm_script.proofs.reply.write_pages.Goals as goal

pub returns-in_err-write_mapper : goal.returns-in_err-write_mapper
returns-in_err-write_mapper g c =
    let told = c.in_err-write_mapper.ensures.1 in
    text_broken g.W.Write.contents g.S.Sends.fails c.from_residual.result _ _ _ _ c.from_residual.ensures.1
    (told.0, told.1, pieces_part mapper_text c.args.pages.now c.loop-page.page-index (record { guest = 0; page = 0 }) _ _ _ _ c.loop-page-test.true refl c.loop-page.invariant told.2)
