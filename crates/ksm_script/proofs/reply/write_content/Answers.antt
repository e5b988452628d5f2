use Rattle.ksm_script.proofs.Names.{Appends, AppendsPart, codes, subst}
use Rattle.ksm_script.proofs.Hex.{flat_digits}
use Rattle.ksm_script.proofs.Parts.{part_longer, text_after, text_broken}
use Rattle.ksm_script.proofs.reply.write_content.Goals as goal

pub returns-in_err-write_text : goal.returns-in_err-write_text
returns-in_err-write_text g c =
    let told = c.in_err-write_text.ensures.1 in
    text_broken g.W.Write.contents g.S.Sends.fails c.from_residual.result _ _ _ _ c.from_residual.ensures.1
    (told.0, told.1, part_longer _ _ _ (codes "\n") (subst (AppendsPart _ _) (flat_digits _ c.as_flattened.ensures.value c.digits_of_words.ensures) told.2))

pub returns : goal.returns
returns g c =
    text_after g.W.Write.contents g.S.Sends.fails c.write_text-2.result _ _ _ _ (codes "\n") (subst (Appends _ _) (flat_digits _ c.as_flattened.ensures.value c.digits_of_words.ensures) c.in_ok-write_text.ensures.0) c.write_text-2.ensures
