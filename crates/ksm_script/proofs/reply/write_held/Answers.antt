use Rattle.ksm_script.proofs.Names.{held_text, refl, ◌≡◌}
use Rattle.ksm_script.proofs.Parts.{text_is}
use Rattle.ksm_script.proofs.reply.write_held.Goals as goal

pub returns : goal.returns
returns g c =
    let text : c.as_slice.result.now ≡ held_text c.args.name.now c.args.frame c.args.generation =
    rw (c.as_slice.ensures, c.put_bytes.ensures, c.put_number.ensures.text, c.put_named.ensures.text, c.put_name.ensures, c.new-text.ensures, c.from.ensures) refl in
    text_is g.W.Write.contents g.S.Sends.fails c.write_text.result _ _ _ _ text c.write_text.ensures
