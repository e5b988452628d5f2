use Rattle.ksm_script.proofs.Names.{refl, stopped_text, ◌≡◌}
use Rattle.ksm_script.proofs.Parts.{text_is}
use Rattle.ksm_script.proofs.reply.write_stopped.Goals as goal

pub returns : goal.returns
returns g c =
    let text : c.as_slice.result.now ≡ stopped_text c.args.name.now c.args.count c.args.stop =
    rw (c.in-Some.is, c.as_slice.ensures, c.put_bytes.ensures, c.put_number.ensures.text, c.put_named.ensures.text, c.put_name.ensures, c.new-text.ensures, c.from.ensures, c.number.ensures) refl in
    text_is g.W.Write.contents g.S.Sends.fails c.write_text.result _ _ _ _ text c.write_text.ensures
