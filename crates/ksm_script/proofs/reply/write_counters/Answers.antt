use Rattle.ksm_script.proofs.Names.{counters_text, ◌≡◌}
use Rattle.ksm_script.proofs.Parts.{text_is}
use Rattle.ksm_script.proofs.reply.write_counters.Goals as goal

pub returns : goal.returns
returns g c =
    let text : c.as_slice.result.now ≡ counters_text c.args.counters.now = cc in
    text_is g.W.Write.contents g.S.Sends.fails c.write_text.result _ _ _ _ text c.write_text.ensures
