use Rattle.ksm_script.proofs.Turns.{said_once}
use Rattle.ksm_script.proofs.script.answer_rare.Goals as goal

pub returns : goal.returns
returns g c =
    rw c.and.ensures (said_once g.M.Lane.remaining g.M.Lane.takes g.W.Write.contents g.M.Sends.fails _ _ _ _ c.args.session.now c.answer_rare-told.new.self _ c.in-Some.ensures.taken c.answer_rare-told.result c.answer_rare-told.ensures.answers)
