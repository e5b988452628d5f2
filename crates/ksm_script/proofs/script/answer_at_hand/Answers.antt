use Rattle.ksm_script.proofs.Turns.{said_once}
use Rattle.ksm_script.proofs.script.answer_at_hand.Goals as goal

pub returns-in-Some : goal.returns-in-Some
returns-in-Some g c =
    rw c.and.ensures (said_once g.M.Lane.remaining g.M.Lane.takes g.W.Write.contents g.M.Sends.fails _ _ _ _ c.args.session.now c.answer_short-told.new.self _ c.in-Some.ensures.taken c.answer_short-told.result c.answer_short-told.ensures.answers)
