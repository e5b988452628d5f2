use Rattle.ksm_host.proofs.Names.{writer_contents}
use Rattle.ksm_host.proofs.Sent.{serves_after}
use Rattle.ksm_host.proofs.Talked.{has_talked}
use Rattle.ksm_host.proofs.answering.served.Goals as goal

pub returns-clause-serves : goal.returns-clause-serves
returns-clause-serves g c = rw (c.after.ensures, c.into_parts-output.ensures.inner) (serves_after _ _ _ _ _ c.sent-are_sent.ensures.kept _ _ c.run_heard-ended.ensures.ran c.sent-are_sent.ensures.sent)

pub returns-clause-talks : goal.returns-clause-talks
returns-clause-talks g c =
    rw c.after.ensures (has_talked g.M.Lane.takes g.M.Lane.waits g.M.Sends.fails g.M.Sends.is_sent (writer_contents g.O.Write.contents) _ _ _ c.args.writer c.run_heard-ended.new.writer c.sent-are_sent.new.writer
    c.run_heard-ended.result c.sent-are_sent.result c.run_heard-ended.ensures.talks c.sent-are_sent.ensures.failed)
