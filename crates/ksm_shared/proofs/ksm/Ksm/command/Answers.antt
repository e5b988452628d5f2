use Rattle.ksm_shared.proofs.Extended.{steps_alone}
use Rattle.ksm_shared.proofs.ksm.Ksm.command.Goals as goal

pub returns-clause-alone : goal.returns-clause-alone
returns-clause-alone g c =
    let law = c.a_journal_goes_on.ensures in
    steps_alone law.state (λ b earlier later. (law.answers b earlier later).0) _ _ _ _ _ c.command-answer.ensures.seen
