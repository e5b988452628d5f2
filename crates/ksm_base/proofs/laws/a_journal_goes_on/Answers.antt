use Rattle.ksm_base.proofs.laws.a_journal_goes_on.Goals as goal
use Rattle.ksm_base.proofs.Replays.{replay-append, answers_first, answers_later, answers_both}

pub returns-clause-state : goal.returns-clause-state
returns-clause-state c = replay-append

pub returns-clause-answers : goal.returns-clause-answers
returns-clause-answers c = λ b first later.
    (λ h. (answers_first b first later h, answers_later b first later h), λ h. answers_both b first later h.0 h.1)
