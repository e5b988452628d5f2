use Rattle.ksm_base.proofs.laws.each_answer_has_its_reason.Goals as goal
use Rattle.ksm_base.proofs.Reasons.{has_reason, may_answer}

pub returns : goal.returns
returns c = λ b command answer. (has_reason b command answer, may_answer b)
