use Rattle.ksm_base.proofs.laws.visits_keep_what_is_mergeable.Goals as goal
use Rattle.ksm_base.proofs.Visits.{flags-visits}

pub returns : goal.returns
returns c = flags-visits
