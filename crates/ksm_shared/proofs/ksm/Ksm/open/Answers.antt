use Rattle.std.proofs.Common.{subst}
use Rattle.ksm_shared.specs.Seen.{CallersFit}
use Rattle.ksm_shared.proofs.Empty.{nothing_owned}
use Rattle.ksm_shared.proofs.ksm.Ksm.open.Goals as goal

pub returns-clause-empty : goal.returns-clause-empty
returns-clause-empty g c log owners fits =
    let callers = g.N.Naming.parts.callers in
    nothing_owned callers log owners (subst (λ cs. CallersFit log callers cs) c.in-Ok.ensures.shares fits)
