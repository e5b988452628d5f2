use Rattle.ksm_audit.proofs.Dealing.{draws}
use Rattle.ksm_audit.proofs.work.claim.Goals as goal

pub fetch_add-place-requires : goal.fetch_add-place-requires
fetch_add-place-requires c = (c.requires.own.0, c.requires.own.1, draws _ _ _ _ _ c.requires.may)
