use Rattle.ksm_shared.proofs.Showing.{looks}
use Rattle.ksm_shared.proofs.reader.enter.Goals as goal

pub enter_as-requires : goal.enter_as-requires
enter_as-requires g c = looks _ _ _
