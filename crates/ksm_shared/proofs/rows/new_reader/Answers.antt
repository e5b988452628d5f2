use Rattle.ksm_shared.proofs.Showing.{admits}
use Rattle.ksm_shared.proofs.rows.new_reader.Goals as goal

pub reader-requires : goal.reader-requires
reader-requires g c = admits _
