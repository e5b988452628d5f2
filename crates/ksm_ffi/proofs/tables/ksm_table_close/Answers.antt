use Rattle.std.proofs.Common.{rules}
use Rattle.ksm_ffi.proofs.tables.ksm_table_close.Goals as goal
use Rattle.ksm_ffi.proofs.tables.ksm_table_close.Goals.{then-eq, else-eq}

pub returns : goal.returns
returns c = elim c.if-eq.branch [
  | then-eq w ↦ search rules
  | else-eq w ↦ search rules
]
