-- The shares that come back (own).
use Rattle.std.specs.Prelude.{List}
use Rattle.ksm_shared.specs.declared.seen.Caller.{Caller}
use Rattle.ksm_shared.specs.declared.tally.GatherFault.{GatherFault}
use Rattle.ksm_shared.specs.declared.tally.GatherFault.TheVariants.{Missing}

abbrev pub missing_of : {N : Type 0} → GatherFault N → List Caller
missing_of (Missing shares) = shares.items
