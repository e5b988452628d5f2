-- The numbers of why a lookup found nothing to hold. Own.
use Rattle.std.specs.Prelude.{ℕ}
use Rattle.frame_table.specs.declared.pass.Why.{Why}
use Rattle.frame_table.specs.declared.pass.Why.TheVariants.{Vacant, Zero, Generation}

-- the number by which a reply tells why there was nothing to hold
abbrev pub why_number : Why → ℕ
why_number Vacant = 1
why_number Zero = 2
why_number Generation = 3
