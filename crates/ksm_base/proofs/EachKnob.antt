-- Every knob stands in the table under its number.
use Rattle.std.proofs.Common.{◌≡◌, ◌<◌, length, get_or, arith}
use Rattle.ksm_base.specs.declared.knobs.Knob.{Knob}
use Rattle.ksm_base.specs.Knobs.{traits, all_knobs}

pub stands : (knob d : Knob) → ((traits knob).number < length all_knobs) × (get_or all_knobs (traits knob).number d ≡ knob)
stands knob d = grind arith
