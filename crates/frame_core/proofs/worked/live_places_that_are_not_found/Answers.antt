use Rattle.std.proofs.Common.{◌≡◌, ◌≢◌, ℕ, Bool, true, false, [], refl}
use Rattle.std.proofs.lemmas.List.Elements.{All-head}
use Rattle.frame_core.proofs.Names.{PLACE_SPAN, Life}
use Rattle.frame_core.proofs.worked.live_places_that_are_not_found.Goals as goal

abbrev Named : ℕ → Life
Named generation = record { frame = 0; generation = generation }

pub returns-clause-empty : goal.returns-clause-empty
returns-clause-empty c = λ h. (h 0 (Named 0) refl (refl, refl)).named refl

pub returns-clause-unreferenced : goal.returns-clause-unreferenced
returns-clause-unreferenced c = λ h. let told : ◌≡◌ {A = Bool} false true = (h 0 (Named 1) refl (refl, refl)).referenced in cc (told)

pub returns-clause-gone : goal.returns-clause-gone
returns-clause-gone c = λ h. All-head (λ w. w ≢ PLACE_SPAN) PLACE_SPAN [] ((h 0 (Named 1) refl (refl, refl)).not_gone 0) refl
