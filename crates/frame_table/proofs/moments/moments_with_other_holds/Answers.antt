use Rattle.std.proofs.Common.{◌≡◌, ℕ, List, [], Option, Some, None, refl, ap, sym, ◌∙◌}
use Rattle.frame_core.specs.Seat.{aim_at, nothing_known}
use Rattle.frame_core.specs.Trace.{run_of, place_loaded}
use Rattle.frame_table.specs.Terms.{Event, PLACE_SPAN}
use Rattle.frame_table.specs.Moments.{one, first_keeper, holder}
use Rattle.frame_table.proofs.Unsafe.{none_done}
use Rattle.frame_table.proofs.moments.moments_with_other_holds.Goals as goal

pub returns-clause-held : goal.returns-clause-held
returns-clause-held c = λ safe.
    let none = none_done _ first_keeper holder safe refl refl refl in
    let is = (safe.holds 0 (aim_at 0 0 1) nothing_known [] [] refl).0.named in
    let loaded : ◌≡◌ {A = Option (ℕ × ℕ)} None (Some (0, PLACE_SPAN)) = ap (λ (l : List Event). place_loaded 0 (run_of one l).trace) (sym none) ∙ is in cc (loaded)
