-- Why moments are unsafe: in each the steps are known by what the seats have seen of them, and one clause is false of these.
use Rattle.std.proofs.Common.{◌≡◌, ℕ, zero, suc, List, [], ◌∷◌, ◌++◌, length, slice_get, Option, Some, ap, sym, subst, ◌∙◌, refl, arith}
use mathlib.Core.Option.{some, some-injective, some-ne-none}
use lib.ListN.{get_elem?}
use Rattle.frame_core.specs.declared.event.Event.{Event}
use Rattle.frame_table.specs.declared.view.View.{View}
use Rattle.frame_table.specs.Running.{RunsSafely}
use Rattle.frame_core.specs.declared.seat.Phase.{Phase}
use Rattle.frame_core.specs.declared.seat.Phase.TheVariants.{Idle}
use Rattle.frame_core.specs.Trace.{run_of}
use Rattle.frame_table.specs.declared.view.View.TheVariants.{Spent}
use Rattle.frame_table.specs.Moments.{one, keeper, placed, given_back}
use Rattle.frame_table.specs.Truth.{Moment}
use Rattle.frame_table.specs.Views.{order_of}

-- the steps are none, where the two seats that there are have seen none
pub none_done : (t : Moment) (v w : View) (safe : RunsSafely one t) → t.views ≡ v ∷ w ∷ [] → order_of v ≡ [] → order_of w ≡ [] → safe.events ≡ []
none_done t v w safe is first second =
    seen safe.longest.0 safe.longest.1 (subst (λ (l : List View). get_elem? l safe.longest.0 ≡ some safe.longest.1) is safe.longest.2) safe.longest.3 where
      seen : (j : ℕ) (x : View) → get_elem? (v ∷ w ∷ []) j ≡ some x → order_of x ≡ safe.events → safe.events ≡ []
      seen zero x at all = sym all ∙ (sym (ap order_of (some-injective v x at)) ∙ first)
      seen (suc zero) x at all = sym all ∙ (sym (ap order_of (some-injective w x at)) ∙ second)
      seen (suc (suc j)) x at all = absurd (some-ne-none x (sym at))

-- the steps are all that the keeper has seen, where the pass was given back
all_placed : (safe : RunsSafely one given_back) → safe.events ≡ placed
all_placed safe = seen safe.longest.0 safe.longest.1 safe.longest.2 safe.longest.3 where
  first : View
  first = keeper placed placed [] Idle []

  seen : (j : ℕ) (x : View) → get_elem? given_back.views j ≡ some x → order_of x ≡ safe.events → safe.events ≡ placed
  seen zero x at all = sym all ∙ sym (ap order_of (some-injective first x at))
  seen (suc zero) x at all =
      let none : safe.events ≡ [] = sym all ∙ sym (ap order_of (some-injective Spent x at)) in
      let begun = (safe.orders 0 first refl).0 in
      let n : 0 ≡ length (placed ++ begun.0) = ap length (sym none ∙ begun.1) in absurd (omega (arith, n))
  seen (suc (suc j)) x at all = absurd (some-ne-none x (sym at))

-- the seat is idle
abbrev is_idle : Option Phase → ℕ
is_idle (Some Idle) = 1
is_idle _ = 0

-- a pass that is given back while its lookup goes on is not idle in the core
pub not_idle : RunsSafely one given_back → ⊥
not_idle safe =
    let there = safe.given_back 0 refl in
    let idle : slice_get (run_of one placed).state.seats 0 ≡ Some Idle = subst (λ (l : List Event). slice_get (run_of one l).state.seats 0 ≡ Some Idle) (all_placed safe) there in
    let n : 0 ≡ 1 = ap is_idle idle in omega (arith, n)
