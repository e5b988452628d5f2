use Rattle.std.proofs.Common.{◌≡◌, ℕ, [], refl, subst, arith, inl}
use mathlib.Core.Option.{some-injective}
use Rattle.frame_core.specs.Live.{LiveAt}
use Rattle.frame_table.specs.Terms.{Idle}
use Rattle.frame_table.specs.Views.{ledger_in}
use Rattle.frame_table.specs.declared.view.View.{View}
use Rattle.frame_table.specs.Moments.{first_keeper, naming}
use Rattle.frame_table.proofs.Moment.{lawful}
use Rattle.frame_table.proofs.moments.places_that_are_not_found.Goals as goal

pub returns-clause-found : goal.returns-clause-found
returns-clause-found c = record { named = λ e. omega (arith, e); inside = omega arith; alive = ((λ e. omega (arith, e)), refl) }

pub returns-clause-empty : goal.returns-clause-empty
returns-clause-empty c = λ h. h.named refl

pub returns-clause-outside : goal.returns-clause-outside
returns-clause-outside c = λ h. omega (arith, h.inside)

pub returns-clause-unreferenced : goal.returns-clause-unreferenced
returns-clause-unreferenced c = λ h. h.alive.0 refl

pub returns-clause-another_life : goal.returns-clause-another_life
returns-clause-another_life c = λ h. let life : ◌≡◌ {A = ℕ} 2 1 = h.alive.1 in omega (arith, life)

pub returns-clause-live : goal.returns-clause-live
returns-clause-live c = (
  lawful naming naming [] Idle [] refl refl (([], refl), refl) ((naming, refl), refl) (inl refl),
  (_, _, _, _, refl, (refl, refl)),
  (λ now. subst (λ (v : View). LiveAt (ledger_in (v, [])) 0 → ⊥) (some-injective first_keeper _ now.4) (λ live. live) now.5),
)
