use Rattle.std.proofs.Common.{◌≡◌, ℕ, zero, suc, [], ◌∷◌, refl, ap, sym, arith, inl, inr}
use mathlib.Core.Option.{some-injective, some-ne-none}
use Rattle.frame_table.specs.Terms.{LoadPlace, Idle}
use Rattle.frame_table.specs.declared.view.View.TheVariants.{Spent}
use Rattle.frame_table.specs.Moments.{load, first_keeper, opening_with, pass}
use Rattle.frame_table.specs.Truth.{IsOpen}
use Rattle.frame_table.proofs.Moment.{lawful, live, word_told}
use Rattle.frame_table.proofs.moments.moments_that_are_lawful.Goals as goal

pub returns-clause-opened : goal.returns-clause-opened
returns-clause-opened c = lawful [] [] [] Idle [] refl refl (([], refl), refl) (([], refl), refl) (inl refl)

pub returns-clause-loaded : goal.returns-clause-loaded
returns-clause-loaded c = lawful (load ∷ []) [] (load ∷ []) Idle ((LoadPlace 0, 0) ∷ []) refl refl ((load ∷ [], refl), refl) (([], refl), refl) (inr refl)

open_but_one : IsOpen 1 (opening_with (first_keeper ∷ Spent ∷ []))
open_but_one zero ne is = let n : ◌≡◌ {A = ℕ} 1 0 = ap live (some-injective first_keeper Spent is) in omega (arith, n)
open_but_one (suc zero) ne is = ne refl
open_but_one (suc (suc i)) ne is = some-ne-none Spent (sym is)

pub returns-clause-given_back : goal.returns-clause-given_back
returns-clause-given_back c = (open_but_one, λ all. all 1 (λ e. omega (arith, e)) refl)

pub returns-clause-lies : goal.returns-clause-lies
returns-clause-lies c = λ h.
    let told = (h.orders 1 (pass (load ∷ []) [] (load ∷ []) Idle ((LoadPlace 0, 5) ∷ [])) refl).1 in
    let n : ◌≡◌ {A = ℕ} 5 0 = ap word_told told in omega (arith, n)
