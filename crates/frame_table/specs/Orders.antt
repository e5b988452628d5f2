-- The order of the steps of all seats, as each seat knows it (own).
use Rattle.std.specs.Prelude.{◌≡◌, ℕ, nat_le, cond, List, [], ◌∷◌, ◌++◌, length, Some}
use Rattle.frame_table.specs.Terms.{Shape, Event}
use Rattle.frame_core.specs.State.{State}
use Rattle.frame_core.specs.Steps.{step}
use Rattle.frame_core.specs.Trace.{run_of}

-- the second list goes on from the first
abbrev pub Begins : {A : Type 0} → List A → List A → Type 0
Begins {A} xs ys = (rest : List A) × (ys ≡ xs ++ rest)

-- the longer of two orders
abbrev pub later : List Event → List Event → List Event
later xs ys = cond (nat_le (length ys) (length xs)) xs ys

-- a step of the present: it comes after all that its seat had seen and whatever else was done since, and found what the core's step finds there
pub record IsPresent (sh : Shape) (before after : List Event) (e : Event) (found : ℕ) : Type 0 where
  pub since : List Event
  pub order : after ≡ (before ++ since) ++ e ∷ []
  pub next : State
  pub finds : step sh (run_of sh (before ++ since)).state e ≡ Some (found, next)
