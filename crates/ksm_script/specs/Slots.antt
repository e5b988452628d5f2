-- Slots from which a pass is taken while something is done with it (own).
use Rattle.std.specs.Prelude.{◌≡◌, ℕ, ◌+◌, List, [], ◌∷◌, All, length, map, Option, Some, None}
use Rattle.frame_table.specs.Named.{TableName, PassView}
use Rattle.ksm_script.specs.declared.pass_state.PassState.{PassState}
use Rattle.ksm_script.specs.declared.pass_state.PassState.TheVariants.{Idle, Holding}
use Rattle.ksm_script.specs.declared.reply.LineReply.{LineReply}
use Rattle.ksm_script.specs.Lookups.{table_of, AtPass}

-- what the slots hold, in order
abbrev pub present : {A : Type 0} → List (Option A) → List A
present [] = []
present (None ∷ slots) = present slots
present (Some x ∷ slots) = x ∷ present slots

-- each slot holds something
abbrev pub AreThere : {A : Type 0} → List (Option A) → Type 0
AreThere slots = slots ≡ map (λ x. Some x) (present slots)

-- the pass of a number did something, all passes are there, and are of the table
pub record ActsAt (table : TableName) (number : ℕ) (Does : PassState → LineReply → PassState → Type 0)
    (slots : List (Option PassState)) (reply : LineReply) (next : List (Option PassState)) : Type 0 where
  pub does : AtPass number Does (present slots) reply (present next)
  pub there : AreThere next
  pub own : All (λ (s : PassState). table_of s ≡ table) (present next)
  pub count : length (present next) ≡ length (present slots)

-- how many slots are empty
abbrev pub gaps : {A : Type 0} → List (Option A) → ℕ
gaps [] = 0
gaps (None ∷ slots) = 1 + gaps slots
gaps (Some x ∷ slots) = gaps slots

-- a pass that holds nothing is taken out
abbrev pub emptied : Option PassState → Option PassState
emptied (Some (Idle v)) = None
emptied (Some (Holding h)) = Some (Holding h)
emptied None = None

-- the empty slots get passes that hold nothing, in order
abbrev pub refilled : List (Option PassState) → List PassView → List (Option PassState)
refilled [] passes = []
refilled (Some state ∷ slots) passes = Some state ∷ refilled slots passes
refilled (None ∷ slots) [] = None ∷ refilled slots []
refilled (None ∷ slots) (v ∷ passes) = Some (Idle v) ∷ refilled slots passes

-- both slots hold something, and R holds of the two
abbrev pub InBoth : {A B : Type 0} → (A → B → Type 0) → Option A → Option B → Type 0
InBoth R (Some x) (Some y) = R x y
InBoth R _ _ = ⊥
