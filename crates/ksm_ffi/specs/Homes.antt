-- The passes of a table that are not out: what lending one says, and taking one back (own).
use Rattle.std.specs.Prelude.{◌≡◌, ◌≢◌, ◌<◌, ◌≤◌, ℕ, ◌⊎◌, List, [], ◌∷◌, ◌++◌, length, map, replicate, Result, Ok, Err}
use Rattle.frame_table.specs.Named.{PassView, TableName}
use Rattle.frame_table.specs.Seats.{new_pass}
use Rattle.ksm_ffi.specs.declared.answer.Answer.{Answer}
use Rattle.ksm_ffi.specs.declared.answer.Answer.TheVariants as answer
use Rattle.ksm_ffi.specs.declared.reader.Phase.{Phase}
use Rattle.ksm_ffi.specs.declared.reader.Phase.TheVariants.{Idle}
use Rattle.ksm_ffi.specs.Passes.{IsIdle}

-- the number of the table, how many passes it has, and those of them that are not out, of which the last is lent next
pub record HomeView : Type 0 where
  pub number : ℕ
  pub count : ℕ
  pub back : List Phase

-- the passes that are not out: those that never were, and those that came back
abbrev pub waiting : List PassView → List Phase → List Phase
waiting passes returned = map (λ p. Idle p) passes ++ returned

-- no pass of the table is out, and none has made a step
abbrev pub all_back : TableName → ℕ → HomeView
all_back t number = record {
  number = number;
  count = t.shape.passes;
  back = replicate t.shape.passes (Idle (new_pass t));
}

-- this pass is back too
abbrev pub one_back : HomeView → Phase → HomeView
one_back h v = record h { back = h.back ++ v ∷ [] }

-- nothing is lent: all passes are out, or there is no memory
abbrev pub LendsNone : HomeView → Answer → HomeView → Type 0
LendsNone h a after =
    (after ≡ h) × (((a ≡ answer.NoPass) × (h.back ≡ [])) ⊎ ((a ≡ answer.Memory) × (0 < length h.back)))

-- the last of the passes that are not out, which holds nothing; refused where all are out, and else for memory alone
abbrev pub Lends : HomeView → Result Phase Answer → HomeView → Type 0
Lends h (Ok v) after = IsIdle v × (h ≡ one_back after v)
Lends h (Err a) after = LendsNone h a after

-- whether a pass with a table's number may come back, and if not, why
abbrev pub Judged : HomeView → Phase → ℕ → Answer → Type 0
Judged h v number answer.Done = (number ≡ h.number) × (length h.back < h.count) × IsIdle v
Judged h v number answer.Holding = (number ≡ h.number) × (length h.back < h.count) × ¬ IsIdle v
Judged h v number answer.Other = (number ≢ h.number) ⊎ (h.count ≤ length h.back)
Judged h v number a = ⊥

-- whether the passes are those of the table with this number, and none is out
abbrev pub JudgesWhole : HomeView → ℕ → Answer → Type 0
JudgesWhole h number answer.Done = (number ≡ h.number) × (length h.back ≡ h.count)
JudgesWhole h number answer.PassesOut = (number ≡ h.number) × (length h.back ≢ h.count)
JudgesWhole h number answer.Other = number ≢ h.number
JudgesWhole h number a = ⊥
