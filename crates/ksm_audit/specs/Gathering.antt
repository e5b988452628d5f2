-- What the workers found, put together (own).
use Rattle.std.specs.Prelude.{◌≡◌, ℕ, ◌⊎◌, ◌+◌, ◌≤◌, List, [], ◌∷◌, ◌++◌, All, IsSome, Some, option_to_list, slice_get}
use Rattle.atomic_table.specs.Seated.{TableId}
use Rattle.frame_table.specs.Named.{PassView}
use Rattle.ksm_audit.specs.declared.report.Row.{Row}
use Rattle.ksm_audit.specs.declared.job.Line.{Line}
use Rattle.ksm_audit.specs.declared.job.Job.{Job}
use Rattle.ksm_audit.specs.Claims.{times}
use Rattle.ksm_audit.specs.Working.{line, places_of}

-- the passes of the workers, that of the last worker first
abbrev pub loaded : List Job → List PassView
loaded [] = []
loaded (j ∷ js) = loaded js ++ option_to_list j.pass

-- how often the workers drew a number
abbrev pub drawn_total : ℕ → List Job → ℕ
drawn_total x [] = 0
drawn_total x (j ∷ js) = times x j.seat.me.0.drawn + drawn_total x js

-- how often the workers looked a place up
abbrev pub lines_total : ℕ → List Job → ℕ
lines_total x [] = 0
lines_total x (j ∷ js) = times x (places_of j.lines.items) + lines_total x js

-- a lookup of the place ended with the row
abbrev pub InLines : ℕ → Row → List Line → Type 0
InLines p row [] = ⊥
InLines p row (l ∷ ls) = (l ≡ line p row) ⊎ InLines p row ls

abbrev pub InJobs : ℕ → Row → List Job → Type 0
InJobs p row [] = ⊥
InJobs p row (j ∷ js) = InLines p row j.lines.items ⊎ InJobs p row js

-- no lookup is of a place from here on
abbrev pub AreInside : ℕ → List Line → Type 0
AreInside count lines = (x : ℕ) → count ≤ x → times x (places_of lines) ≡ 0

-- each row is that of a lookup of its place, or as it was, and then there was none
abbrev pub Fills : List Line → List Row → List Row → Type 0
Fills lines before after = (p : ℕ) (row : Row) → slice_get after p ≡ Some row → InLines p row lines
    ⊎ ((times p (places_of lines) ≡ 0) × (slice_get before p ≡ Some row))

-- the worker's seat can be taken back, and so can its pass
pub record IsThrough (claims : TableId) (j : Job) : Type 0 where
  pub seat : j.seat.table_id ≡ claims
  pub held : j.seat.me.1 ≡ []
  pub parts : j.seat.me.0.parts ≡ 1
  pub vain : j.seat.me.0.past ≤ 1
  pub pass : IsSome j.pass

-- nobody drew a number from here on
abbrev pub AllBelow : ℕ → List Job → Type 0
AllBelow found jobs = All (λ (j : Job). j.seat.me.0.next ≤ found) jobs
