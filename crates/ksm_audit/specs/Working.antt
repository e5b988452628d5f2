-- What a worker has done (own).
use Rattle.std.specs.Global.{Vec}
use Rattle.std.specs.Prelude.{◌≡◌, ℕ, ◌⊎◌, ◌<◌, ◌≤◌, List, [], ◌∷◌, ◌++◌, length, map, Option, Some, None, vec_capacity}
use Rattle.atomic_table.specs.Table.{Me}
use Rattle.atomic_table.specs.Seated.{TableId}
use Rattle.ksm_base.specs.declared.shape.Shape.{Shape}
use Rattle.ksm_base.specs.Values.{frames_of}
use Rattle.frame_table.specs.Named.{TableName, PassView}
use Rattle.frame_table.specs.Lookup.{ReaderLog, Adds}
use Rattle.ksm_audit.specs.declared.claims.Deal.{Deal}
use Rattle.ksm_audit.specs.declared.claims.Hand.{Hand}
use Rattle.ksm_audit.specs.declared.report.Row.{Row}
use Rattle.ksm_audit.specs.declared.job.Line.{Line}
use Rattle.ksm_audit.specs.declared.job.Job.{Job}
use Rattle.ksm_audit.specs.Claims.{worker_hand, drew, times}
use Rattle.ksm_audit.specs.Lookups.{IsLookup, Visits}

abbrev pub Sat : Type 0
Sat = Me (Unit {0}) Hand

abbrev pub MayDraw : Sat → Type 0
MayDraw m = m.0.past < m.0.parts

-- one number more was drawn, which is not below those drawn before
abbrev pub Drew : Sat → ℕ → Sat → Type 0
Drew m found w = (w ≡ (drew m.0 found, m.1)) × (m.0.next ≤ found)

-- a place was claimed, or the number drawn is none
abbrev pub Claimed : ℕ → Sat → Option ℕ → Sat → Type 0
Claimed places m (Some place) w = (place < places) × Drew m place w
Claimed places m None w = (found : ℕ) × (places ≤ found) × Drew m found w

abbrev pub line : ℕ → Row → Line
line place row = record { place = place; row = row }

abbrev pub places_of : List Line → List ℕ
places_of lines = map (λ (l : Line). l.place) lines

-- whole lookups, one after another: of each line its place and its row
abbrev pub AreLookups : Shape → List Line → ReaderLog → Type 0
AreLookups sh [] log = log ≡ []
AreLookups sh (l ∷ ls) log =
    (here rest : ReaderLog) × (log ≡ here ++ rest) × IsLookup sh l.place l.row here × AreLookups sh ls rest

-- the pass made these lookups
abbrev pub MakesLookups : PassView → List Line → PassView → Type 0
MakesLookups v lines w = (w.table ≡ v.table) × Adds v.log w.log (AreLookups v.table.shape lines)

-- the gate had refused, or refuses this place, and nothing was done; or the place was looked up
abbrev pub Answers : (ℕ → Type 0) → ℕ → PassView → List Line → Option ℕ → PassView → List Line → Option ℕ → Type 0
Answers may place v lines refused w lines' refused' =
    ((refused' ≡ refused) × (w ≡ v) × (lines' ≡ lines) × ((at : ℕ) × (refused ≡ Some at)))
    ⊎ (((refused' ≡ Some place) × (w ≡ v) × (lines' ≡ lines) × may place)
    ⊎ ((refused ≡ None) × (refused' ≡ None)
    × ((row : Row) × (lines' ≡ lines ++ line place row ∷ []) × Visits v place row w)))

-- What a worker has drawn, the places that it looked up, and whether the gate has refused: it looked up what it drew,
-- or a part of that once the gate has refused
pub record Keeps (count : ℕ) (places : List ℕ) (refused : Option ℕ) (m : Sat) : Type 0 where
  pub held : m.1 ≡ []
  pub parts : m.0.parts ≡ 1
  pub room : length places ≤ m.0.next
  pub inside : (x : ℕ) → count ≤ x → times x places ≡ 0
  pub most : (x : ℕ) → times x places ≤ times x m.0.drawn
  pub all : refused ≡ None → (x : ℕ) → x < count → times x places ≡ times x m.0.drawn

-- a place at which the gate refused is one that it may refuse
abbrev pub MayStop : (ℕ → Type 0) → ℕ → Option ℕ → Type 0
MayStop may count refused = (at : ℕ) → refused ≡ Some at → (at < count) × may at

-- the worker has a pass, has drawn nothing, and has room for every place
pub record IsReady (claims : TableId) (deal : Deal) (table : TableName) (j : Job) : Type 0 where
  pub pass : (v : PassView) × (j.pass ≡ Some v) × (v.table ≡ table)
  pub seat : j.seat.table_id ≡ claims
  pub fresh : j.seat.me ≡ (worker_hand deal, [])
  pub lines : j.lines.items ≡ []
  pub room : frames_of table.shape ≤ vec_capacity j.lines
  pub refused : j.refused ≡ None

-- the worker is through: its pass made the lookups of its lines, and its last draw found no place
pub record Works (claims : TableId) (table : TableName) (may : ℕ → Type 0) (i j : Job) : Type 0 where
  pub seat : j.seat.table_id ≡ claims
  pub keeps : Keeps (frames_of table.shape) (places_of j.lines.items) j.refused j.seat.me
  pub last : frames_of table.shape < j.seat.me.0.next
  pub vain : j.seat.me.0.past ≤ 1
  pub stop : MayStop may (frames_of table.shape) j.refused
  pub made : (v w : PassView) × (i.pass ≡ Some v) × (j.pass ≡ Some w) × MakesLookups v j.lines.items w

-- a list of lines that is empty and has room for so many
abbrev pub IsEmpty : ℕ → Vec Line → Type 0
IsEmpty places lines = (lines.items ≡ []) × (places ≤ vec_capacity lines)
