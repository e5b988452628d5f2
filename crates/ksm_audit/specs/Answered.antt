-- What an audit answers (own).
use Rattle.std.specs.Prelude.{◌≡◌, ◌==◌, ℕ, ◌⊎◌, ◌+◌, ◌<◌, ◌≤◌, if◌then◌else◌, List, [], ◌∷◌, ◌++◌, length, slice_get, Some, Result, Ok, Err}
use Rattle.std.specs.Global.{Vec}
use Rattle.std.specs.List.{AllZip}
use Rattle.ksm_base.specs.declared.shape.Shape.{Shape}
use Rattle.ksm_base.specs.Values.{frames_of}
use Rattle.frame_core.specs.declared.event.ReaderStep.{ReaderStep}
use Rattle.frame_core.specs.declared.event.ReaderStep.TheVariants.{LoadPlace}
use Rattle.frame_table.specs.Named.{PassView}
use Rattle.frame_table.specs.Lookup.{ReaderLog}
use Rattle.ksm_audit.specs.declared.report.Row.{Row}
use Rattle.ksm_audit.specs.declared.job.Line.{Line}
use Rattle.ksm_audit.specs.declared.auditing.AuditFault.{AuditFault}
use Rattle.ksm_audit.specs.declared.auditing.AuditFault.TheVariants.{Memory, Gate}
use Rattle.ksm_audit.specs.Claims.{once_below}
use Rattle.ksm_audit.specs.Lookups.{IsLookup}
use Rattle.ksm_audit.specs.Working.{MakesLookups}

-- 1 for a load of this place
abbrev pub is_load : ℕ → ReaderStep → ℕ
is_load p (LoadPlace q) = if q == p then 1 else 0
is_load p _ = 0

-- how often a log loads the place: a lookup does so once
abbrev pub loads : ℕ → ReaderLog → ℕ
loads p [] = 0
loads p (e ∷ log) = is_load p e.0 + loads p log

-- how often the passes have loaded the place
abbrev pub loads_of : ℕ → List PassView → ℕ
loads_of p [] = 0
loads_of p (v ∷ vs) = loads p v.log + loads_of p vs

-- the same pass, whose log is longer by whole lookups alone
abbrev pub Gains : PassView → PassView → Type 0
Gains v w = (lines : List Line) × MakesLookups v lines w

-- what the pass did meanwhile has a whole lookup of the place that ended with this row
abbrev pub Shows : ℕ → Row → PassView → PassView → Type 0
Shows place row v w = (before here after : ReaderLog) × (w.log ≡ v.log ++ (before ++ (here ++ after)))
    × IsLookup v.table.shape place row here

-- R holds of the elements of two lists at some place
abbrev pub SomeZip : {A B : Type 0} → (A → B → Type 0) → List A → List B → Type 0
SomeZip R [] ys = ⊥
SomeZip R (x ∷ xs) [] = ⊥
SomeZip R (x ∷ xs) (y ∷ ys) = R x y ⊎ SomeZip R xs ys

-- The passes come back in their order. Each place was loaded once meanwhile, and no other. There is a row for each
-- place, in order, which a lookup of that place by one of the passes shows
pub record Audited (sh : Shape) (passes : List PassView) (rows : List Row) (back : List PassView) : Type 0 where
  pub gain : AllZip Gains passes back
  pub once : (p : ℕ) → loads_of p back ≡ loads_of p passes + once_below p (frames_of sh)
  pub width : length rows ≡ frames_of sh
  pub shown : (p : ℕ) (row : Row) → slice_get rows p ≡ Some row → SomeZip (Shows p row) passes back

-- The passes come back in their order, none of them holding. Each place was loaded at most once meanwhile, and no other
pub record Stopped (sh : Shape) (passes back : List PassView) : Type 0 where
  pub gain : AllZip Gains passes back
  pub most : (p : ℕ) → loads_of p back ≤ loads_of p passes + once_below p (frames_of sh)

-- the passes that come back
abbrev pub passes_of : Result (List Row × Vec PassView) AuditFault → Vec PassView
passes_of (Ok answer) = answer.1
passes_of (Err (Memory back)) = back
passes_of (Err (Gate back place)) = back

-- why there is no report: memory was refused, and the passes did nothing, or the gate refused a place that it may
-- refuse
abbrev pub Faulted : (ℕ → Type 0) → Shape → List PassView → AuditFault → Type 0
Faulted may sh passes (Memory back) = back.items ≡ passes
Faulted may sh passes (Gate back place) = Stopped sh passes back.items × (place < frames_of sh) × may place
