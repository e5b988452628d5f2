-- The knobs by one table, which refusals, effects, soundness, the journal, C's numbers and the language read
-- (admin-guide/mm/ksm; numbers and upper bounds own).
use Rattle.std.specs.Prelude.{ℕ, ◌≤◌, Bool, true, false, ◌&&◌, nat_le, List, [], ◌∷◌, find, ◌==◌, codes, Option, Some, None}
use Rattle.ksm_base.specs.declared.limits.TheConstants.{MOST_REFERENCES}
use Rattle.ksm_base.specs.declared.command.Command.{Command}
use Rattle.ksm_base.specs.declared.command.Command.TheVariants.{SetRun, SetPagesToScan, SetAcross, SetLimit, SetZeroPages}
use Rattle.ksm_base.specs.declared.knobs.Knobs.{Knobs}
use Rattle.ksm_base.specs.declared.knobs.Knob.{Knob}
use Rattle.ksm_base.specs.declared.knobs.Knob.TheVariants.{Run, PagesToScan, MergeAcrossNodes, MaxPageSharing, UseZeroPages}

-- what is fixed of a knob: name, number, range, and whether another value is refused while pages are shared
pub record KnobTraits : Type 0 where
  pub name : List ℕ
  pub number : ℕ
  pub least : ℕ
  pub most : ℕ
  pub fixed_while_shared : Bool

abbrev pub traits : Knob → KnobTraits
-- 0: the scan stands, 1: it runs, 2: all merged pages are unmerged
traits Run = record { name = codes "run"; number = 0; least = 0; most = 2; fixed_while_shared = false }
traits PagesToScan =
    record { name = codes "pages_to_scan"; number = 1; least = 1; most = 1000000; fixed_while_shared = false }
traits MergeAcrossNodes =
    record { name = codes "merge_across_nodes"; number = 2; least = 0; most = 1; fixed_while_shared = true }
traits MaxPageSharing =
    record { name = codes "max_page_sharing"; number = 3; least = 2; most = MOST_REFERENCES; fixed_while_shared = true }
traits UseZeroPages =
    record { name = codes "use_zero_pages"; number = 4; least = 0; most = 1; fixed_while_shared = false }

abbrev pub all_knobs : List Knob
all_knobs = Run ∷ PagesToScan ∷ MergeAcrossNodes ∷ MaxPageSharing ∷ UseZeroPages ∷ []

-- the settings at the start (for max_page_sharing own, as Linux has it)
abbrev pub default_knobs : Knobs
default_knobs = record { run = 0; pages_to_scan = 100; merge_across_nodes = 1; max_page_sharing = 256; use_zero_pages = 0 }

-- what a knob is set to
abbrev pub value_in : Knob → Knobs → ℕ
value_in Run knobs = knobs.run
value_in PagesToScan knobs = knobs.pages_to_scan
value_in MergeAcrossNodes knobs = knobs.merge_across_nodes
value_in MaxPageSharing knobs = knobs.max_page_sharing
value_in UseZeroPages knobs = knobs.use_zero_pages

-- the settings with another value of a knob
abbrev pub with_value : Knob → ℕ → Knobs → Knobs
with_value Run value knobs = record knobs { run = value }
with_value PagesToScan value knobs = record knobs { pages_to_scan = value }
with_value MergeAcrossNodes value knobs = record knobs { merge_across_nodes = value }
with_value MaxPageSharing value knobs = record knobs { max_page_sharing = value }
with_value UseZeroPages value knobs = record knobs { use_zero_pages = value }

-- the command that sets a knob
abbrev pub setting : Knob → ℕ → Command
setting Run value = SetRun value
setting PagesToScan value = SetPagesToScan value
setting MergeAcrossNodes value = SetAcross value
setting MaxPageSharing value = SetLimit value
setting UseZeroPages value = SetZeroPages value

-- the knob that a command sets, and the value
abbrev pub set_by : Command → Option (Knob × ℕ)
set_by (SetRun value) = Some (Run, value)
set_by (SetPagesToScan value) = Some (PagesToScan, value)
set_by (SetAcross value) = Some (MergeAcrossNodes, value)
set_by (SetLimit value) = Some (MaxPageSharing, value)
set_by (SetZeroPages value) = Some (UseZeroPages, value)
set_by command = None

-- the knob of a number
abbrev pub knob_numbered : ℕ → Option Knob
knob_numbered number = find (λ knob. (traits knob).number == number) all_knobs

-- a value is in the knob's range, both ends included
abbrev pub is_in_range : Knob → ℕ → Bool
is_in_range knob value = nat_le (traits knob).least value && nat_le value (traits knob).most

-- these knobs are in their ranges
abbrev pub AreInRange : List Knob → Knobs → Type 0
AreInRange [] knobs = Unit {0}
AreInRange (knob ∷ rest) knobs =
    ((traits knob).least ≤ value_in knob knobs) × (value_in knob knobs ≤ (traits knob).most) × AreInRange rest knobs

-- each knob is in its range
abbrev pub AreKnobs : Knobs → Type 0
AreKnobs = AreInRange all_knobs
