-- The knobs, and what else is shown, by their names (admin-guide/mm/ksm).
use Rattle.std.specs.Prelude.{ℕ, List, [], ◌∷◌, Option, Some, None, map, codes, bytes_eq, if◌then◌else◌}
use Rattle.ksm_base.specs.declared.knobs.Knob.{Knob}
use Rattle.ksm_base.specs.Counting.{counters_of}
use Rattle.ksm_base.specs.Knobs.{all_knobs, traits, value_in}
use Rattle.ksm_base.specs.State.{BookState}
use Rattle.ksm_lines.specs.declared.knob.Shown.{Shown}
use Rattle.ksm_lines.specs.declared.knob.Shown.TheVariants.{Knob as OfKnob, ZeroPages}

-- the name of a knob
abbrev pub knob_name : Knob → List ℕ
knob_name knob = (traits knob).name

-- the name of what is shown
abbrev pub shown_name : Shown → List ℕ
shown_name (OfKnob knob) = knob_name knob
shown_name ZeroPages = codes "ksm_zero_pages"

-- the first of some things that has a name
abbrev pub named_in : {A : Type 0} → (A → List ℕ) → List A → List ℕ → Option A
named_in name_of [] name = None
named_in name_of (x ∷ xs) name = if bytes_eq name (name_of x) then Some x else named_in name_of xs name

abbrev pub all_shown : List Shown
all_shown = ZeroPages ∷ map OfKnob all_knobs

-- a knob by its name
abbrev pub knob_of : List ℕ → Option Knob
knob_of = named_in knob_name all_knobs

-- what is shown, by its name
abbrev pub shown_of : List ℕ → Option Shown
shown_of = named_in shown_name all_shown

-- the value that is shown: a knob's, or how many pages are mapped from the zero page
abbrev pub shown_in : Shown → BookState → ℕ
shown_in (OfKnob knob) b = value_in knob b.knobs
shown_in ZeroPages b = (counters_of b).zero
