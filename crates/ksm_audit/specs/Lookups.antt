-- What a lookup of the audit adds to its pass's log, and which row it gives (own).
use Rattle.std.specs.Prelude.{◌≡◌, ℕ, ◌+◌, ◌<◌, List, [], ◌∷◌, ◌++◌, length, slice_index}
use Rattle.ksm_base.specs.declared.page.TheConstants.{PAGE_WORDS}
use Rattle.ksm_base.specs.declared.shape.Shape.{Shape}
use Rattle.frame_core.specs.declared.event.ReaderStep.TheVariants.{LoadWord, Leave}
use Rattle.frame_table.specs.declared.pass.Why.TheVariants.{Vacant, Zero, Generation}
use Rattle.frame_table.specs.Named.{PassView, HeldView}
use Rattle.frame_table.specs.Equal.{IsRead}
use Rattle.frame_table.specs.Lookup.{ReaderLog, IsVacant, IsZero, IsOld, IsBusy, IsFound, Adds}
use Rattle.ksm_audit.specs.declared.report.Row.{Row}
use Rattle.ksm_audit.specs.declared.report.Row.TheVariants.{Found, Gone, Busy}

-- the loads of these words of a page, the first of which has the number i
abbrev pub word_loads : ℕ → List ℕ → ReaderLog
word_loads i [] = []
word_loads i (w ∷ ws) = (LoadWord i, w) ∷ word_loads (i + 1) ws

-- each word of the page was read in this hold, in order; one that had been read in it before has the value that was
-- read then
pub record ReadsPage (v : HeldView) (bytes : List ℕ) (w : HeldView) : Type 0 where
  pub width : length bytes ≡ PAGE_WORDS
  pub hold : w ≡ record v { log = v.log ++ word_loads 0 bytes; known = w.known }
  pub read : (i : ℕ) → i < PAGE_WORDS → IsRead w i (slice_index bytes i)
  pub same : (i word : ℕ) → i < PAGE_WORDS → IsRead v i word → slice_index bytes i ≡ word

-- the steps of one lookup of the place, which ends with this row: a hold reads each word and is left
abbrev pub IsLookup : Shape → ℕ → Row → ReaderLog → Type 0
IsLookup sh place (Found generation bytes) log = (first : ReaderLog) × (frame back : ℕ) × (length bytes ≡ PAGE_WORDS)
    × IsFound sh place frame generation first × (log ≡ first ++ (word_loads 0 bytes ++ (Leave, back) ∷ []))
IsLookup sh place (Gone Vacant) log = IsVacant place log
IsLookup sh place (Gone Zero) log = IsZero sh place log
IsLookup sh place (Gone Generation) log = IsOld sh place log
IsLookup sh place Busy log = IsBusy sh place log

-- the pass made one lookup of the place, which ended with this row
abbrev pub Visits : PassView → ℕ → Row → PassView → Type 0
Visits v place row w = (w.table ≡ v.table) × Adds v.log w.log (IsLookup v.table.shape place row)
