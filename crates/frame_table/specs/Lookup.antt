-- What a lookup adds to its pass's log, and which answer shows which log.
use Rattle.std.specs.Prelude.{◌≡◌, ℕ, ◌<◌, List, [], ◌∷◌, ◌++◌, length, slice_index_or, slice_set, Some, None}
use Rattle.frame_table.specs.Terms.{Shape, LoadPlace, LoadFrame, Exchange, Leave, LoadWord}
use Rattle.frame_core.specs.State.{life_at, count_in, life_in}
use Rattle.frame_core.specs.Seat.{nothing_known}
pub use Rattle.frame_table.specs.Views.{ReaderLog}
use Rattle.frame_table.specs.declared.pass.Found.{Found}
use Rattle.frame_table.specs.declared.pass.Found.TheVariants.{Held, Gone, Busy}
use Rattle.frame_table.specs.declared.pass.Why.TheVariants.{Vacant, Zero, Generation}
use Rattle.frame_table.specs.Named.{PassView, HeldView}

-- rounds that failed: the frame word loaded, and another that the exchange found
abbrev pub rounds : List (ℕ × ℕ) → ReaderLog
rounds [] = []
rounds (x ∷ xs) = (LoadFrame, x.0) ∷ (Exchange, x.1) ∷ rounds xs

-- a frame word of this life, of a frame with a reference
abbrev pub IsAlive : ℕ → ℕ → Type 0
IsAlive generation w = ¬ (count_in w ≡ 0) × (life_in w ≡ generation)

abbrev pub AllLost : ℕ → List (ℕ × ℕ) → Type 0
AllLost generation [] = Unit {0}
AllLost generation (x ∷ xs) = IsAlive generation x.0 × ¬ (x.1 ≡ x.0) × AllLost generation xs

-- the place's word was read, and then the rounds xs were lost
abbrev pub lookup_so_far : ℕ → ℕ → List (ℕ × ℕ) → ReaderLog
lookup_so_far place word xs = (LoadPlace place, word) ∷ rounds xs

-- so far as that a lookup may have come, by fewer tries than all
abbrev pub GoesOn : Shape → ℕ → List (ℕ × ℕ) → Type 0
GoesOn sh word xs = ¬ (word ≡ 0) × AllLost (life_at word).generation xs × (length xs < sh.tries)

abbrev pub IsVacant : ℕ → ReaderLog → Type 0
IsVacant place log = log ≡ (LoadPlace place, 0) ∷ []

abbrev pub IsZero : Shape → ℕ → ReaderLog → Type 0
IsZero sh place log = (word : ℕ) × (xs : List (ℕ × ℕ)) × (last : ℕ) × GoesOn sh word xs × (count_in last ≡ 0)
    × (log ≡ lookup_so_far place word xs ++ (LoadFrame, last) ∷ [])

abbrev pub IsOld : Shape → ℕ → ReaderLog → Type 0
IsOld sh place log = (word : ℕ) × (xs : List (ℕ × ℕ)) × (last : ℕ) × GoesOn sh word xs × ¬ (count_in last ≡ 0) × ¬ (life_in last ≡ (life_at word).generation)
    × (log ≡ lookup_so_far place word xs ++ (LoadFrame, last) ∷ [])

abbrev pub IsBusy : Shape → ℕ → ReaderLog → Type 0
IsBusy sh place log = (word : ℕ) × (xs : List (ℕ × ℕ)) × ¬ (word ≡ 0) × AllLost (life_at word).generation xs × (length xs ≡ sh.tries)
    × (log ≡ lookup_so_far place word xs)

abbrev pub IsFound : Shape → ℕ → ℕ → ℕ → ReaderLog → Type 0
IsFound sh place frame generation log = (word : ℕ) × (xs : List (ℕ × ℕ)) × (last : ℕ) × GoesOn sh word xs × IsAlive generation last
    × (frame ≡ (life_at word).frame) × (generation ≡ (life_at word).generation)
    × (log ≡ lookup_so_far place word xs ++ (LoadFrame, last) ∷ (Exchange, last) ∷ [])

-- the log is longer by a part that meets P
abbrev pub Adds : ReaderLog → ReaderLog → (ReaderLog → Type 0) → Type 0
Adds before after P = (added : ReaderLog) × (after ≡ before ++ added) × P added

abbrev pub LooksUp : PassView → ℕ → Found → Type 0
LooksUp v place (Held h) = (h.table ≡ v.table) × (h.place ≡ place) × (h.known ≡ nothing_known) × Adds v.log h.log (IsFound v.table.shape place h.frame h.generation)
LooksUp v place (Gone p Vacant) = (p.table ≡ v.table) × Adds v.log p.log (IsVacant place)
LooksUp v place (Gone p Zero) = (p.table ≡ v.table) × Adds v.log p.log (IsZero v.table.shape place)
LooksUp v place (Gone p Generation) = (p.table ≡ v.table) × Adds v.log p.log (IsOld v.table.shape place)
LooksUp v place (Busy p) = (p.table ≡ v.table) × Adds v.log p.log (IsBusy v.table.shape place)

-- the word i is read; where it was read before in this hold, it is what was read
abbrev pub ReadsWord : HeldView → ℕ → ℕ → HeldView → Type 0
ReadsWord v i word w = (w ≡ record v { log = v.log ++ (LoadWord i, word) ∷ []; known = slice_set v.known i (Some word) }) × ((x : ℕ) → slice_index_or v.known i None ≡ Some x → word ≡ x) × (slice_index_or w.known i None ≡ Some word)

abbrev pub Leaves : HeldView → PassView → Type 0
Leaves v p = (p.table ≡ v.table) × ((back : ℕ) × (p.log ≡ v.log ++ (Leave, back) ∷ []))
