-- What lookups of the running table find at a place that is live by the keeper's ledger, as one is that the keeper only replaces (own).
use Rattle.std.specs.Prelude.{◌≡◌, ◌≢◌, ◌⊎◌, ℕ, suc, ◌<◌, List, [], ◌∷◌, ◌++◌, All, slice_index, slice_set, Some}
use mathlib.Core.Option.{some}
use lib.ListN.{get_elem?}
use Rattle.frame_table.specs.Terms.{Shape, frames_of, Event, ReaderStep, LoadPlace, LoadFrame, Ledger, Aim, Phase, Placed}
use Rattle.frame_core.specs.State.{place_word, life_at}
use Rattle.frame_core.specs.Words.{frame_word_at}
use Rattle.frame_core.specs.Live.{LiveAt, found_gone}
use Rattle.frame_table.specs.declared.view.Tally.{Tally}
use Rattle.frame_table.specs.declared.view.View.TheVariants.{Keeper, Reader}
use Rattle.frame_table.specs.Rule.{Holds}
use Rattle.frame_table.specs.Truth.{Moment, IsOpen}
use Rattle.frame_table.specs.Lookup.{ReaderLog, IsAlive, IsOld, IsZero}
use Rattle.frame_table.specs.Views.{KeeperLog}

-- the keeper's ledger tells at this moment that the place is live
abbrev pub IsLiveNow : Shape → Moment → ℕ → Type 0
IsLiveNow sh t p = (ledger : Ledger) × (tally : Tally) × (log : KeeperLog) × (order : List Event)
    × (get_elem? t.views 0 ≡ some (Keeper sh ledger tally log order)) × LiveAt ledger p

-- the pass with this seat has come so far, and has this log
abbrev pub HasCome : Shape → Moment → ℕ → Phase → ReaderLog → Type 0
HasCome sh t q phase log = (order : List Event) × (get_elem? t.views (suc q) ≡ some (Reader sh phase log order))

-- a frame is found at the place: its word is not 0, and the frame that it names is in the life named, with a reference
pub record IsFoundAt (sh : Shape) (words : List ℕ) (p : ℕ) : Type 0 where
  pub named : slice_index words p ≢ 0
  pub inside : (life_at (slice_index words p)).frame < frames_of sh
  pub alive : IsAlive (life_at (slice_index words p)).generation (slice_index words (frame_word_at (frames_of sh) (life_at (slice_index words p)).frame))

-- at each moment a live place is found so, and names no life that a lookup of a pass has found gone
abbrev pub LivePlacesAreFound : Type 0
LivePlacesAreFound = (sh : Shape) (t : Moment) (p : ℕ) → Holds sh t → IsLiveNow sh t p
    → IsFoundAt sh t.words p × ((q : ℕ) (phase : Phase) (log : ReaderLog) → HasCome sh t q phase log → All (λ w. w ≢ slice_index t.words p) (found_gone log))

-- between two moments the pass with this seat alone has gone on, by this entry
pub record WentOn (sh : Shape) (t t' : Moment) (q : ℕ) (phase : Phase) (log : ReaderLog) (e : ReaderStep) (found : ℕ) : Type 0 where
  pub before : Holds sh t
  pub after : Holds sh t'
  pub whole : IsOpen (suc q) t
  pub there : HasCome sh t q phase log
  pub phase' : Phase
  pub order' : List Event
  pub went : t'.views ≡ slice_set t.views (suc q) (Reader sh phase' (log ++ (e, found) ∷ []) order')

-- an entry by which a pass loads a live place finds it named, in a life that this pass has not found gone
abbrev pub LoadsFindLives : Type 0
LoadsFindLives = (sh : Shape) (t t' : Moment) (q : ℕ) (phase : Phase) (log : ReaderLog) (p found : ℕ) → WentOn sh t t' q phase log (LoadPlace p) found
    → IsLiveNow sh t p → (found ≢ 0) × All (λ w. w ≢ found) (found_gone log)

-- an entry by which a pass finds a life gone that a place named: if the place is live then, it names another by then
abbrev pub GoneIsOvertaken : Type 0
GoneIsOvertaken = (sh : Shape) (t t' : Moment) (q : ℕ) (aim : Aim) (failures : ℕ) (log : ReaderLog) (found : ℕ) → WentOn sh t t' q (Placed aim failures) log LoadFrame found
    → ¬ IsAlive aim.life.generation found → IsLiveNow sh t aim.place → slice_index t.words aim.place ≢ place_word (Some aim.life)

-- a lookup that answers Zero or Generation adds the place's word that it loaded to what its log found gone
abbrev pub AnswersAreNoted : Type 0
AnswersAreNoted = (sh : Shape) (place : ℕ) (before log : ReaderLog) → IsZero sh place log ⊎ IsOld sh place log
    → (word : ℕ) × (rest : ReaderLog) × (log ≡ (LoadPlace place, word) ∷ rest) × (found_gone (before ++ log) ≡ word ∷ found_gone before)
