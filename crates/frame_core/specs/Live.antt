-- What lookups find at a live place. A place that the keeper names and then only replaces is live at every moment, so it is never empty, and what it names is never gone. Source: own.
use Rattle.std.specs.Prelude.{ℕ, ◌≡◌, ◌≢◌, ◌<◌, Bool, true, not, if◌then◌else◌, List, [], ◌∷◌, length, All, Some, fold}
use Rattle.frame_core.specs.Terms.{Shape, KeeperStep, Publish, Sub, Freeze, ReaderStep, LoadPlace, LoadFrame, Ledger, Life}
use Rattle.frame_core.specs.State.{place_word, life_at}
use Rattle.frame_core.specs.Ledger.{IsLive, MayStep, frame_at, ledger_after, named_at}
use Rattle.frame_core.specs.KeeperSteps.{frame_word_of}
use Rattle.frame_core.specs.Seat.{is_referenced}
use Rattle.frame_core.specs.Trace.{History, log_of}

-- ---------------------------------------------------------------- how long a place is live

-- the place is live by this ledger
abbrev pub LiveAt : Ledger → ℕ → Type 0
LiveAt k p = IsLive k (named_at k p)

-- the place names this frame
abbrev pub NamesFrame : Ledger → ℕ → ℕ → Type 0
NamesFrame k p f = (life : Life) × (named_at k p ≡ Some life) × (life.frame ≡ f)

-- the step gives the frame up that the place names: it gives the last reference back, or would give all back at once
abbrev pub GivesUp : Ledger → ℕ → KeeperStep → Type 0
GivesUp k p (Sub f) = NamesFrame k p f × ((frame_at k f).base ≡ 1)
GivesUp k p (Freeze f) = NamesFrame k p f
GivesUp k p _ = ⊥

-- a publish makes its place live
abbrev pub PublishMakesLive : Type 0
PublishMakesLive = (sh : Shape) (k : Ledger) (p f n : ℕ) → p < length k.places → MayStep sh k (Publish p f) → LiveAt (ledger_after sh k (Publish p f) n) p

-- a live place stays live by each step of the keeper, a replacement too, that does not give its frame up
abbrev pub LiveUntilGivenUp : Type 0
LiveUntilGivenUp = (sh : Shape) (k : Ledger) (e : KeeperStep) (n p : ℕ) → MayStep sh k e → LiveAt k p → ¬ GivesUp k p e → LiveAt (ledger_after sh k e n) p

-- ---------------------------------------------------------------- what lookups find

-- the frame word loaded tells that the life which the place's word names is gone: no reference, or another life
abbrev pub is_gone : ℕ → ℕ → Bool
is_gone named loaded = not (is_referenced (life_at named).generation loaded)

-- what a log tells so far: the word of the place loaded last, and the words of places whose lives its lookups found gone, the newest first
pub record Looked : Type 0 where
  pub named : ℕ
  pub gone : List ℕ

abbrev pub looked_after : Looked → ReaderStep → ℕ → Looked
looked_after l (LoadPlace p) w = record { named = w; gone = l.gone }
looked_after l LoadFrame w = if is_gone l.named w then record { named = l.named; gone = l.named ∷ l.gone } else l
looked_after l _ w = l

abbrev pub looked : List (ReaderStep × ℕ) → Looked
looked log = fold (λ l x. looked_after l x.0 x.1) record { named = 0; gone = [] } log

-- the words of places whose lives the lookups of this log found gone
abbrev pub found_gone : List (ReaderStep × ℕ) → List ℕ
found_gone log = (looked log).gone

-- what is found where a place names this life
pub record LifeIsFound (h : History) (life : Life) : Type 0 where
  -- its word is not that of none
  pub named : place_word (Some life) ≢ 0
  -- its frame is in this life, with a reference
  pub referenced : is_referenced life.generation (frame_word_of h.state life.frame) ≡ true
  -- no lookup of any seat has found it gone
  pub not_gone : (q : ℕ) → All (λ w. w ≢ place_word (Some life)) (found_gone (log_of q h.trace))

-- each life that a live place names is found
abbrev pub LivePlacesAreFound : History → Type 0
LivePlacesAreFound h = (p : ℕ) (life : Life) → named_at h.state.ledger p ≡ Some life → IsLive h.state.ledger (Some life) → LifeIsFound h life
