-- What was done, the newest step first, and what can be told from it: lives, holders, words stored and words read. No count and no phase is read here. Source: own.
use Rattle.std.specs.Prelude.{ℕ, ◌≡◌, ◌+◌, ◌<◌, Bool, true, false, ◌&&◌, ◌==◌, if◌then◌else◌, List, [], ◌∷◌, ◌++◌, filter, All, Option, None, Some, fold}
use Rattle.std.specs.List.{range_with_len}
use Rattle.frame_core.specs.Terms.{PLACE_SPAN, Shape, Event, Reader, Keeper, ReaderStep, KeeperStep, LoadPlace, LoadFrame, Exchange, Leave, LoadWord, Put, Raise, Open, Publish, Replace, Aim}
use Rattle.frame_core.specs.State.{State, place_word, life_at}
use Rattle.frame_core.specs.Steps.{first_state, step}

-- an accepted event, and the word that it read
pub record Entry : Type 0 where
  pub event : Event
  pub word : ℕ

-- a state, and what led to it
pub record History : Type 0 where
  pub state : State
  pub trace : List Entry

-- an event that is not allowed changes nothing and leaves no entry
abbrev pub history_with : History → Event → Option (ℕ × State) → History
history_with h e None = h
history_with h e (Some r) = record { state = r.1; trace = record { event = e; word = r.0 } ∷ h.trace }

-- one event more
abbrev pub history_after : Shape → History → Event → History
history_after shape h e = history_with h e (step shape h.state e)

-- before any event
abbrev pub first_history : Shape → History
first_history shape = record { state = first_state shape; trace = [] }

-- the events one after another, from there
abbrev pub run_of : Shape → List Event → History
run_of shape events = fold (history_after shape) (first_history shape) events

-- ---------------------------------------------------------------- what the trace tells

-- the life of f: how often it was raised so far
abbrev pub life_after : ℕ → ℕ → Event → ℕ
life_after f before (Keeper (Raise g)) = if g == f then before + 1 else before
life_after f before _ = before

abbrev pub life_of : ℕ → List Entry → ℕ
life_of f [] = 0
life_of f (e ∷ t) = life_after f (life_of f t) e.event

-- the steps of the reader on a seat, the oldest first, each with the word that it found: its part of the trace
abbrev pub logged_after : ℕ → List (ReaderStep × ℕ) → ℕ → Event → List (ReaderStep × ℕ)
logged_after seat before w (Reader q e) = if q == seat then before ++ (e, w) ∷ [] else before
logged_after seat before w (Keeper e) = before

abbrev pub log_of : ℕ → List Entry → List (ReaderStep × ℕ)
log_of seat [] = []
log_of seat (e ∷ t) = logged_after seat (log_of seat t) e.word e.event

-- the same of the keeper
abbrev pub keeper_logged_after : List (KeeperStep × ℕ) → ℕ → Event → List (KeeperStep × ℕ)
keeper_logged_after before w (Reader q e) = before
keeper_logged_after before w (Keeper e) = before ++ (e, w) ∷ []

abbrev pub keeper_log_of : List Entry → List (KeeperStep × ℕ)
keeper_log_of [] = []
keeper_log_of (e ∷ t) = keeper_logged_after (keeper_log_of t) e.word e.event

-- the last place that the seat loaded, with the word found there, if it loaded any
abbrev pub place_loaded_after : ℕ → Option (ℕ × ℕ) → ℕ → Event → Option (ℕ × ℕ)
place_loaded_after seat before w (Reader q (LoadPlace p)) = if q == seat then Some (p, w) else before
place_loaded_after seat before w _ = before

abbrev pub place_loaded : ℕ → List Entry → Option (ℕ × ℕ)
place_loaded seat [] = None
place_loaded seat (e ∷ t) = place_loaded_after seat (place_loaded seat t) e.word e.event

-- the last frame word that the seat loaded, 0 if none
abbrev pub frame_loaded_after : ℕ → ℕ → ℕ → Event → ℕ
frame_loaded_after seat before w (Reader q LoadFrame) = if q == seat then w else before
frame_loaded_after seat before w _ = before

abbrev pub frame_loaded : ℕ → List Entry → ℕ
frame_loaded seat [] = 0
frame_loaded seat (e ∷ t) = frame_loaded_after seat (frame_loaded seat t) e.word e.event

-- the frame that a place's word names
abbrev pub frame_in : Option (ℕ × ℕ) → Option ℕ
frame_in None = None
frame_in (Some loaded) = Some (life_at loaded.1).frame

-- the frame on which the seat has made an exchange and that it has not left since: an exchange is made where it finds the word that the seat loaded last
abbrev pub held_after : ℕ → List Entry → Option ℕ → ℕ → Event → Option ℕ
held_after seat t before w (Reader q Exchange) = if q == seat && w == frame_loaded seat t then frame_in (place_loaded seat t) else before
held_after seat t before w (Reader q Leave) = if q == seat then None else before
held_after seat t before w _ = before

abbrev pub held_by : ℕ → List Entry → Option ℕ
held_by seat [] = None
held_by seat (e ∷ t) = held_after seat t (held_by seat t) e.word e.event

-- it is this very frame
abbrev pub is_frame : ℕ → Option ℕ → Bool
is_frame f None = false
is_frame f (Some g) = g == f

-- the holders of f, of so many seats: those that made an exchange on it and have not left since
abbrev pub holders : ℕ → ℕ → List Entry → List ℕ
holders passes f t = filter (λ seat. is_frame f (held_by seat t)) (range_with_len 0 passes)

-- f was opened since the seat last loaded a place
abbrev pub given_after : ℕ → ℕ → Bool → Event → Bool
given_after seat f before (Reader q (LoadPlace p)) = if q == seat then false else before
given_after seat f before (Keeper (Open g)) = if g == f then true else before
given_after seat f before _ = before

abbrev pub given_since : ℕ → ℕ → List Entry → Bool
given_since seat f [] = false
given_since seat f (e ∷ t) = given_after seat f (given_since seat f t) e.event

-- the last value stored to the content word i of f, 0 if none
abbrev pub stored_after : ℕ → ℕ → ℕ → Event → ℕ
stored_after f i before (Keeper (Put g j w)) = if g == f && j == i then w else before
stored_after f i before _ = before

abbrev pub stored : ℕ → ℕ → List Entry → ℕ
stored f i [] = 0
stored f i (e ∷ t) = stored_after f i (stored f i t) e.event

-- the last value stored to the content word i of f before the keeper named f at a place in its life g, if it did
abbrev pub named_after : ℕ → ℕ → ℕ → List Entry → Option ℕ → Event → Option ℕ
named_after f g i t before (Keeper (Publish p h)) = if h == f && life_of f t == g then Some (stored f i t) else before
named_after f g i t before (Keeper (Replace p h)) = if h == f && life_of f t == g then Some (stored f i t) else before
named_after f g i t before _ = before

abbrev pub named_word : ℕ → ℕ → ℕ → List Entry → Option ℕ
named_word f g i [] = None
named_word f g i (e ∷ t) = named_after f g i t (named_word f g i t) e.event

-- the content words that the seat has loaded since its last exchange: their numbers and values
abbrev pub read_after : ℕ → List (ℕ × ℕ) → ℕ → Event → List (ℕ × ℕ)
read_after seat before w (Reader q (LoadWord i)) = if q == seat then (i, w) ∷ before else before
read_after seat before w (Reader q Exchange) = if q == seat then [] else before
read_after seat before w _ = before

abbrev pub words_read : ℕ → List Entry → List (ℕ × ℕ)
words_read seat [] = []
words_read seat (e ∷ t) = read_after seat (words_read seat t) e.word e.event

-- The seat holds rightly what its aim names: its last load of a place found that frame in that life; this is the frame's life by now; it was not opened since that load; each word read is the one that the life was published with
pub record HoldsRightly (seat : ℕ) (aim : Aim) (t : List Entry) : Type 0 where
  pub named : place_loaded seat t ≡ Some (aim.place, place_word (Some aim.life))
  pub frame : aim.life.frame < PLACE_SPAN
  pub same_life : aim.life.generation ≡ life_of aim.life.frame t
  pub not_given : given_since seat aim.life.frame t ≡ false
  pub words : All (λ r. named_word aim.life.frame aim.life.generation r.0 t ≡ Some r.1) (words_read seat t)
