-- Moments of a table of one frame, one place and one pass, by which the rule and the laws of a moment are tried. Own.
use Rattle.std.specs.Prelude.{ℕ, List, [], ◌∷◌, replicate, Some}
use Rattle.frame_table.specs.Terms.{PAGE_WORDS, Shape, Event, KeeperStep, Reader as reader_event, Keeper as keeper_event, LoadPlace, Raise, Open, Publish, Phase, Idle, Held, Filling, Ledger}
use Rattle.frame_core.specs.Seat.{aim_at, nothing_known}
use Rattle.frame_core.specs.State.{State, place_word, frame_word}
use Rattle.frame_core.specs.Trace.{History, run_of, keeper_log_of}
use Rattle.frame_core.specs.Words.{words_of}
use Rattle.frame_table.specs.declared.view.View.{View}
use Rattle.frame_table.specs.declared.view.View.TheVariants.{Keeper, Reader, Spent}
use Rattle.frame_table.specs.Truth.{Moment}
use Rattle.frame_table.specs.Views.{ReaderLog, tally_of}

abbrev pub one : Shape
one = record { nodes = 1; frames_per_node = 1; passes = 1; last_generation = 1; tries = 1 }

-- after these steps, of which each seat has seen a beginning
module _ (events kept order : List Event) (phase : Phase) (log : ReaderLog) where
  abbrev pub past : History
  past = run_of one events

  abbrev pub keeper : View
  keeper = Keeper one past.state.ledger (tally_of 0 1) (keeper_log_of past.trace) kept

  abbrev pub pass : View
  pass = Reader one phase log order

  abbrev pub moment : Moment
  moment = record { words = words_of past.state; homes = []; views = keeper ∷ pass ∷ [] }

-- the moment of the opening, but with these views
abbrev pub opening_with : List View → Moment
opening_with views = record { words = words_of (run_of one []).state; homes = []; views = views }

abbrev pub first_keeper : View
first_keeper = keeper [] [] [] Idle []

abbrev pub first_pass : View
first_pass = pass [] [] [] Idle []

abbrev pub opening : Moment
opening = moment [] [] [] Idle []

-- the pass has loaded the empty place, and its log tells that it found this
abbrev pub load : Event
load = reader_event 0 (LoadPlace 0)

abbrev pub loaded : ℕ → Moment
loaded word = moment (load ∷ []) [] (load ∷ []) Idle ((LoadPlace 0, word) ∷ [])

-- a pass that holds the frame, though nothing was done
abbrev pub held_phase : Phase
held_phase = Held (aim_at 0 0 1) nothing_known

abbrev pub holder : View
holder = pass [] [] [] held_phase []

-- a keeper whose ledger says that the frame is being filled
abbrev pub filling : Ledger
filling = record { frames = record { kind = Filling; base = 0; generation = 1; content = replicate PAGE_WORDS 0 } ∷ []; places = [] }

abbrev pub filler : View
filler = Keeper one filling (tally_of 0 1) [] []

-- the keeper has named the frame at the place, the pass has loaded that, and is given back there
abbrev pub placed : List Event
placed = keeper_event (Raise 0) ∷ keeper_event (Open 0) ∷ keeper_event (Publish 0 0) ∷ load ∷ []

abbrev pub given_back : Moment
given_back = record { words = words_of (run_of one placed).state; homes = []; views = keeper placed placed [] Idle [] ∷ Spent ∷ [] }

-- the state of the core after these steps
abbrev pub state_after : List Event → State
state_after events = (run_of one events).state

-- the keeper has made one step since the opening
abbrev pub kept : KeeperStep → Moment
kept e = moment (keeper_event e ∷ []) (keeper_event e ∷ []) [] Idle []

-- the first two words of the table: the place names this frame in this life, and the word of the frame 0 has this life and count
abbrev pub words_with : ℕ → ℕ → ℕ → ℕ → List ℕ
words_with frame generation life count = place_word (Some record { frame = frame; generation = generation }) ∷ frame_word life count ∷ []

-- the keeper has named the frame at the place, and no pass has made a step
abbrev pub naming : List Event
naming = keeper_event (Raise 0) ∷ keeper_event (Open 0) ∷ keeper_event (Publish 0 0) ∷ []

abbrev pub named : Moment
named = moment naming naming [] Idle []
