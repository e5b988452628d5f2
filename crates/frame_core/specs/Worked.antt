-- Worked runs of the least table, one frame, one place and one seat: what is told from their traces. Own.
use Rattle.std.specs.Prelude.{◌≡◌, ℕ, List, [], ◌∷◌, ◌++◌, replicate, Some, None}
use Rattle.frame_core.specs.Terms.{Shape, Event, Reader, Keeper, LoadPlace, LoadFrame, Exchange, LoadWord, Put, Raise, Open, Add, Sub, Reap, Publish, Replace, Private, Stable, Ledger, ReaderStep}
use Rattle.frame_core.specs.Terms.{COUNT_SPAN, PLACE_SPAN, PAGE_WORDS}
use Rattle.frame_core.specs.Steps.{step}
use Rattle.frame_core.specs.Trace.{Entry, History, run_of}

abbrev pub least : Shape
least = record { nodes = 1; frames_per_node = 1; passes = 1; last_generation = 5; tries = 1 }

abbrev pub trace_of : List Event → List Entry
trace_of events = (run_of least events).trace

-- the frame is filled with 7 and 8, opened, given a second reference and published
abbrev pub published : List Event
published = Keeper (Raise 0) ∷ Keeper (Put 0 0 7) ∷ Keeper (Put 0 1 8) ∷ Keeper (Open 0) ∷ Keeper (Add 0) ∷ Keeper (Publish 0 0) ∷ []

-- the keeper gives both references back, and the frame its next life, with two references
abbrev pub given_again : List Event
given_again = Keeper (Sub 0) ∷ Keeper (Sub 0) ∷ Keeper (Reap 0) ∷ Keeper (Raise 0) ∷ Keeper (Open 0) ∷ Keeper (Add 0) ∷ []

abbrev pub begins : List Event
begins = Reader 0 (LoadPlace 0) ∷ Reader 0 LoadFrame ∷ []

-- a lookup meets the count that it loaded in the next life
abbrev pub two_lives : List Event
two_lives = published ++ begins ++ given_again ++ Reader 0 Exchange ∷ []

-- the seat holds the frame and has read its second word, and the keeper tries to give it again
abbrev pub held : List Event
held = published ++ begins ++ Reader 0 Exchange ∷ Reader 0 (LoadWord 1) ∷ given_again

-- the seat has taken the frame 0 in its life 1, which the place 0 named
abbrev pub taken : List Event
taken = published ++ begins ++ Reader 0 Exchange ∷ []

-- after these events this one is not allowed
abbrev pub IsRefused : List Event → Event → Type 0
IsRefused events e = step least (run_of least events).state e ≡ None

-- the frame is opened, and given back again
abbrev pub opened : List Event
opened = Keeper (Raise 0) ∷ Keeper (Open 0) ∷ []

abbrev pub dying : List Event
dying = opened ++ Keeper (Sub 0) ∷ []

-- then this step was made, and found this word
abbrev pub and_then : Event → ℕ → List Entry
and_then e word = record { event = e; word = word } ∷ trace_of taken

-- the same, but that the frame may be written
abbrev pub writable : Ledger
writable = record {
  frames = record { kind = Private; base = 2; generation = 1; content = 7 ∷ 8 ∷ 0 ∷ 0 ∷ 0 ∷ 0 ∷ 0 ∷ 0 ∷ [] } ∷ [];
  places = Some record { frame = 0; generation = 1 } ∷ [];
}

abbrev pub taken_and_writable : History
taken_and_writable =
    let past = run_of least taken in record { state = record past.state { ledger = writable }; trace = past.trace }

-- two frames and two places: the place 0 names the frame 0, which is stable, and the frame 1 is private
abbrev pub two_frames : Shape
two_frames = record least { frames_per_node = 2 }

abbrev pub named_and_private : List Event
named_and_private = published ++ Keeper (Raise 1) ∷ Keeper (Put 1 0 9) ∷ Keeper (Open 1) ∷ []

-- the same, but that the keeper has given the frame 0 up, which the place still names
abbrev pub given_up_and_private : List Event
given_up_and_private = named_and_private ++ Keeper (Sub 0) ∷ Keeper (Sub 0) ∷ []

-- the place 0 names the frame 1 in place of the frame 0
abbrev pub replaced : List Event
replaced = named_and_private ++ Keeper (Replace 0 1) ∷ []

-- what two frames and two places come to by these events
abbrev pub with_two : List Event → History
with_two events = run_of two_frames events

-- after these events of two frames this one is not allowed
abbrev pub IsRefusedOfTwo : List Event → Event → Type 0
IsRefusedOfTwo events e = step two_frames (with_two events).state e ≡ None

-- a log: the place 0 named the frame 0 in its life 1, and the frame's word was this
abbrev pub loads : ℕ → List (ReaderStep × ℕ)
loads word = (LoadPlace 0, PLACE_SPAN) ∷ (LoadFrame, word) ∷ []

-- the frame 0 is stable in this life, and the place 0 names that; its count is this, and this was done
abbrev pub live_with : ℕ → ℕ → List Entry → History
live_with generation count trace = record {
  state = record (run_of least []).state {
    ledger = record {
      frames = record { kind = Stable; base = 2; generation = generation; content = replicate PAGE_WORDS 0 } ∷ [];
      places = Some record { frame = 0; generation = generation } ∷ [];
    };
    counts = count ∷ [];
  };
  trace = trace;
}

-- the seat 0 found that the frame, which the place had named in its life 1, had no reference
abbrev pub found_unreferenced : List Entry
found_unreferenced = record { event = Reader 0 LoadFrame; word = COUNT_SPAN } ∷ record { event = Reader 0 (LoadPlace 0); word = PLACE_SPAN } ∷ []
