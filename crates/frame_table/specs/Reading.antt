-- What each step of a reader tells its seat (own).
use Rattle.std.specs.Prelude.{◌≡◌, ℕ, ◌<◌, ◌≤◌, List, [], ◌∷◌, ◌++◌, slice_index_or, Option, Some, None}
use Rattle.atomic_table.specs.Table.{Step}
use Rattle.frame_table.specs.Terms.{FRAME_WORDS, MOST_COUNT, PAGE_WORDS, Shape, frames_of, Event, ReaderStep, LoadPlace, LoadFrame, Leave, LoadWord, Aim, Phase, Held}
use Rattle.frame_core.specs.declared.event.Event.TheVariants as event
use Rattle.frame_core.specs.State.{life_at, count_in}
use Rattle.frame_table.specs.declared.view.View.{View}
use Rattle.frame_table.specs.declared.view.View.TheVariants.{Reader}
use Rattle.frame_core.specs.Seat.{seat_after}
use Rattle.frame_table.specs.Seat.{reader_word}
use Rattle.frame_table.specs.Orders.{IsPresent}
use Rattle.frame_table.specs.Views.{Sat, IsIn, shape_in, order_in}

-- the view after a step: as far as the step leads, with one entry more in the log, and this order
abbrev pub reader_after : ReaderStep → View → ℕ → List Event → View
reader_after e (Reader sh phase log old) n order = Reader sh (seat_after sh e phase n) (log ++ (e, n) ∷ []) order
reader_after e v n order = v

-- the step was made, and found the word n
abbrev pub Steps : ReaderStep → Sat → ℕ → Sat → Type 0
Steps e m n m' = m' ≡ (reader_after e m.0 n (order_in m'), m.1)

-- the seat has a reference on the frame whose frame word, or whose page, stands there
abbrev pub IsHolder : Shape → (ℕ → ℕ → ℕ) → ℕ → Sat → Type 0
IsHolder sh stands_at there m = (aim : Aim) × (known : List (Option ℕ)) × (stands_at (frames_of sh) aim.life.frame ≡ there) × IsIn sh (Held aim known) m

-- the word of a place is that of none, or names a frame and a life of it
abbrev pub NamesFrame : Shape → ℕ → Type 0
NamesFrame sh n = ¬ (n ≡ 0) → ((life_at n).frame < frames_of sh) × (1 ≤ (life_at n).generation)

-- a word that was read before in this hold has the value that was read
abbrev pub agrees_with : ℕ → ℕ → Phase → Type 0
agrees_with i n (Held aim known) = (v : ℕ) → slice_index_or known i None ≡ Some v → n ≡ v
agrees_with i n _ = Unit {0}

-- what the rule says of the word that a step found
abbrev pub tells : Shape → ReaderStep → Phase → ℕ → Type 0
tells sh (LoadPlace p) phase n = NamesFrame sh n
tells sh LoadFrame phase n = (count_in n ≤ MOST_COUNT) × (n < FRAME_WORDS)
tells sh Leave phase n = 1 ≤ count_in n
tells sh (LoadWord i) phase n = agrees_with i n phase
tells sh _ phase n = Unit {0}

abbrev pub tells_view : ReaderStep → View → ℕ → Type 0
tells_view e (Reader sh phase log order) n = tells sh e phase n
tells_view e _ n = Unit {0}

-- the step is of the present, and found what the core's step of the seat finds
abbrev pub IsMadeNow : ReaderStep → Sat → ℕ → Sat → Type 0
IsMadeNow e m n m' = (q : ℕ) × IsPresent (shape_in m) (order_in m) (order_in m') (event.Reader q e) n

-- the step was made, of the present, and found a word that is as the rule says
abbrev pub StepsNow : ReaderStep → Sat → ℕ → Sat → Type 0
StepsNow e m n m' = Steps e m n m' × tells_view e m.0 n × IsMadeNow e m n m'

-- the word on which a step works
abbrev pub word_at : ReaderStep → View → ℕ
word_at e (Reader sh phase log order) = reader_word sh e phase
word_at e _ = 0

-- an operation on that word makes the step
abbrev pub StepsAt : ReaderStep → Step (Unit {0}) → Sat → ℕ → Sat → Type 0
StepsAt e st m n m' = st.word ≡ word_at e m.0 → StepsNow e m n m'

abbrev pub loads_place : Step (Unit {0}) → Sat → ℕ → Sat → Type 0
loads_place st m n m' = (p : ℕ) → StepsAt (LoadPlace p) st m n m'

abbrev pub loads_word : Step (Unit {0}) → Sat → ℕ → Sat → Type 0
loads_word st m n m' = (i : ℕ) → i < PAGE_WORDS → StepsAt (LoadWord i) st m n m'
