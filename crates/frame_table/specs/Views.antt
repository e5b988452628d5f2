-- What a seat of the table knows, read part by part (own).
use Rattle.std.specs.Prelude.{◌≡◌, ℕ, List, [], Option}
use Rattle.atomic_table.specs.Table.{Me}
use Rattle.frame_table.specs.Terms.{Shape, Event, KeeperStep, ReaderStep, Ledger, Phase, Idle, Held, Spent as spent_phase}
use Rattle.frame_table.specs.declared.view.Tally.{Tally}
use Rattle.frame_table.specs.declared.view.View.{View}
use Rattle.frame_table.specs.declared.view.View.TheVariants.{Keeper, Reader, Spent}

-- steps of a reader, each with the word that it found
abbrev pub ReaderLog : Type 0
ReaderLog = List (ReaderStep × ℕ)

-- steps of the keeper, each with the word that it found
abbrev pub KeeperLog : Type 0
KeeperLog = List (KeeperStep × ℕ)

-- the steps of all seats, in their order, up to the last one of a seat
abbrev pub order_of : View → List Event
order_of (Reader sh phase log order) = order
order_of (Keeper sh ledger tally log order) = order
order_of Spent = []

-- a seat: its view, and no slots
abbrev pub Sat : Type 0
Sat = Me (Unit {0}) View

-- how far a seat has come: a pass that was given back is idle, and the keeper's seat is no reader's
abbrev pub phase_of : View → Phase
phase_of (Reader sh phase log order) = phase
phase_of Spent = Idle
phase_of (Keeper sh ledger tally log order) = spent_phase

abbrev pub order_in : Sat → List Event
order_in m = order_of m.0

abbrev pub no_shape : Shape
no_shape = record { nodes = 0; frames_per_node = 0; passes = 0; last_generation = 0; tries = 0 }

abbrev pub shape_of : View → Shape
shape_of (Reader sh phase log order) = sh
shape_of (Keeper sh ledger tally log order) = sh
shape_of Spent = no_shape

abbrev pub shape_in : Sat → Shape
shape_in m = shape_of m.0

-- what a reader's seat has done
abbrev pub log_in : Sat → ReaderLog
log_in (Reader sh phase log order, slots) = log
log_in _ = []

-- the words that a seat has read in its hold
abbrev pub known_in : Sat → List (Option ℕ)
known_in (Reader sh (Held aim known) log order, slots) = known
known_in _ = []

-- a reader's seat
abbrev pub sits : Shape → Phase → ReaderLog → List Event → Sat
sits sh phase log order = (Reader sh phase log order, [])

-- the seat is a reader's that has come so far
abbrev pub IsIn : Shape → Phase → Sat → Type 0
IsIn sh phase m = m ≡ sits sh phase (log_in m) (order_in m)

abbrev pub nothing_noted : Ledger
nothing_noted = record { frames = []; places = [] }

-- what the keeper's seat knows
abbrev pub ledger_in : Sat → Ledger
ledger_in (Keeper sh ledger tally log order, slots) = ledger
ledger_in _ = nothing_noted

-- how many passes there are, by the keeper's seat
abbrev pub tally_in : Sat → Tally
tally_in (Keeper sh ledger tally log order, slots) = tally
tally_in _ = record { unmade = 0; out = 0 }

-- what the keeper's seat has done
abbrev pub keeper_log : Sat → KeeperLog
keeper_log (Keeper sh ledger tally log order, slots) = log
keeper_log _ = []

-- the keeper's seat
abbrev pub keeps_ledger : Shape → Ledger → Tally → KeeperLog → List Event → Sat
keeps_ledger sh ledger tally log order = (Keeper sh ledger tally log order, [])

-- the seat is the keeper's
abbrev pub IsKeeper : Shape → Sat → Type 0
IsKeeper sh m = m ≡ keeps_ledger sh (ledger_in m) (tally_in m) (keeper_log m) (order_in m)

-- so many passes are still to be made, and so many are out
abbrev pub tally_of : ℕ → ℕ → Tally
tally_of unmade out = record { unmade = unmade; out = out }
