-- What each seat knows: an event changes the view of its own seat alone, and the keeper's is enough to tell where its steps are allowed and what follows. Source: own.
use Rattle.std.specs.Prelude.{ℕ, ◌≡◌, ◌≢◌, ◌↔◌, slice_get}
use Rattle.frame_core.specs.Terms.{Shape, Event, Reader, Keeper, KeeperStep, Step, Done, NotAllowed}
use Rattle.frame_core.specs.State.{State}
use Rattle.frame_core.specs.Ledger.{MayStep, ledger_after}

-- the step was made
abbrev pub IsDone : Step → Type 0
IsDone NotAllowed = ⊥
IsDone (Done found) = Unit {0}

-- a step of the keeper, from one state to the next, by the ledger of the state
pub record FollowsLedger (sh : Shape) (old : State) (e : KeeperStep) (result : Step) (new : State) : Type 0 where
  -- it is allowed exactly where the ledger says so
  pub allowed : IsDone result ↔ MayStep sh old.ledger e
  -- what the keeper knows after it, follows from what it knew, the step and the word found
  pub after : (found : ℕ) → result ≡ Done found → new.ledger ≡ ledger_after sh old.ledger e found

-- the ledger tells of each step of the keeper
abbrev pub LedgerTells : Shape → State → Event → Step → State → Type 0
LedgerTells sh old (Reader seat e) result new = Unit {0}
LedgerTells sh old (Keeper e) result new = FollowsLedger sh old e result new

-- an event changes what its own seat knows, and nothing that another knows: the keeper its ledger, a reader its phase
abbrev pub ChangesOwnView : State → Event → State → Type 0
ChangesOwnView old (Reader seat e) new = (new.ledger ≡ old.ledger) × ((q : ℕ) → q ≢ seat → slice_get new.seats q ≡ slice_get old.seats q)
ChangesOwnView old (Keeper e) new = new.seats ≡ old.seats

-- a core of this shape in this state
pub record CoreView : Type 0 where
  pub shape : Shape
  pub state : State
