-- A command carried out: what it answered, the state after it, the steps that it made on the frames, and where each
-- page lies then (own).
use Rattle.std.specs.Prelude.{◌≡◌, ℕ, ◌==◌, Bool, List, take, Option, Some, None, Ok, Err, MatchBool, MatchOption}
use Rattle.ksm_book.specs.Terms.{after, Answer, BookState, Command, Done, Drop, Entry, every_row, Fault, frame_of, Frames, InUse, is_of, IsAnswerOrMemory, KeeperView, live_dup_at, Lodging, MoveDup}
use Rattle.ksm_book.specs.Terms.{MovePage, NoFrame, Prune, Pruned, Register, Row, row_at, Scan, Scanned, SetAcross, SetLimit, SetRun, shared_rows, shared_state, Store, Unmerge, Unmerged}
use Rattle.ksm_book.specs.Steps.{AllocatesOn}
use Rattle.ksm_book.specs.Commands.{Admits, Deed, emptying, FindsHeld, idle, IsIdle, Mapped, Moves, Performs, pruning, Resettles, ResettlesEach, rewriting, TurnsAway}
use Rattle.ksm_book.specs.Folded.{visits_beside}
use Rattle.ksm_book.specs.Whole.{BookValue, BookView, mapped, nodes_got, HasShown, view_of}

-- a page with a frame of its own is stored to in place, a merged or Zero one gets a new frame first
abbrev pub StoresTo : Mapped → Mapped → List ℕ → Row → Type 0
StoresTo v w bytes row =
    MatchBool (shared_state row.state)
    (Resettles v w row.page row.home bytes)
    (Performs v w (rewriting v.frame row.page bytes))

-- a page that moves to another node gets a new frame there
abbrev pub MovesTo : Mapped → Mapped → ℕ → Row → Type 0
MovesTo v w node row = MatchBool (row.home == node) (IsIdle v w) (Resettles v w row.page node row.bytes)

-- what n visits do to the frames, one after another
abbrev pub scanning : ℕ → BookState → Frames → Deed
scanning n b frame = (visits_beside n (b, idle frame)).1

-- these rows are resettled, one after another; where there was a stop, no frame was found for the next
abbrev pub UnmergesTo : List Row → Option Fault → Mapped → Mapped → Type 0
UnmergesTo rows None v w = ResettlesEach rows v w
UnmergesTo rows (Some (NoFrame node)) v w = (between : Mapped) × ResettlesEach rows v between × TurnsAway between w node
UnmergesTo rows (Some fault) v w = ⊥

-- a knob that gets another value: the stale dups go first
abbrev pub PrunesUnless : BookView → BookView → ℕ → ℕ → Type 0
PrunesUnless v w value knob =
    MatchBool (value == knob)
    (IsIdle (mapped v) (mapped w))
    (Performs (mapped v) (mapped w) (pruning v.state.rows v.state.dups v.frame))

-- the steps of each command and answer, in their order, and no others; of all that is not listed there are none
abbrev pub TakesSteps : BookView → BookView → Command → Answer → Type 0
TakesSteps v w (Register page node bytes) (Ok Done) = Admits (mapped v) (mapped w) page node bytes
TakesSteps v w (Drop page) (Ok Done) = Performs (mapped v) (mapped w) (emptying v.frame page)
TakesSteps v w (Store page bytes) (Ok Done) =
    MatchOption (row_at page v.state.rows) ⊥ (StoresTo (mapped v) (mapped w) bytes)
TakesSteps v w (Scan n) (Ok (Scanned made stop)) = Performs (mapped v) (mapped w) (scanning made v.state v.frame)
TakesSteps v w Prune (Ok (Pruned count)) = Performs (mapped v) (mapped w) (pruning v.state.rows v.state.dups v.frame)
TakesSteps v w (Unmerge guest) (Ok (Unmerged k stop)) =
    UnmergesTo (take k (shared_rows (is_of guest) v.state)) stop (mapped v) (mapped w)
TakesSteps v w (MovePage page node) (Ok Done) =
    MatchOption (row_at page v.state.rows) ⊥ (MovesTo (mapped v) (mapped w) node)
TakesSteps v w (MoveDup place node) (Ok Done) =
    MatchOption (live_dup_at v.state place) ⊥ (λ d. Moves (mapped v) (mapped w) v.state.rows d node)
TakesSteps v w (MoveDup place node) (Err InUse) =
    MatchOption (live_dup_at v.state place) ⊥ (λ d. FindsHeld (mapped v) (mapped w) v.state.rows d node)
TakesSteps v w (SetRun run) (Ok (Unmerged k stop)) =
    UnmergesTo (take k (shared_rows every_row v.state)) stop (mapped v) (mapped w)
TakesSteps v w (SetAcross across) (Ok Done) = PrunesUnless v w across v.state.knobs.merge_across_nodes
TakesSteps v w (SetLimit limit) (Ok Done) = PrunesUnless v w limit v.state.knobs.max_page_sharing
TakesSteps v w command (Err (NoFrame node)) = TurnsAway (mapped v) (mapped w) node
TakesSteps v w command answer = IsIdle (mapped v) (mapped w)

-- the command was carried out, and answered so
pub record IsCarried (v w : BookView) (command : Command) (given : Answer) : Type 0 where
  -- the answer is one that the state allows, or says that memory was refused
  pub answer : IsAnswerOrMemory v.state command given
  -- the state after it
  pub state : w.state ≡ after v.state command given
  -- the steps that it made, and no others, and the frame of each page after them
  pub steps : TakesSteps v w command given

-- the same, and what follows from its steps: the table kept, the frames given, and what the log shows of the answer
pub record CarriedOut (v w : BookView) (command : Command) (given : Answer) : Type 0 where
  -- the command was carried out
  pub done : IsCarried v w command given
  -- the keeper is of the same table
  pub own : w.keeper.table ≡ v.keeper.table
  -- the frames that it gave: the lowest free one of each node on which it needed one and got it
  pub frames : AllocatesOn v.keeper w.keeper (nodes_got v.state given command)
  -- what the log shows of no frame, in use, and a dup that moved
  pub shown : HasShown v.state v.keeper w.keeper given command

-- a command was carried out, as the values of books tell
abbrev pub CarriesOut : BookValue → BookValue → Command → Answer → Type 0
CarriesOut old new = IsCarried (view_of old) (view_of new)

-- what contracts see of a book: its state, where its pages lie, the keeper of the frames, and its journal, with whether
-- the entries are kept
pub record JournaledBook : Type 0 where
  pub state : BookState
  pub lodgings : List Lodging
  pub keeper : KeeperView
  pub journal : List Entry
  pub is_kept : Bool

-- a book without its journal
abbrev pub unjournaled : JournaledBook → BookView
unjournaled b = record { state = b.state; frame = frame_of b.lodgings; keeper = b.keeper }
