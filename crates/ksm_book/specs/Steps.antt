-- Steps of the keeper, the part of its log that it adds in a call, and the frames that it gives in it: one that is found,
-- and one that is filled (own).
use Rattle.std.specs.Prelude.{Bool, false, filter, List, map, None, Option, Some, true, [], ℕ, ◌*◌, ◌++◌, ◌+◌, ◌<◌, ◌∷◌, ◌≡◌, ◌≤◌}
use Rattle.std.specs.List.{range_with_len}
use Rattle.ksm_book.specs.Terms.{Dying, frame_at, Free, KeeperStep, KeeperView, Kind, Ledger, ledger_after, Open, Put, Raise, Reap, Shape, Word}

-- steps of the keeper, each with the word that it found
abbrev pub Log : Type 0
Log = List (KeeperStep × ℕ)

abbrev pub free_kind : Kind → Bool
free_kind Free = true
free_kind _ = false

abbrev pub dying_kind : Kind → Bool
dying_kind Dying = true
dying_kind _ = false

-- what the keeper knows after these steps
abbrev pub replayed : Shape → Ledger → Log → Ledger
replayed sh k [] = k
replayed sh k (e ∷ es) = replayed sh (ledger_after sh k e.0 e.1) es

-- the steps alone, without the words that they found
abbrev pub steps_of : Log → List KeeperStep
steps_of part = map (λ e. e.0) part

-- the keeper once it has made these steps
abbrev pub stepped : KeeperView → Log → KeeperView
stepped v part = record v { ledger = replayed v.table.shape v.ledger part; log = v.log ++ part }

-- the keeper went from v to w by these steps in this order, and by no others
pub record MakesSteps (v w : KeeperView) (steps : List KeeperStep) : Type 0 where
  pub part : Log
  pub after : w ≡ stepped v part
  pub are : steps_of part ≡ steps

-- the dying ones of so many frames from low on, ascending
abbrev pub dying_from : Ledger → ℕ → ℕ → List ℕ
dying_from k low count = filter (λ f. dying_kind (frame_at k f).kind) (range_with_len low count)

-- the dying frames of a node, ascending
abbrev pub dying_on : Shape → Ledger → ℕ → List ℕ
dying_on sh k node = dying_from k (node * sh.frames_per_node) sh.frames_per_node

-- none of the frames from low on and below high is of this kind
abbrev pub NoneOf : (Kind → Bool) → Ledger → ℕ → ℕ → Type 0
NoneOf asked k low high = (f : ℕ) → low ≤ f → f < high → asked (frame_at k f).kind ≡ false

-- f is the first that is
pub record IsFirstOf (asked : Kind → Bool) (k : Ledger) (low high f : ℕ) : Type 0 where
  pub low_is : low ≤ f
  pub high_is : f < high
  pub there : asked (frame_at k f).kind ≡ true
  pub least : NoneOf asked k low f

-- no frame of the node is free
abbrev pub HasNoFree : Shape → Ledger → ℕ → Type 0
HasNoFree sh k node = NoneOf free_kind k (node * sh.frames_per_node) (node * sh.frames_per_node + sh.frames_per_node)

-- f is the lowest free frame of the node
abbrev pub IsLowestFree : Shape → Ledger → ℕ → ℕ → Type 0
IsLowestFree sh k node =
    IsFirstOf free_kind k (node * sh.frames_per_node) (node * sh.frames_per_node + sh.frames_per_node)

-- the frame that a step gives
abbrev pub given_by : KeeperStep → Option ℕ
given_by (Raise f) = Some f
given_by _ = None

-- a frame is given only where one is needed, and it is the lowest free one of the node
abbrev pub IsNeeded : Shape → Ledger → List ℕ → Option ℕ → Type 0
IsNeeded sh k [] (Some f) = ⊥
IsNeeded sh k (node ∷ nodes) (Some f) = IsLowestFree sh k node f
IsNeeded sh k nodes None = Unit {0}

-- the nodes on which frames are still needed
abbrev pub needed_after : List ℕ → Option ℕ → List ℕ
needed_after [] given = []
needed_after (node ∷ nodes) (Some f) = nodes
needed_after (node ∷ nodes) None = node ∷ nodes

-- the frames given by these steps are the lowest free ones of the nodes listed, one for each
abbrev pub Gives : Shape → Ledger → List ℕ → Log → Type 0
Gives sh k nodes [] = nodes ≡ []
Gives sh k nodes (e ∷ es) =
    IsNeeded sh k nodes (given_by e.0)
    × Gives sh (ledger_after sh k e.0 e.1) (needed_after nodes (given_by e.0)) es

-- the keeper went from v to w by this part of its log, which gave a frame on each of the nodes
pub record Allocates (v w : KeeperView) (nodes : List ℕ) (part : Log) : Type 0 where
  pub table : w.table ≡ v.table
  pub log : w.log ≡ v.log ++ part
  pub ledger : w.ledger ≡ replayed v.table.shape v.ledger part
  pub gives : Gives v.table.shape v.ledger nodes part

-- the keeper went from v to w, and gave a frame on each of the nodes
abbrev pub AllocatesOn : KeeperView → KeeperView → List ℕ → Type 0
AllocatesOn v w nodes = (part : Log) × Allocates v w nodes part

-- a step for each of these words, from word i on
abbrev pub along : (ℕ → ℕ → KeeperStep × ℕ) → ℕ → List ℕ → Log
along step i [] = []
along step i (w ∷ ws) = step i w ∷ along step (i + 1) ws

-- a store of each of these words to frame f, from word i on
abbrev pub puts : ℕ → ℕ → List ℕ → Log
puts f = along (λ i w. (Put f i w, 0))

-- a load of each word of frame f, from word i on, which found these
abbrev pub loads : ℕ → ℕ → List ℕ → Log
loads f = along (λ i w. (Word f i, w))

-- a node was searched in vain: each dying frame of it was reaped, ascending, and none is free
pub record FindsNone (v w : KeeperView) (node : ℕ) : Type 0 where
  pub reaped : MakesSteps v w (map Reap (dying_on v.table.shape v.ledger node))
  pub none : HasNoFree v.table.shape w.ledger node

-- a free frame of a node was found: each dying one of it was reaped, ascending, and this is the lowest free one then
pub record Finds (v w : KeeperView) (node frame : ℕ) : Type 0 where
  pub reaped : MakesSteps v w (map Reap (dying_on v.table.shape v.ledger node))
  pub lowest : IsLowestFree v.table.shape w.ledger node frame

-- a frame of one's own: one of the node is found, raised, stored to word by word, and opened
pub record Provides (v w : KeeperView) (node : ℕ) (bytes : List ℕ) (frame : ℕ) : Type 0 where
  pub searched : KeeperView
  pub finds : Finds v searched node frame
  pub fills : MakesSteps searched w (Raise frame ∷ (steps_of (puts frame 0 bytes) ++ Open frame ∷ []))
