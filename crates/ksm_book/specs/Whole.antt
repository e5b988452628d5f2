-- The book with the keeper of its frames, and what a command does with the keeper (own).
use Rattle.std.specs.Prelude.{ℕ, List, [], map, take, option_to_list, Some, Ok, Err}
use Rattle.ksm_book.specs.Terms.{Answer, BookState, Command, Done, every_row, frame_needed, frame_of, Frames, InUse, is_of, KeeperView, Lodging, MoveDup, NoFrame, SetRun, shared_rows, Unmerge}
use Rattle.ksm_book.specs.Terms.{Unmerged}
use Rattle.ksm_book.specs.Steps.{AllocatesOn}
use Rattle.ksm_book.specs.Commands.{Mapped}
use Rattle.ksm_book.specs.Keeping.{HasLost, HasMoved, NoneLeft}

-- what is seen of the book: its state, the frame of each page, and the keeper
pub record BookView : Type 0 where
  pub state : BookState
  pub frame : Frames
  pub keeper : KeeperView

-- the value by which proofs tell such books apart: a list in the place of the function that `BookView` has
pub record BookValue : Type 0 where
  pub state : BookState
  pub lodgings : List Lodging
  pub keeper : KeeperView

abbrev pub view_of : BookValue → BookView
view_of b = record { state = b.state; frame = frame_of b.lodgings; keeper = b.keeper }

-- where each page lies, and the keeper
abbrev pub mapped : BookView → Mapped
mapped v = record { frame = v.frame; keeper = v.keeper }

-- the nodes of the frames that a command needed and got, in order
abbrev pub nodes_got : BookState → Answer → Command → List ℕ
nodes_got b (Ok Done) command = option_to_list (frame_needed b command)
nodes_got b (Ok (Unmerged k stop)) (Unmerge guest) = map (λ r. r.home) (take k (shared_rows (is_of guest) b))
nodes_got b (Ok (Unmerged k stop)) (SetRun v) = map (λ r. r.home) (take k (shared_rows every_row b))
nodes_got b _ _ = []

-- what the keeper's part of the log shows of an answer
abbrev pub HasShown : BookState → KeeperView → KeeperView → Answer → Command → Type 0
HasShown b v w (Err (NoFrame node)) command = NoneLeft v w node
HasShown b v w (Ok (Unmerged k (Some (NoFrame node)))) command =
    (u : KeeperView) × AllocatesOn v u (nodes_got b (Ok (Unmerged k (Some (NoFrame node)))) command) × NoneLeft u w node
HasShown b v w (Err InUse) (MoveDup place node) = HasLost v w
HasShown b v w (Ok Done) (MoveDup place node) = HasMoved v w place node
HasShown b v w _ _ = Unit {0}
