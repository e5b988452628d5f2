-- Commands as steps of the keeper: what each part of a command does to the frames, in order, and on which frame each page
-- lies after it (own). Carried.antt says which of them each command and answer make.
use Rattle.std.specs.Prelude.{Bool, false, filter, find, if◌then◌else◌, List, map, None, Option, option_and_then, replicate, Some, [], ℕ, ◌++◌, ◌-◌, ◌==◌, ◌∷◌, ◌≡◌}
use Rattle.std.specs.List.{list_any}
use Rattle.ksm_book.specs.Terms.{Add, best_dup, BookState, did, DupRow, Dying, frame_at, Frames, Freeze, GuestPage, is_for_zero, is_stale, item_count, KeeperStep, KeeperView, lies_on, merged_into}
use Rattle.ksm_book.specs.Terms.{new_place, Open, partner, place_count, Publish, Raise, Row, shared_state, Stable, Sub, Withdraw}
use Rattle.ksm_book.specs.Steps.{Finds, FindsNone, loads, MakesSteps, Provides, puts, steps_of}

-- where each page lies, and the keeper of the frames
pub record Mapped : Type 0 where
  pub frame : Frames
  pub keeper : KeeperView

-- the number of the frame of a page that has one
abbrev pub frame_number : Option ℕ → ℕ
frame_number None = 0
frame_number (Some frame) = frame

-- the frame of the dup with this number: its first item lies on it, and so do all
abbrev pub dup_frame : Frames → List Row → ℕ → ℕ
dup_frame frame rows number =
    frame_number (option_and_then (λ r. frame r.page) (find (λ r. merged_into number r.state) rows))

-- the frame is this one
abbrev pub is_frame : ℕ → Option ℕ → Bool
is_frame f None = false
is_frame f (Some g) = g == f

-- frame g in the stead of f
abbrev pub instead : ℕ → ℕ → Frames → Frames
instead f g frame = λ page. if is_frame f (frame page) then Some g else frame page

-- a page leaves the frame that it had, if it had one
abbrev pub leaving : Option ℕ → List KeeperStep
leaving None = []
leaving (Some frame) = Sub frame ∷ []

-- no step was made, and each page lies where it lay
pub record IsIdle (v w : Mapped) : Type 0 where
  pub keeper : w.keeper ≡ v.keeper
  pub frame : w.frame ≡ v.frame

-- a node was searched in vain, and each page lies where it lay
pub record TurnsAway (v w : Mapped) (node : ℕ) : Type 0 where
  pub searched : FindsNone v.keeper w.keeper node
  pub frame : w.frame ≡ v.frame

-- a new page comes, on a frame of a node with its bytes
pub record Admits (v w : Mapped) (page : GuestPage) (node : ℕ) (bytes : List ℕ) : Type 0 where
  pub got : ℕ
  pub provides : Provides v.keeper w.keeper node bytes got
  pub frame : w.frame ≡ lies_on page (Some got) v.frame

-- a page gets a frame of a node with these bytes, and leaves the one that it had, if it had one
pub record Resettles (v w : Mapped) (page : GuestPage) (node : ℕ) (bytes : List ℕ) : Type 0 where
  pub got : ℕ
  pub between : KeeperView
  pub provides : Provides v.keeper between node bytes got
  pub leaves : MakesSteps between w.keeper (leaving (v.frame page))
  pub frame : w.frame ≡ lies_on page (Some got) v.frame

-- the pages of these rows are resettled at their homes, one after another
abbrev pub ResettlesEach : List Row → Mapped → Mapped → Type 0
ResettlesEach [] v w = IsIdle v w
ResettlesEach (row ∷ rows) v w =
    (between : Mapped) × Resettles v between row.page row.home row.bytes × ResettlesEach rows between w

-- a raised frame gets the bytes of another and so many references: each word is loaded and each is stored, the frame is
-- opened, and the further references come
abbrev pub mounting : ℕ → ℕ → ℕ → List ℕ → List KeeperStep
mounting left frame count bytes =
    let opening = Open frame ∷ replicate (count - 1) (Add frame) in
    Raise frame ∷ (steps_of (loads left 0 bytes) ++ (steps_of (puts frame 0 bytes) ++ opening))

-- a dup, whose items are among the rows, moves: a frame of the node is found, the exchange of its own frame's count is
-- made, and the one found is mounted in its stead. All its items lie there
pub record Moves (v w : Mapped) (rows : List Row) (dup : DupRow) (node : ℕ) : Type 0 where
  pub got : ℕ
  pub searched : KeeperView
  pub finds : Finds v.keeper searched node got
  pub frozen : KeeperView
  pub freezes : MakesSteps searched frozen (Freeze (dup_frame v.frame rows dup.number) ∷ [])
  -- its own frame is shown until then, and dying after it
  pub stood : (frame_at searched.ledger (dup_frame v.frame rows dup.number)).kind ≡ Stable
  pub exchanged : (frame_at frozen.ledger (dup_frame v.frame rows dup.number)).kind ≡ Dying
  pub mounted : KeeperView
  pub mounts : MakesSteps frozen mounted
      (mounting (dup_frame v.frame rows dup.number) got (item_count rows dup) dup.bytes)
  -- last the place names the one found
  pub named : w.keeper ≡ did mounted (Publish dup.place got) 0
  pub frame : w.frame ≡ instead (dup_frame v.frame rows dup.number) got v.frame

-- a dup's frame is held: a frame of the node was found, and the exchange of the dup's frame's count was tried and not
-- made
pub record FindsHeld (v w : Mapped) (rows : List Row) (dup : DupRow) (node : ℕ) : Type 0 where
  pub got : ℕ
  pub searched : KeeperView
  pub finds : Finds v.keeper searched node got
  pub freezes : MakesSteps searched w.keeper (Freeze (dup_frame v.frame rows dup.number) ∷ [])
  pub kept : (frame_at w.keeper.ledger (dup_frame v.frame rows dup.number)).kind ≡ Stable
  pub frame : w.frame ≡ v.frame

-- steps, in their order, and the frame of each page after them
pub record Deed : Type 0 where
  pub steps : List KeeperStep
  pub frame : Frames

-- the keeper made these steps, and the pages lie on these frames
pub record Performs (v w : Mapped) (deed : Deed) : Type 0 where
  pub made : MakesSteps v.keeper w.keeper deed.steps
  pub frame : w.frame ≡ deed.frame

-- no step
abbrev pub idle : Frames → Deed
idle frame = record { steps = []; frame = frame }

-- bytes are stored to a page's own frame, word by word
abbrev pub rewriting : Frames → GuestPage → List ℕ → Deed
rewriting frame page bytes = record { steps = steps_of (puts (frame_number (frame page)) 0 bytes); frame = frame }

-- a page leaves its frame, if it has one, and has none after it: it goes, or becomes Zero
abbrev pub emptying : Frames → GuestPage → Deed
emptying frame page = record { steps = leaving (frame page); frame = lies_on page None frame }

-- a page joins the dup on a frame: first comes a reference there, then the page leaves its own frame
abbrev pub joining : Frames → GuestPage → ℕ → Deed
joining frame page shared = record {
  steps = Add shared ∷ leaving (frame page);
  frame = lies_on page (Some shared) frame;
}

-- what a place names is withdrawn, where a dup stands there
abbrev pub withdrawing : List DupRow → ℕ → List KeeperStep
withdrawing dups place = if list_any (λ d. d.place == place) dups then Withdraw place ∷ [] else []

-- a new dup of a waiting page and the visited one: a stale dup leaves the place; the place names the waiting page's
-- frame, the visited page gets a reference there and leaves its own
abbrev pub founding : List DupRow → Frames → ℕ → GuestPage → GuestPage → Deed
founding dups frame place waiting page = record {
  steps = withdrawing dups place
      ++ (Publish place (frame_number (frame waiting)) ∷ Add (frame_number (frame waiting)) ∷ leaving (frame page));
  frame = lies_on page (frame waiting) frame;
}

-- the stale dups go, in the order of their places
abbrev pub pruning : List Row → List DupRow → Frames → Deed
pruning rows dups frame = record { steps = map (λ d. Withdraw d.place) (filter (is_stale rows) dups); frame = frame }

-- what a visited page does with the one that waits for it
abbrev pub pairing : Option Row → BookState → Frames → Row → Deed
pairing (Some waiting) b frame row =
    founding b.dups frame (new_place (place_count b.shape) b.rows b.dups) waiting.page row.page
pairing None b frame row = idle frame

-- what a visited page does whose bytes have stayed
abbrev pub staying : BookState → Frames → Row → Deed
staying b frame row =
    if is_for_zero b.knobs row then emptying frame row.page else pairing (partner b.knobs b.rows row) b frame row

-- what a visited page with a frame of its own does with the dup that it may join
abbrev pub handling : Option DupRow → BookState → Frames → Row → Deed
handling (Some d) b frame row = joining frame row.page (dup_frame frame b.rows d.number)
handling None b frame row = if row.unchanged then staying b frame row else idle frame

-- what a visited page does
abbrev pub row_visiting : BookState → Frames → Row → Deed
row_visiting b frame row =
    if shared_state row.state then idle frame else handling (best_dup b.knobs b.rows b.dups row) b frame row

-- one deed after another
abbrev pub then_doing : Deed → Deed → Deed
then_doing first second = record { steps = first.steps ++ second.steps; frame = second.frame }
