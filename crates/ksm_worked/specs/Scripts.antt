-- Worked scripts, by which the definitions are tried: what a line may be, and when a book plays a script. Own.
use Rattle.std.specs.Prelude.{◌≡◌, ℕ, ◌-◌, ◌*◌, ◌^◌, Bool, List, [], ◌∷◌, ◌++◌, Option, None, Some, Ok, Err}
use Rattle.std.specs.List.{repeat}
use Rattle.ksm_base.specs.declared.page.GuestPage.{GuestPage}
use Rattle.ksm_base.specs.declared.page.TheConstants.{PAGE_WORDS}
use Rattle.ksm_base.specs.declared.row.PageState.{PageState}
use Rattle.ksm_base.specs.declared.row.Row.{Row}
use Rattle.ksm_base.specs.declared.row.DupRow.{DupRow}
use Rattle.ksm_base.specs.declared.command.Command.{Command}
use Rattle.ksm_base.specs.declared.command.Command.TheVariants.{Register, Drop, Store, Scan, Prune, Unmerge, SetRun}
use Rattle.ksm_base.specs.declared.reply.Reply.TheVariants.{Done, Scanned, Pruned, Unmerged}
use Rattle.ksm_base.specs.declared.fault.Fault.{Fault}
use Rattle.ksm_base.specs.declared.fault.Fault.TheVariants.{NoFrame}
use Rattle.ksm_base.specs.declared.knobs.Knobs.{Knobs}
use Rattle.ksm_base.specs.declared.counters.Counters.{Counters}
use Rattle.ksm_base.specs.declared.counters.TheConstants.Counters.{NONE}
use Rattle.ksm_base.specs.declared.shape.Shape.{Shape}
use Rattle.ksm_base.specs.Rows.{row_at}
use Rattle.ksm_base.specs.State.{BookState}
use Rattle.ksm_base.specs.Answers.{Answer, IsAnswer}
use Rattle.ksm_base.specs.Apply.{after}
use Rattle.ksm_base.specs.Counting.{counters_of}
use Rattle.ksm_base.specs.Reading.{bytes_of, ticket_of, mappers_of}

-- a line of a script
pub data Line : Type 0 where
  -- a command gives an answer
  gives : Command → Answer → Line
  -- a command may not give an answer, and isn't given here
  never : Command → Answer → Line
  -- the counters of the rows are these
  counts : Counters → Line
  -- a knob has this value
  shows : (Knobs → ℕ) → ℕ → Line
  -- a page has these bytes
  reads : GuestPage → Option (List ℕ) → Line
  -- a page is merged into the dup at this place, or into none
  lies_at : GuestPage → Option ℕ → Line
  -- these pages are merged into the dup with items at a place, if one stands there
  maps : ℕ → Option (List GuestPage) → Line
  -- a page has this row, or none
  rows_at : GuestPage → Option Row → Line
  -- the dups stand so, in the order of their places
  stands : List DupRow → Line

-- a book plays a script: each answer is one that its command may have there, each that
-- never comes is none, and each reading is what the state then shows
abbrev pub Plays : BookState → List Line → Type 0
Plays b [] = Unit {0}
Plays b (gives command answer ∷ later) = IsAnswer b command answer × Plays (after b command answer) later
Plays b (never command answer ∷ later) = (IsAnswer b command answer → ⊥) × Plays b later
Plays b (counts counters ∷ later) = (counters_of b ≡ counters) × Plays b later
Plays b (shows knob value ∷ later) = (knob b.knobs ≡ value) × Plays b later
Plays b (reads page bytes ∷ later) = (bytes_of page b ≡ bytes) × Plays b later
Plays b (lies_at page place ∷ later) = (ticket_of page b ≡ place) × Plays b later
Plays b (maps place pages ∷ later) = (mappers_of place b ≡ pages) × Plays b later
Plays b (rows_at page row ∷ later) = (row_at page b.rows ≡ row) × Plays b later
Plays b (stands dups ∷ later) = (b.dups ≡ dups) × Plays b later

-- a shape of so many nodes and frames a node
abbrev pub shape : ℕ → ℕ → Shape
shape nodes frames = record { nodes = nodes; frames_per_node = frames; passes = 2; last_generation = 2 ^ 40; tries = 8 }

-- a page by its guest and number
abbrev pub at : ℕ → ℕ → GuestPage
at guest page = record { guest = guest; page = page }

-- bytes that are all equal
abbrev pub full : ℕ → List ℕ
full byte = repeat PAGE_WORDS (byte * 0x0101010101010101 ∷ [])

-- bytes that are zero but for the last, which is 1
abbrev pub one_at_the_end : List ℕ
one_at_the_end = repeat (PAGE_WORDS - 1) (0 ∷ []) ++ 0x0100000000000000 ∷ []

-- a command that is done
abbrev pub ok : Command → Line
ok command = gives command (Ok Done)

-- a command that is refused
abbrev pub refused : Fault → Command → Line
refused fault command = gives command (Err fault)

-- a page is registered, full of one byte
abbrev pub reg : ℕ → ℕ → ℕ → ℕ → Line
reg guest page node byte = ok (Register (at guest page) node (full byte))

-- a page is filled with one byte
abbrev pub put : ℕ → ℕ → ℕ → Line
put guest page byte = ok (Store (at guest page) (full byte))

-- a page is dropped
abbrev pub drop : ℕ → ℕ → Line
drop guest page = ok (Drop (at guest page))

-- a scan that makes all its visits
abbrev pub scan : ℕ → Line
scan visits = gives (Scan visits) (Ok (Scanned visits None))

-- so many stale dups are pruned
abbrev pub prune : ℕ → Line
prune count = gives Prune (Ok (Pruned count))

-- a guest is unmerged, so many of its pages from a dup
abbrev pub unmerge : ℕ → ℕ → Line
unmerge guest pages = gives (Unmerge guest) (Ok (Unmerged pages None))

-- an unmerging that stops at a page for which a node has no frame
abbrev pub stopped : Command → ℕ → ℕ → Line
stopped command pages node = gives command (Ok (Unmerged pages (Some (NoFrame node))))

-- so many pages are Zero, the other counters in the order of their line in the program, and nothing else is counted
abbrev pub stat_beside : ℕ → ℕ → ℕ → ℕ → ℕ → ℕ → ℕ → ℕ → Line
stat_beside zeroes shared sharing unshared volatile chains dups full_scans =
    counts (record NONE {
      shared = shared;
      sharing = sharing;
      unshared = unshared;
      volatile = volatile;
      zero = zeroes;
      chains = chains;
      dups = dups;
      full_scans = full_scans;
    })

-- the counters in the order of their line in the program, and no page is Zero
abbrev pub stat : ℕ → ℕ → ℕ → ℕ → ℕ → ℕ → ℕ → Line
stat = stat_beside 0

-- a page is full of one byte
abbrev pub get : ℕ → ℕ → ℕ → Line
get guest page byte = reads (at guest page) (Some (full byte))

-- a page is merged into the dup at a place
abbrev pub ticket : ℕ → ℕ → ℕ → Line
ticket guest page place = lies_at (at guest page) (Some place)

-- a page has a row: its home, the byte that it is full of, whether it is mergeable and unchanged, and its state
abbrev pub lies : ℕ → ℕ → ℕ → ℕ → Bool → Bool → PageState → Line
lies guest page home byte mergeable unchanged state =
    rows_at (at guest page) (Some (record {
      page = at guest page;
      home = home;
      bytes = full byte;
      mergeable = mergeable;
      unchanged = unchanged;
      state = state;
    }))

-- a dup: its number, its place, its tree, and the byte that its page is full of
abbrev pub dup : ℕ → ℕ → ℕ → ℕ → DupRow
dup number place tree byte = record { number = number; place = place; tree = tree; bytes = full byte }

-- two equal pages of guest 0, scanned twice
abbrev pub merged : List Line
merged = reg 0 0 0 0xaa ∷ reg 0 1 0 0xaa ∷ ok (SetRun 1) ∷ scan 4 ∷ []
