-- Rows of counters, which readers are shown with no lock (own).
use Rattle.std.specs.Prelude.{◌≡◌, ◌⊎◌, ◌<◌, ℕ, List, [], ◌∷◌, ◌++◌, length, Option, Some, None}
use mathlib.Core.List.{IsPrefix}
use mathlib.Core.Option.{some}
use lib.ListN.{get_elem?}
use Rattle.ksm_base.specs.declared.counters.Counters.{Counters}
use Rattle.ksm_base.specs.Counting.{counters_of}
use Rattle.ksm_base.specs.Journal.{Entry, AreAnswers, replay}
use Rattle.ksm_base.specs.State.{BookState, opening}
use Rattle.ksm_shared.specs.declared.row.Row.{Row}
use Rattle.ksm_shared.specs.declared.row.Sight.{Sight}
use Rattle.ksm_shared.specs.Chained.{Reached}
use Rattle.ksm_shared.specs.Named.{PartsId}

-- counters, and the beginning of the journal after which they stand
pub record ShownRow : Type 0 where
  pub counters : Counters
  pub reached : Reached

-- the row of a book in this state, after this beginning of its journal
abbrev pub row_at : BookState → Reached → ShownRow
row_at b reached = record { counters = counters_of b; reached = reached }

-- The counters of these parts after a legal journal, which is a beginning of theirs. Parts without readers show nobody
-- a row, so there its counters may be any.
pub record IsRowOf (parts : PartsId) (x : ShownRow) : Type 0 where
  pub logbook : x.reached.logbook ≡ parts.logbook
  pub legal : AreAnswers (opening parts.frames.shape) x.reached.journal
  pub counters : 0 < parts.readers → x.counters ≡ counters_of (replay (opening parts.frames.shape) x.reached.journal)

-- nothing was seen yet
abbrev pub nothing_seen : PartsId → Reached
nothing_seen parts = record { logbook = parts.logbook; journal = [] }

-- what a seat has seen before its first step
abbrev pub no_sight : PartsId → Sight
no_sight parts = record { reached = nothing_seen parts; looks = [] }

-- the rule of the rows: what was seen begins the journal of the row shown
abbrev pub RowsGoOn : PartsId → ShownRow → List Sight → Type 0
RowsGoOn parts x sights = IsRowOf parts x
    × ((seat : ℕ) (v : Sight) → get_elem? sights seat ≡ some v → IsPrefix v.reached.journal x.reached.journal
    × (v.reached.logbook ≡ parts.logbook))

-- the row y is shown: its journal begins with what was seen, and is seen now
abbrev pub Shows : PartsId → Sight → ShownRow → ShownRow → Sight → Type 0
Shows parts v x y w = IsRowOf parts y × IsPrefix v.reached.journal y.reached.journal
    × (w ≡ record { reached = y.reached; looks = v.looks })

-- the number and the counters of a row that is shown
abbrev pub row_of : ShownRow → Row
row_of y = record { number = length y.reached.journal; counters = y.counters }

-- A look at the row that is shown at this step, the newest one published before it: the log has one entry more
abbrev pub Looks : PartsId → Sight → ShownRow → ShownRow → Sight → Type 0
Looks parts v x y w = IsRowOf parts y × IsPrefix v.reached.journal y.reached.journal
    × (w ≡ record { reached = y.reached; looks = v.looks ++ row_of y ∷ [] })

-- what contracts see of a reader: the longest beginning of the journal that it was shown or has learnt of, and for each
-- of its looks the row that was then the newest one published
pub record ReaderView : Type 0 where
  pub journal : List Entry
  pub looks : List Row

-- a reader that has not looked
abbrev pub new_reader : ReaderView
new_reader = record { journal = []; looks = [] }

-- The reader looked once. The row that it shows is the one it then found, or the reader knew of a later one.
pub record Looked (old : ReaderView) (row : Row) (new : ReaderView) : Type 0 where
  pub found : Row
  pub log : new.looks ≡ old.looks ++ found ∷ []
  pub newest : (row ≡ found) ⊎ ((found.number < length old.journal) × (new.journal ≡ old.journal))

-- the entries of an optional one
abbrev pub list_of : Option Entry → List Entry
list_of None = []
list_of (Some e) = e ∷ []

-- the row tells how many entries the journal has, and the counters after them; the journal is a legal one of these
-- parts
pub record Tells (parts : PartsId) (row : Row) (journal : List Entry) : Type 0 where
  pub legal : AreAnswers (opening parts.frames.shape) journal
  pub number : row.number ≡ length journal
  pub counters : row.counters ≡ counters_of (replay (opening parts.frames.shape) journal)
