-- What a scan asks of the book's inside, and what its parts come to (own).
use Rattle.std.specs.Prelude.{◌≡◌, ℕ, ◌+◌, ◌-◌, ◌^◌, ◌<◌, ◌≤◌, Bool, true, false, not, ◌==◌, All, List, filter, min, Option, Some, None}
use Rattle.ksm_book.specs.Terms.{after_cursor, Ahead, At, BookState, comes_before, End, Find, FindsAt, FindsNext, GuestPage, has_item, HasRow, is_restless, mergeable_pages, pages_between, PagesView}
use Rattle.ksm_book.specs.Terms.{Row, row_visited}
use Rattle.ksm_book.specs.Commands.{Performs, row_visiting}
use Rattle.ksm_book.specs.Whole.{BookValue, BookView, mapped, view_of}
use Rattle.ksm_book.specs.Folded.{IsStill, Stage, begun, pages_ahead, visits_beside}
use Rattle.ksm_book.specs.declared.visiting.Visited.{Visited}
use Rattle.ksm_book.specs.declared.visiting.Visited.TheVariants.{Same, Changed, Shared, Gone}

-- it came to this book, and this was done to the frames
abbrev pub Reached : BookValue → BookValue → Stage → Type 0
Reached old new s = (new.state ≡ s.0) × Performs (mapped (view_of old)) (mapped (view_of new)) s.1

-- whatever was reached before, this is reached then
abbrev pub Comes : BookValue → BookValue → (Stage → Stage) → Type 0
Comes old new change = (from : BookValue) (s : Stage) → Reached from old s → Reached from new (change s)

-- whatever was reached before, this changes nothing but which rows wait
abbrev pub StaysStill : BookValue → (Stage → Stage) → Type 0
StaysStill old change = (from : BookValue) (s : Stage) → Reached from old s → IsStill s (change s)

-- what is seen of the pages of a book
abbrev pub pages_seen : BookView → PagesView
pages_seen v = record {
  shape = v.state.shape;
  rows = v.state.rows;
  frame = v.frame;
  dups = v.state.dups;
  knobs = v.state.knobs;
  next = v.state.next;
}

-- a visit finds this of the row of a page, and changes nothing by that
abbrev pub FindsStill : BookView → GuestPage → Find → Type 0
FindsStill v page found = HasRow page v.state.rows (λ r. FindsAt (pages_seen v) (pages_seen v) r found)

-- these visits were made
pub record HasVisited (old new : BookValue) (visits : Stage → Stage) (quiet : Bool) : Type 0 where
  -- whatever was reached before, what they make of it is reached then
  pub comes : Comes old new visits
  -- where they are told to be quiet they change nothing but which rows wait
  pub still : quiet ≡ true → StaysStill old visits

-- the row of a page was visited
abbrev pub VisitsPage : BookView → BookView → GuestPage → Type 0
VisitsPage v w page =
    HasRow page v.state.rows
    (λ r. (w.state ≡ row_visited v.state r) × Performs (mapped v) (mapped w) (row_visiting v.state v.frame r))

-- the page does not come behind the last one; where there is no last one, none does
abbrev pub up_to : Option GuestPage → GuestPage → Bool
up_to None page = true
up_to (Some last) page = not (comes_before last page)

-- the pages ahead up to the last one, or all of them
abbrev pub ahead_up_to : Option GuestPage → BookState → List GuestPage
ahead_up_to last b = filter (up_to last) (pages_ahead b)

-- the pages ahead that come before one
abbrev pub ahead_before : GuestPage → BookState → List GuestPage
ahead_before page b = pages_between b.cursor page (mergeable_pages b.rows)

-- so many passes have ended; the count stays at the greatest number of 64 bits
abbrev pub passes_ended : ℕ → BookState → BookState
passes_ended count b = record b { cursor = None; passes = min (b.passes + count) (2 ^ 64 - 1) }

-- no visit is made in this pass
abbrev pub is_nowhere : Ahead → Bool
is_nowhere (At page) = false
is_nowhere (End made) = made == 0

-- the page of the last visit, where the pass does not end with it
abbrev pub last_visited : Ahead → Option GuestPage
last_visited (At page) = Some page
last_visited (End made) = None

-- a search behind a cursor, up to the last one, for a page that a visit may change
abbrev pub FindsUpTo : Option GuestPage → Option GuestPage → List Row → Option GuestPage → Type 0
FindsUpTo last cursor rows None =
    All (λ r. is_restless r ≡ true → after_cursor cursor r.page ≡ true → up_to last r.page ≡ false) rows
FindsUpTo last cursor rows (Some page) = (up_to last page ≡ true) × FindsNext cursor rows (Some page)

-- a visit changed nothing but which rows wait
abbrev pub is_quiet : Visited → Bool
is_quiet Same = true
is_quiet Changed = false
is_quiet Shared = false
is_quiet Gone = true

-- the visits of the pages ahead up to the last one, or of all of them, stopped before a page
pub record Stops (old new : BookValue) (last : Option GuestPage) (page : GuestPage)
    (visits : Stage → Stage) : Type 0 where
  -- it is one of them
  pub within : up_to last page ≡ true
  pub ahead : has_item page (pages_ahead old.state) ≡ true
  -- those before it were visited
  pub comes : Comes old new visits

-- so many visits were made
pub record GoesOn (old new : BookValue) (most made : ℕ) : Type 0 where
  -- one at least, and no more than were wanted
  pub some : 1 ≤ made
  pub fit : made ≤ most
  -- they did what the definitions say
  pub comes : Comes old new (visits_beside made)

-- memory stopped the visits once so many were made
pub record StopsShort (old new : BookValue) (most made : ℕ) : Type 0 where
  -- fewer than were wanted
  pub fewer : made < most
  -- and one more had begun
  pub comes : Comes old new (λ s. begun (visits_beside made s))
