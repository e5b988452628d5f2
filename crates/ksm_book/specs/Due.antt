-- Passes that visit only the pages that are due: what waits, and would wait again, is left as it is (own).
use Rattle.std.specs.Prelude.{◌≡◌, ◌⊎◌, ℕ, Bool, true, false, not, ◌&&◌, All, List, count_by, map, Option, Some, None, is_none, if◌then◌else◌}
use Rattle.ksm_book.specs.Terms.{after_cursor, best_dup, BookState, change_row, change_rows, Command, comes_before, GuestPage, has_item, is_for_zero, is_restless, partner, pass_begun, Row, row_at, same_page, Scan, SetAcross}
use Rattle.ksm_book.specs.Terms.{settled, Spot, Store, waiting_state}
use Rattle.ksm_book.specs.Commands.{Performs}
use Rattle.ksm_book.specs.Folded.{Stage, pages_visited, visited}
use Rattle.ksm_book.specs.Scanned.{Reached, ahead_before, ahead_up_to, up_to}
use Rattle.ksm_book.specs.Whole.{BookValue, BookView, mapped, view_of}
use Rattle.ksm_book.specs.declared.due.Reach.{Reach}
use Rattle.ksm_book.specs.declared.due.Reach.TheVariants.{Before, Everywhere, Nowhere, UpTo}

-- the pages that are due; whether all of them are known; and whether they are, and stand in order; how far the pass has
-- gone; and how many rows that say that they wait it has not gone by
pub record DueView : Type 0 where
  pub pages : List GuestPage
  pub known : Bool
  pub ready : Bool
  pub reach : Reach
  pub later : ℕ

-- whether the pass has gone by a page
abbrev pub has_gone_by : Reach → GuestPage → Bool
has_gone_by Nowhere page = false
has_gone_by (UpTo last) page = not (comes_before last page)
has_gone_by (Before next) page = comes_before page next
has_gone_by Everywhere page = true

-- a pass has gone by the pages up to its cursor, or by none
abbrev pub reach_at : Option GuestPage → Reach
reach_at None = Nowhere
reach_at (Some page) = UpTo page

-- it goes on to the last one, or to the end
abbrev pub reach_to : Option GuestPage → Reach
reach_to None = Everywhere
reach_to (Some page) = UpTo page

-- the book as it is: of the rows that say that they wait those do that the pass has gone by
abbrev pub so_far : Reach → BookState → BookState
so_far reach b = record b { rows = change_rows (λ r. not (has_gone_by reach r.page)) settled b.rows }

-- the same of a book with its frames
abbrev pub shown : DueView → BookValue → BookValue
shown due v = record v { state = so_far due.reach v.state }

-- a row says that it waits, and the pass has not gone by it
abbrev pub waits_later : Reach → Row → Bool
waits_later reach r = waiting_state r.state && not (has_gone_by reach r.page)

-- of such rows there are so many
abbrev pub CountsLater : DueView → BookState → Type 0
CountsLater due b = due.later ≡ count_by (waits_later due.reach) b.rows

-- a pass over what is due may go on beside the command, or begin behind it
abbrev pub goes_on_beside : Command → Bool
goes_on_beside (Store page bytes) = true
goes_on_beside (Scan visits) = true
goes_on_beside (SetAcross across) = true
goes_on_beside command = false

-- from here on a pass may go on over what is due alone: it begins, or has gone by the pages up to the cursor
abbrev pub MayGoOn : DueView → BookState → Type 0
MayGoOn due b = (b.cursor ≡ None) ⊎ (due.reach ≡ reach_at b.cursor)

-- the pages of spots
abbrev pub pages_of : List Spot → List GuestPage
pages_of spots = map (λ s. s.page) spots

-- the first of the pages behind a cursor; where none is found, none is there
abbrev pub FindsFirst : Option GuestPage → List GuestPage → Option GuestPage → Type 0
FindsFirst cursor pages None = All (λ p. after_cursor cursor p ≡ false) pages
FindsFirst cursor pages (Some page) =
    (has_item page pages ≡ true) × (after_cursor cursor page ≡ true)
    × All (λ p. after_cursor cursor p ≡ true → comes_before p page ≡ false) pages

-- the same up to the last one
abbrev pub FindsFirstUpTo : Option GuestPage → Option GuestPage → List GuestPage → Option GuestPage → Type 0
FindsFirstUpTo last cursor pages None = All (λ p. after_cursor cursor p ≡ true → up_to last p ≡ false) pages
FindsFirstUpTo last cursor pages (Some page) = (up_to last page ≡ true) × FindsFirst cursor pages (Some page)

-- a row that waits would wait again: its bytes have stayed, they do not merge with the zero page, and no dup is there that
-- it may join
abbrev pub waits_on : BookState → Row → Bool
waits_on b r =
    waiting_state r.state && r.unchanged && not (is_for_zero b.knobs r) && is_none (best_dup b.knobs b.rows b.dups r)

-- each row that a visit may change is of one of these pages, or waits on
abbrev pub AreDue : BookState → List GuestPage → Type 0
AreDue b pages = All (λ r. is_restless r ≡ true → has_item r.page pages ≡ false → waits_on b r ≡ true) b.rows

-- where it is known which pages are due, it is these
abbrev pub TellsDue : DueView → BookState → Type 0
TellsDue due b = due.known ≡ true → AreDue b due.pages

-- there is a row, and it comes after the page
abbrev pub comes_later : GuestPage → Option Row → Bool
comes_later page None = false
comes_later page (Some w) = comes_before page w.page

-- a row that a visit may change is to wait, and one further on waits for it, which the pass has not come to
abbrev pub takes_over : BookState → Row → Bool
takes_over b row =
    is_restless row && is_none (best_dup b.knobs b.rows b.dups row) && row.unchanged
    && not (is_for_zero b.knobs row) && comes_later row.page (partner b.knobs b.rows row)

-- the book once a row, if one is given, waits no more
abbrev pub freed : BookState → Option Row → BookState
freed b None = b
freed b (Some w) = record b { rows = change_row w.page settled b.rows }

-- after the visit of a row where rows further on still wait: what waits for a row that takes over does so no more
abbrev pub due_row_visited : Stage → Option Row → Stage
due_row_visited s None = s
due_row_visited s (Some row) =
    visited (if takes_over s.0 row then (freed s.0 (partner s.0.knobs s.0.rows row), s.1) else s) (Some row)

-- the same for the row of a page
abbrev pub due_visited : Stage → GuestPage → Stage
due_visited s page = due_row_visited s (row_at page s.0.rows)

-- the book as it is where no row from a page on waits
abbrev pub hidden_from : GuestPage → BookState → BookState
hidden_from page b = record b { rows = change_rows (λ r. not (comes_before r.page page)) settled b.rows }

-- whether a page is the one that waits
abbrev pub names : GuestPage → Option GuestPage → Bool
names page None = false
names page (Some waiting) = same_page waiting page

-- the visits of the pages ahead up to the last one, or of all of them, where a pass begins or goes on
abbrev pub part_visited : Option GuestPage → Stage → Stage
part_visited last s = let t : Stage = (pass_begun s.0, s.1) in pages_visited t (ahead_up_to last t.0)

-- those of the pages ahead that come before one
abbrev pub part_before : GuestPage → Stage → Stage
part_before page s = let t : Stage = (pass_begun s.0, s.1) in pages_visited t (ahead_before page t.0)

-- whatever was reached before, nothing changed but which rows from a page on wait
abbrev pub StaysBefore : GuestPage → BookValue → BookValue → Type 0
StaysBefore page old new = (from : BookValue) (s : Stage) → Reached from old s
    → (hidden_from page new.state ≡ hidden_from page s.0) × Performs (mapped (view_of from)) (mapped (view_of new)) s.1

-- the row of a page is to wait in the stead of that of another page
pub record TakesOver (b : BookState) (page other : GuestPage) : Type 0 where
  pub row : Row
  pub found : row_at page b.rows ≡ Some row
  pub takes : takes_over b row ≡ true
  -- the row that waits for it
  pub waiter : Row
  pub waits : partner b.knobs b.rows row ≡ Some waiter
  pub is : other ≡ waiter.page

-- the book with other rows
abbrev pub with_rows : BookView → List Row → BookView
with_rows v rows = record v { state = record v.state { rows = rows } }
