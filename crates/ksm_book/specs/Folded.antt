-- Visits as a fold over pages: which pages a pass still visits, and what the visit of each does to the book and to the
-- frames (own).
use Rattle.std.specs.Prelude.{◌≡◌, ℕ, zero, suc, Bool, false, List, fold, map, Option, Some, None, if◌then◌else◌}
use Rattle.ksm_book.specs.Terms.{BookState, GuestPage, is_restless, mergeable_pages, next_row, pages_behind, Row, row_at, row_visited, settled, visit_begun, visit_ended}
use Rattle.ksm_book.specs.Commands.{Deed, row_visiting, then_doing}

-- the pages that a pass still visits, in order
abbrev pub pages_ahead : BookState → List GuestPage
pages_ahead b = pages_behind b.cursor (mergeable_pages b.rows)

abbrev pub restless_row : Option Row → Bool
restless_row None = false
restless_row (Some r) = is_restless r

-- a visit may change the row of the page
abbrev pub restless_at : GuestPage → List Row → Bool
restless_at page rows = restless_row (row_at page rows)

-- a book, and what was done to the frames so far
abbrev pub Stage : Type 0
Stage = BookState × Deed

-- after the visit of a row
abbrev pub row_done : Stage → Row → Stage
row_done s row = (row_visited s.0 row, then_doing s.1 (row_visiting s.0 s.1.frame row))

-- after the visit of a row, if there is one that a visit may change
abbrev pub visited : Stage → Option Row → Stage
visited s None = s
visited s (Some row) = if is_restless row then row_done s row else s

-- the row of a page is visited, if a visit may change it; the cursor stays
abbrev pub page_visited : Stage → GuestPage → Stage
page_visited s page = visited s (row_at page s.0.rows)

-- so are the rows of some pages, one after another
abbrev pub pages_visited : Stage → List GuestPage → Stage
pages_visited s pages = fold page_visited s pages

-- the visit of the next row, if there is one, with what it does to the frames
abbrev pub next_visited : Stage → Option Row → Stage
next_visited s None = s
next_visited s (Some row) = let t = row_done s row in (visit_ended t.0 row.page, t.1)

-- a visit begins
abbrev pub begun : Stage → Stage
begun s = (visit_begun s.0, s.1)

-- n visits, with what they do to the frames: of the first part they are `visits`
abbrev pub visits_beside : ℕ → Stage → Stage
visits_beside zero s = s
visits_beside (suc n) s =
    let t = begun (visits_beside n s) in
    next_visited t (next_row t.0.cursor t.0.rows)

-- nothing changed but which rows wait, and nothing was done to the frames
pub record IsStill (old new : Stage) : Type 0 where
  pub rest : new.0 ≡ record old.0 { rows = new.0.rows }
  pub rows : map settled new.0.rows ≡ map settled old.0.rows
  pub beside : new.1 ≡ old.1
