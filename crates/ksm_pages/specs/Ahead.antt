-- Which pages scans visit, which of them are ahead, which is the next that a visit may change, and where so many visits
-- end. (own)
use Rattle.std.specs.Prelude.{◌≡◌, ℕ, ◌-◌, ◌<◌, ◌≤◌, true, false, All, List, [], ◌∷◌, filter, length, map, slice_get, Option, None, Some}
use Rattle.ksm_pages.specs.Terms.{after_cursor, comes_before, GuestPage, Row}
use Rattle.ksm_pages.specs.Paged.{is_restless}
use Rattle.ksm_pages.specs.declared.ahead.Ahead.{Ahead}
use Rattle.ksm_pages.specs.declared.ahead.Ahead.TheVariants.{At, End}

-- the pages that scans visit, in order
abbrev pub mergeable_pages : List Row → List GuestPage
mergeable_pages rows = map (λ r. r.page) (filter (λ r. r.mergeable) rows)

-- those of some pages that come behind a cursor
abbrev pub pages_behind : Option GuestPage → List GuestPage → List GuestPage
pages_behind cursor pages = filter (after_cursor cursor) pages

-- those that come behind a cursor and before a page
abbrev pub pages_between : Option GuestPage → GuestPage → List GuestPage → List GuestPage
pages_between cursor page pages = filter (λ p. comes_before p page) (pages_behind cursor pages)

-- a search behind a cursor for a page that a visit may change: the page found is behind the cursor, and a visit changes no
-- page between the two; where none is found, a visit changes no page behind the cursor
abbrev pub FindsNext : Option GuestPage → List Row → Option GuestPage → Type 0
FindsNext cursor rows None = All (λ r. is_restless r ≡ true → after_cursor cursor r.page ≡ false) rows
FindsNext cursor rows (Some page) =
    (after_cursor cursor page ≡ true)
    × All (λ r. is_restless r ≡ true → after_cursor cursor r.page ≡ true → comes_before r.page page ≡ false) rows

-- the last of some pages, or where there are none the cursor before them
abbrev pub last_of : Option GuestPage → List GuestPage → Option GuestPage
last_of cursor [] = cursor
last_of cursor (page ∷ pages) = last_of (Some page) pages

-- what so many visits of these pages come to: the page of the last visit, where a page is left, or the end of the pass
-- after so many
abbrev pub EndsAt : List GuestPage → ℕ → Ahead → Type 0
EndsAt pages visits (At page) = (visits < length pages) × (slice_get pages (visits - 1) ≡ Some page)
EndsAt pages visits (End made) = (made ≡ length pages) × (made ≤ visits)
