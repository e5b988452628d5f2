-- What is read from the book without a command. Own, but for the reverse map (mm/ksm, reverse mapping of a stable node).
use Rattle.std.specs.Prelude.{ℕ, List, map, filter, Option, None, option_map, option_and_then}
use Rattle.ksm_base.specs.declared.page.GuestPage.{GuestPage}
use Rattle.ksm_base.specs.declared.row.PageState.{PageState}
use Rattle.ksm_base.specs.declared.row.PageState.TheVariants.{Merged}
use Rattle.ksm_base.specs.declared.row.Row.{Row}
use Rattle.ksm_base.specs.declared.row.DupRow.{DupRow}
use Rattle.ksm_base.specs.Rows.{row_at, merged_into, dup_numbered}
use Rattle.ksm_base.specs.State.{BookState}
use Rattle.ksm_base.specs.Refusals.{live_dup_at}

-- the bytes of a page; none where it has no row
abbrev pub bytes_of : GuestPage → BookState → Option (List ℕ)
bytes_of page b = option_map (λ r. r.bytes) (row_at page b.rows)

-- the place of the dup into which a row in this state is merged
abbrev pub place_of : PageState → List DupRow → Option ℕ
place_of (Merged number) dups = option_map (λ d. d.place) (dup_numbered number dups)
place_of state dups = None

-- the place of the dup into which a page is merged; none where it has no row or isn't merged
abbrev pub ticket_of : GuestPage → BookState → Option ℕ
ticket_of page b = option_and_then (λ r. place_of r.state b.dups) (row_at page b.rows)

-- the items of a dup: the pages merged into it, ascending
abbrev pub items_of : List Row → DupRow → List GuestPage
items_of rows d = map (λ r. r.page) (filter (λ r. merged_into d.number r.state) rows)

-- the items of the dup at a place; none where no dup with items stands there
abbrev pub mappers_of : ℕ → BookState → Option (List GuestPage)
mappers_of place b = option_map (items_of b.rows) (live_dup_at b place)
