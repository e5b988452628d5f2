-- The state of the book, and the changes that several commands make to it.
use Rattle.std.specs.Prelude.{ℕ, ◌+◌, ◌-◌, ◌^◌, min, ◌==◌, List, [], filter, map, Option, None, if◌then◌else◌}
use Rattle.ksm_base.specs.declared.page.GuestPage.{GuestPage}
use Rattle.ksm_base.specs.declared.row.Row.{Row}
use Rattle.ksm_base.specs.declared.row.DupRow.{DupRow}
use Rattle.ksm_base.specs.declared.knobs.Knobs.{Knobs}
use Rattle.ksm_base.specs.declared.shape.Shape.{Shape}
use Rattle.ksm_base.specs.Knobs.{default_knobs}
use Rattle.ksm_base.specs.Values.{frames_of}
use Rattle.ksm_base.specs.Rows.{has_items, settled}

-- what the book knows (own)
pub record BookState : Type 0 where
  -- the sizes, which no command changes
  pub shape : Shape
  -- the rows, in the order of their pages
  pub rows : List Row
  -- the dup rows, in the order of their places
  pub dups : List DupRow
  -- the settings
  pub knobs : Knobs
  -- the page visited last in this pass; none before its first visit
  pub cursor : Option GuestPage
  -- how many passes have ended
  pub passes : ℕ
  -- the number of the dup that is made next
  pub next : ℕ

-- there are as many places as frames (own)
abbrev pub place_count : Shape → ℕ
place_count shape = frames_of shape

-- a book in which nothing was done yet (own)
abbrev pub opening : Shape → BookState
opening shape =
    record { shape = shape; rows = []; dups = []; knobs = default_knobs; cursor = None; passes = 0; next = 0 }

-- the tree in which a row is looked for: one for all nodes, or with merge_across_nodes 0 one for each (admin-guide/mm/ksm)
abbrev pub tree_of : Knobs → Row → ℕ
tree_of knobs row = if knobs.merge_across_nodes == 1 then 0 else row.home

-- every stale dup is dropped (mm/ksm; when that is done is own)
abbrev pub without_stale : BookState → BookState
without_stale b = record b { dups = filter (has_items b.rows) b.dups }

-- every Waiting row becomes Private: the unstable tree is flushed (mm/ksm)
abbrev pub with_none_waiting : BookState → BookState
with_none_waiting b = record b { rows = map settled b.rows }

-- a pass has ended and is counted (admin-guide/mm/ksm); the count stays at the greatest number of 64 bits (own)
abbrev pub pass_ended : BookState → BookState
pass_ended b = record b { cursor = None; passes = min (b.passes + 1) (2 ^ 64 - 1) }
