-- The book's rows beside the dups with their items.
use Rattle.std.specs.Prelude.{All, length, List, ℕ, ◌≡◌}
use Rattle.ksm_tree.specs.Terms.{Choice, Dup, Empty, GuestPage, item_count, items_of, Merged, PageState, Row, Stale, without_item}
use Rattle.ksm_tree.specs.Dups.{change_items}

-- each dup has as many items as there are rows merged into it
abbrev pub AreCounted : List Row → List Dup → Type 0
AreCounted rows dups = All (λ d. length d.items ≡ item_count rows d.row) dups

-- the items of each dup are the pages of the rows merged into it
abbrev pub AreTied : List Row → List Dup → Type 0
AreTied rows dups = All (λ d. d.items ≡ items_of rows d.row) dups

-- the place of a choice
abbrev pub place_in : Choice → ℕ
place_in (Empty place) = place
place_in (Stale place) = place

-- the dups once a page whose row was in a state is no item any more
abbrev pub let_out : PageState → GuestPage → List Dup → List Dup
let_out (Merged number) page dups = change_items number (without_item page) dups
let_out state page dups = dups
