-- Dups with their items, in the order of their places (mm/ksm: stable nodes, chains).
use Rattle.std.specs.Prelude.{[], All, Bool, false, filter, find, if◌then◌else◌, length, List, map, nat_lt, None, not, Option, option_map, Some, ℕ, ◌&&◌, ◌++◌, ◌+◌, ◌<◌, ◌==◌, ◌^◌, ◌∷◌, ◌≡◌}
use Rattle.ksm_tree.specs.Terms.{Dup, DupRow, GuestPage, InPlaceOrder, same_page}
use Rattle.ksm_tree.specs.Places.{is_open}
use Rattle.ksm_tree.specs.Numbered.{Numbers}

-- how many places there are, the dups in the order of their places, the number of the dup that is made next,
-- the contents that have a number, and how many may have one until those not in use lose it
pub record DupsState : Type 0 where
  pub places : ℕ
  pub dups : List Dup
  pub next : ℕ
  pub numbers : Numbers
  pub most : ℕ

-- the dup rows alone
abbrev pub rows_of : List Dup → List DupRow
rows_of dups = map (λ d. d.row) dups

abbrev pub has_number : ℕ → Dup → Bool
has_number number d = d.row.number == number

abbrev pub stands_at : ℕ → Dup → Bool
stands_at place d = d.row.place == place

-- a dup without items
abbrev pub is_stale : Dup → Bool
is_stale d = length d.items == 0

-- a dup with an item
abbrev pub is_live : Dup → Bool
is_live d = nat_lt 0 (length d.items)

-- the places of the dups with an item and fewer than the limit, in their order
abbrev pub places_open : ℕ → List Dup → List ℕ
places_open limit dups = map (λ d. d.row.place) (filter (λ d. is_open limit (length d.items)) dups)

abbrev pub dup_of : ℕ → List Dup → Option Dup
dup_of number dups = find (has_number number) dups

abbrev pub dup_at : ℕ → List Dup → Option Dup
dup_at place dups = find (stands_at place) dups

-- the place of a dup, if there is one
abbrev pub place_of : Option Dup → Option ℕ
place_of dup = option_map (λ d. d.row.place) dup

abbrev pub items_in : Option Dup → List GuestPage
items_in None = []
items_in (Some d) = d.items

-- the items of the dup with a number, none where there is no such dup
abbrev pub items_of : ℕ → List Dup → List GuestPage
items_of number dups = items_in (dup_of number dups)

-- the dups with a new one at its place, in the stead of one that stood there
abbrev pub with_new : Dup → List Dup → List Dup
with_new dup dups =
    filter (λ d. nat_lt d.row.place dup.row.place) dups ++ dup ∷ filter (λ d. nat_lt dup.row.place d.row.place) dups

-- the dups without the one at a place
abbrev pub without_place : ℕ → List Dup → List Dup
without_place place dups = filter (λ d. not (stands_at place d)) dups

-- the dups with a change made to the items of the one with a number
abbrev pub change_items : ℕ → (List GuestPage → List GuestPage) → List Dup → List Dup
change_items number change dups = map (λ d. if has_number number d then record d { items = change d.items } else d) dups

-- the dups stand in the order of their places, below how many there are;
-- their numbers differ and are not still to be given
pub record AreDups (s : DupsState) : Type 0 where
  pub in_place_order : InPlaceOrder (rows_of s.dups)
  pub places_below : All (λ r. r.place < s.places) (rows_of s.dups)
  pub numbers_below : All (λ r. r.number < s.next) (rows_of s.dups)

-- two pages may become a new dup at a place:
-- no dup with items stands there, the pages differ, and there is a number for it (own)
pub record MayBecomeDup (s : DupsState) (place : ℕ) (first second : GuestPage) : Type 0 where
  pub below : place < s.places
  pub free : find (λ d. stands_at place d && is_live d) s.dups ≡ None
  pub apart : same_page first second ≡ false
  pub number : s.next + 1 < 2 ^ 64
