-- Rows and dup rows: lists in order, what is read from them, and the edits that commands make. Own, where nothing else is said.
use Rattle.std.specs.Prelude.{◌≡◌, ℕ, ◌<◌, Bool, true, false, not, ◌&&◌, ◌||◌, ◌==◌, nat_lt, List, ◌∷◌, ◌++◌, map, filter, find, count_by, Option, AllPairs, bytes_eq, if◌then◌else◌}
use Rattle.std.specs.List.{list_all}
use Rattle.ksm_base.specs.declared.page.GuestPage.{GuestPage}
use Rattle.ksm_base.specs.declared.row.PageState.{PageState}
use Rattle.ksm_base.specs.declared.row.PageState.TheVariants.{Private, Waiting, Merged, Zero}
use Rattle.ksm_base.specs.declared.row.Row.{Row}
use Rattle.ksm_base.specs.declared.row.DupRow.{DupRow}

-- pages are ordered by guest, then by page
abbrev pub comes_before : GuestPage → GuestPage → Bool
comes_before p q = nat_lt p.guest q.guest || (p.guest == q.guest && nat_lt p.page q.page)

-- a page is told by its guest and its number there
abbrev pub same_page : GuestPage → GuestPage → Bool
same_page p q = p.guest == q.guest && p.page == q.page

-- the rows are in the order of their pages, each page once
abbrev pub InPageOrder : List Row → Type 0
InPageOrder rows = AllPairs (λ r s. comes_before r.page s.page ≡ true) rows

-- the row of a page, if it has one
abbrev pub row_at : GuestPage → List Row → Option Row
row_at page rows = find (λ r. same_page r.page page) rows

-- the rows with one more at its place in the order, in the stead of one that has its page
abbrev pub with_row : Row → List Row → List Row
with_row row rows = filter (λ r. comes_before r.page row.page) rows ++ row ∷ filter (λ r. comes_before row.page r.page) rows

-- the rows but for that of a page
abbrev pub without_page : GuestPage → List Row → List Row
without_page page rows = filter (λ r. not (same_page r.page page)) rows

-- the rows with a change made to those that pass a test
abbrev pub change_rows : (Row → Bool) → (Row → Row) → List Row → List Row
change_rows test change rows = map (λ r. if test r then change r else r) rows

-- the rows with a change made to the row of a page
abbrev pub change_row : GuestPage → (Row → Row) → List Row → List Row
change_row page change rows = change_rows (λ r. same_page r.page page) change rows

-- from where a page is mapped: a frame of its own alone, the frame of the dup with a number, or no frame (own)
pub data Mapping : Type 0 where
  Alone : Mapping
  InDup : ℕ → Mapping
  Nowhere : Mapping

-- a merged page is mapped from its dup's frame (mm/ksm), a Zero one from the kernel's zero page (admin-guide/mm/ksm, use_zero_pages)
abbrev pub mapping_of : PageState → Mapping
mapping_of Private = Alone
mapping_of Waiting = Alone
mapping_of (Merged d) = InDup d
mapping_of Zero = Nowhere

-- not from a frame of its own
abbrev pub is_shared : Mapping → Bool
is_shared Alone = false
is_shared mapping = true

-- from the frame of a dup
abbrev pub is_in_dup : Mapping → Bool
is_in_dup (InDup d) = true
is_in_dup mapping = false

-- from the frame of the dup with this number
abbrev pub is_in : ℕ → Mapping → Bool
is_in number (InDup d) = d == number
is_in number mapping = false

-- from no frame
abbrev pub is_nowhere : Mapping → Bool
is_nowhere Nowhere = true
is_nowhere mapping = false

-- mapped from a frame of its own, in neither tree (mm/ksm)
abbrev pub private_state : PageState → Bool
private_state Private = true
private_state state = false

-- mapped from a frame of its own, in the unstable tree (mm/ksm)
abbrev pub waiting_state : PageState → Bool
waiting_state Waiting = true
waiting_state state = false

-- mapped from the page of a stable node (mm/ksm)
abbrev pub merged_state : PageState → Bool
merged_state state = is_in_dup (mapping_of state)

-- mapped from the kernel's zero page (admin-guide/mm/ksm, use_zero_pages)
abbrev pub zero_state : PageState → Bool
zero_state Zero = true
zero_state state = false

-- mapped from no frame
abbrev pub unmapped_state : PageState → Bool
unmapped_state state = is_nowhere (mapping_of state)

-- mapped from a page that others may read too, which is never written: that of a stable node, or the zero page. A store needs a frame
abbrev pub shared_state : PageState → Bool
shared_state state = is_shared (mapping_of state)

-- each word is zero
abbrev pub all_zero : List ℕ → Bool
all_zero words = list_all (λ w. w == 0) words

-- mapped from the page of the dup with this number (mm/ksm)
abbrev pub merged_into : ℕ → PageState → Bool
merged_into number state = is_in number (mapping_of state)

-- out of the unstable tree (mm/ksm)
abbrev pub settled_state : PageState → PageState
settled_state Waiting = Private
settled_state state = state

-- a Waiting row becomes Private, any other stays
abbrev pub settled : Row → Row
settled r = record r { state = settled_state r.state }

-- how many items a dup has: the rows merged into its number (mm/ksm, reverse-mapping items)
abbrev pub item_count : List Row → DupRow → ℕ
item_count rows d = count_by (λ r. merged_into d.number r.state) rows

-- a dup without items is stale (mm/ksm)
abbrev pub is_stale : List Row → DupRow → Bool
is_stale rows d = item_count rows d == 0

-- a dup that is not stale
abbrev pub has_items : List Row → DupRow → Bool
has_items rows d = nat_lt 0 (item_count rows d)

-- of one tree and one content: dups that stand in one chain (mm/ksm)
abbrev pub same_group : DupRow → DupRow → Bool
same_group d e = d.tree == e.tree && bytes_eq d.bytes e.bytes

-- the dup rows are in the order of their places, each place and each number once
abbrev pub InPlaceOrder : List DupRow → Type 0
InPlaceOrder dups = AllPairs (λ d e. (d.place < e.place) × ((d.number == e.number) ≡ false)) dups

-- the dup rows with one more at its place, in the stead of one that stands there
abbrev pub with_dup : DupRow → List DupRow → List DupRow
with_dup dup dups = filter (λ d. nat_lt d.place dup.place) dups ++ dup ∷ filter (λ d. nat_lt dup.place d.place) dups

-- the dup row with a number, if there is one
abbrev pub dup_numbered : ℕ → List DupRow → Option DupRow
dup_numbered number dups = find (λ d. d.number == number) dups
