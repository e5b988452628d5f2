-- Entries in a slab, with the order of their pages, the pages that a visit may change, and a tally. (own)
use Rattle.std.specs.Prelude.{◌≡◌, ◌↔◌, ℕ, ◌+◌, ◌≤◌, ◌<◌, ◌^◌, Bool, true, false, not, List, [], count_by, find, is_none, map, option_map, MatchOption, Option, None, Some, if◌then◌else◌}
use Rattle.ksm_pages.specs.Terms.{GuestPage, has_item, merged_state, PageState, Private, Row, same_page, waiting_state, zero_state}
use Rattle.slab.specs.Slab.{Slab, get}
use Rattle.ksm_pages.specs.declared.named.Named.{Named}
use Rattle.ksm_pages.specs.declared.row.Kind.TheVariants as kinds
use Rattle.ksm_pages.specs.declared.row.Entry.{Entry}
use Rattle.ksm_pages.specs.declared.row.InTree.TheVariants.{Not}
use Rattle.ksm_pages.specs.declared.row.Spot.{Spot}
use Rattle.ksm_pages.specs.declared.tally.Tally.{Tally}
use Rattle.ksm_pages.specs.Held.{Held, Listing, RowsView, altered, held_at, held_of, is_in, is_restless, rows_of}
use Rattle.ksm_pages.specs.Ordered.{AreAscending, is_of}

-- ---------------------------------------------------------------- tallies

abbrev pub one_if : Bool → ℕ
one_if b = if b then 1 else 0

-- how many of the rows are merged, wait, and are on the zero page
pub record IsTally (rows : List Row) (tally : Tally) : Type 0 where
  pub merged : tally.merged ≡ count_by (λ r. merged_state r.state) rows
  pub waiting : tally.waiting ≡ count_by (λ r. waiting_state r.state) rows
  pub zero : tally.zero ≡ count_by (λ r. zero_state r.state) rows

-- the second tally is the first, but that one row went from a state to another
pub record IsMoved (from to : PageState) (old new : Tally) : Type 0 where
  pub merged : new.merged + one_if (merged_state from) ≡ old.merged + one_if (merged_state to)
  pub waiting : new.waiting + one_if (waiting_state from) ≡ old.waiting + one_if (waiting_state to)
  pub zero : new.zero + one_if (zero_state from) ≡ old.zero + one_if (zero_state to)

-- a tally that counts a row in a state, with room for one in another
pub record CanMove (from to : PageState) (tally : Tally) : Type 0 where
  pub merged : one_if (merged_state from) ≤ tally.merged
  pub merged_room : tally.merged + one_if (merged_state to) < 2 ^ 64 + one_if (merged_state from)
  pub waiting : one_if (waiting_state from) ≤ tally.waiting
  pub waiting_room : tally.waiting + one_if (waiting_state to) < 2 ^ 64 + one_if (waiting_state from)
  pub zero : one_if (zero_state from) ≤ tally.zero
  pub zero_room : tally.zero + one_if (zero_state to) < 2 ^ 64 + one_if (zero_state from)

-- ---------------------------------------------------------------- entries and their order

-- how the order names an entry that is kept under a key
abbrev pub named_of : ℕ → Entry → Named
named_of key e = record { page = e.page; key = key; mergeable = e.mergeable }

-- a page is named in the order exactly as the entry under its key says
abbrev pub AreFiled : Slab Entry → List Named → Type 0
AreFiled slab order = (n : Named)
    → (find (is_of n.page) order ≡ Some n) ↔ (option_map (named_of n.key) (get slab n.key) ≡ Some n)

-- the key of a page, if it has one
abbrev pub key_in : List Named → GuestPage → Option ℕ
key_in order page = option_map (λ n. n.key) (find (is_of page) order)

-- an entry of the page stands under the key
pub record IsUnder (slab : Slab Entry) (page : GuestPage) (key : ℕ) : Type 0 where
  pub entry : Entry
  pub stands : get slab key ≡ Some entry
  pub of_page : entry.page ≡ page

-- the page of each entry that a visit may change is listed
abbrev pub AreListed : Slab Entry → List GuestPage → Type 0
AreListed slab pages = (key : ℕ) (e : Entry)
    → get slab key ≡ Some e → is_restless e ≡ true → has_item e.page pages ≡ true

-- it is certain that a spot is listed in vain: no visit changes the entry under its key, which is of its page, or else
-- there is no name of the page
abbrev pub is_useless : List Named → Spot → Option Entry → Bool
is_useless order spot None = is_none (find (is_of spot.page) order)
is_useless order spot (Some e) =
    if same_page e.page spot.page then not (is_restless e) else is_none (find (is_of spot.page) order)

-- a page is listed in vain: by some key it has no name, or no visit changes its entry
abbrev pub IsInVain : Slab Entry → List Named → GuestPage → Type 0
IsInVain slab order page = (key : ℕ) × (is_useless order (record { page = page; key = key }) (get slab key) ≡ true)

-- the row that stands under a key, or some row where none does
abbrev pub held_under : ℕ → Option Entry → Held
held_under pass (Some e) = held_of pass e
held_under pass None = record {
  row = record {
    page = record { guest = 0; page = 0 };
    home = 0;
    bytes = [];
    mergeable = false;
    unchanged = false;
    state = Private;
  };
  frame = None;
  in_tree = Not;
}

-- the rows in the order of their pages
abbrev pub held_in : ℕ → Slab Entry → List Named → List Held
held_in pass slab order = map (λ n. held_under pass (get slab n.key)) order

-- an entry that comes of another is of no pass to come
abbrev pub StaysBegun : ℕ → Entry → Entry → Type 0
StaysBegun pass e later = (e.kind ≡ kinds.Own → e.number ≤ pass) → later.kind ≡ kinds.Own → later.number ≤ pass

-- where the unstable tree leads to an entry that comes of another, it led to that, with the same home and bytes
abbrev pub StaysLed : Entry → Entry → Type 0
StaysLed e later = is_in later.in_tree ≡ true → (is_in e.in_tree ≡ true) × (later.home ≡ e.home) × (later.bytes ≡ e.bytes)

-- what becomes of an entry keeps its page, is of no pass to come, and stands in the unstable tree only as it did
abbrev pub KeepsPage : ℕ → (Entry → Entry → Type 0) → Type 0
KeepsPage pass R = (e later : Entry) → R e later → (later.page ≡ e.page) × StaysBegun pass e later × StaysLed e later

-- this was kept of the row of a page, if it had one
abbrev pub WasKept : RowsView → GuestPage → Option Entry → Type 0
WasKept rows page was =
    MatchOption was (held_at page rows.held ≡ None) (λ e. held_at page rows.held ≡ Some (held_of rows.pass e))

-- the row of a page was changed as its entry was
abbrev pub IsMade : (Entry → Entry → Type 0) → GuestPage → RowsView → RowsView → Type 0
IsMade R page old new = (change : Held → Held)
    → ((e later : Entry) → R e later → 1 ≤ old.pass → held_of old.pass later ≡ change (held_of old.pass e))
    → new ≡ altered page change old

-- the pages ascend, each is named as its entry says, those that a visit may change are listed if they are known,
-- the tally is that of the rows, and the number of no entry with a frame of its own is beyond the pass
pub record IsRows (slab : Slab Entry) (order : List Named) (restless : Listing) (tally : Tally) (pass : ℕ)
    : Type 0 where
  pub ascending : AreAscending order
  pub filed : AreFiled slab order
  pub listed : restless.known ≡ true → AreListed slab restless.pages
  pub counted : IsTally (rows_of (held_in pass slab order)) tally
  pub begun : (key : ℕ) (e : Entry) → get slab key ≡ Some e → e.kind ≡ kinds.Own → e.number ≤ pass
  pub counting : 1 ≤ pass
