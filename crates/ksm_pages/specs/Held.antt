-- Rows as they are kept, in the order of their pages, each with the frame of its own if it has one. (own)
use Rattle.std.specs.Prelude.{◌≡◌, ℕ, ◌<◌, ◌≤◌, ◌^◌, ◌%◌, Bool, true, false, not, ◌&&◌, ◌||◌, ◌==◌, bytes_eq, if◌then◌else◌}
use Rattle.std.specs.Prelude.{All, List, [], ◌∷◌, ◌++◌, drop, filter, find, length, map, take, option_map, Option, None, Some}
use Rattle.ksm_pages.specs.Terms.{AreKeysInOrder, comes_before, GuestPage, has_item, Merged, page_of, PageState, Private, Row, same_page, settled, Waiting, waiting_state, Zero}
use Rattle.ksm_pages.specs.declared.row.InTree.{InTree}
use Rattle.ksm_pages.specs.declared.row.InTree.TheVariants.{Alone, Beside, Not}
use Rattle.ksm_pages.specs.declared.row.Kind.{Kind}
use Rattle.ksm_pages.specs.declared.row.Kind.TheVariants as kinds
use Rattle.ksm_pages.specs.declared.row.Entry.{Entry}
use Rattle.ksm_pages.specs.declared.row.Spot.{Spot}
use Rattle.ksm_pages.specs.declared.restless.Listed.{Listed}

-- a row, the frame of its own, and whether the unstable tree leads to it
pub record Held : Type 0 where
  pub row : Row
  pub frame : Option ℕ
  pub in_tree : InTree

-- pages that a visit may change, whether all of them are known, and whether they are in order too
pub record Listing : Type 0 where
  pub pages : List GuestPage
  pub known : Bool
  pub ready : Bool

-- what is listed of a page, as a spot: its page by the lower 48 bits of the key
abbrev pub low_spot : Listed → Spot
low_spot l = record { page = page_of (l.page % 2 ^ 48); key = l.row }

-- the keys of the pages do not fall
abbrev pub AreInOrder : List Listed → Type 0
AreInOrder listed = AreKeysInOrder (λ l. l.page) listed

-- the key of each page has at most 48 bits
abbrev pub AreSmall : List Listed → Type 0
AreSmall listed = All (λ l. l.page < 2 ^ 48) listed

-- the pages that are listed
abbrev pub pages_of : List Listed → List GuestPage
pages_of listed = map (λ l. page_of l.page) listed

-- what was added is in order in front of an index
abbrev pub HasGap : List Listed → List Listed → ℕ → Type 0
HasGap listed added at = (at ≤ length listed) × AreInOrder (take at listed ++ (added ++ drop at listed))

-- the pages of two lists, in order
pub record IsPutAmong (old added new : List Listed) : Type 0 where
  pub order : AreInOrder new
  pub small : AreSmall new
  pub all : (page : GuestPage)
      → has_item page (pages_of new) ≡ (has_item page (pages_of old) || has_item page (pages_of added))

-- where it is told that all pages are known and in order, they are
abbrev pub IsReady : List Listed → Bool → Bool → Type 0
IsReady added known ready = ready ≡ true → (known ≡ true) × (added ≡ [])

-- a page is listed from now on, and so are those that were, or else the list is no longer known
abbrev pub IsAddedTo : GuestPage → Listing → Listing → Type 0
IsAddedTo page old new = new.known ≡ true → (old.known ≡ true) × ((other : GuestPage)
    → has_item other new.pages ≡ (same_page page other || has_item other old.pages))

-- what is seen of the rows: each with its frame, the number of the pass, and whether each node has a tree of its own
pub record RowsView : Type 0 where
  pub held : List Held
  pub pass : ℕ
  pub by_node : Bool

-- ---------------------------------------------------------------- the unstable tree

-- whether the tree leads to the row
abbrev pub is_in : InTree → Bool
is_in Not = false
is_in Beside = true
is_in Alone = true

-- whether it does, and no dup of the row's content is there
abbrev pub is_alone : InTree → Bool
is_alone Not = false
is_alone Beside = false
is_alone Alone = true

-- the same once there may be dups of the row's content
abbrev pub beside : InTree → InTree
beside Not = Not
beside Beside = Beside
beside Alone = Beside

-- how a row comes to stand in the tree, where there is a group of dups of its content, or none
abbrev pub in_tree_by : Option ℕ → InTree
in_tree_by None = Alone
in_tree_by (Some group) = Beside

-- the tree of a row with a home
abbrev pub tree_by : Bool → ℕ → ℕ
tree_by by_node home = if by_node then home else 0

-- whether the unstable tree leads to the row, and that has this tree and these bytes
abbrev pub has_content : Bool → ℕ → List ℕ → Held → Bool
has_content by_node tree bytes h =
    is_in h.in_tree && (tree_by by_node h.row.home == tree && bytes_eq h.row.bytes bytes)

-- ---------------------------------------------------------------- entries

-- the state that a kind and a number tell, where it is known whether one with a frame of its own waits
abbrev pub state_by : Kind → ℕ → Bool → PageState
state_by kinds.Own number waits = if waits then Waiting else Private
state_by kinds.Merged number waits = Merged number
state_by kinds.Zero number waits = Zero

-- the state that an entry tells in a pass: one with a frame of its own waits where the unstable tree leads to it and its
-- number is that of the pass
abbrev pub state_of : ℕ → Entry → PageState
state_of pass e = state_by e.kind e.number (e.number == pass && is_in e.in_tree)

-- the frame of its own, if the kind has one
abbrev pub frame_of : Kind → ℕ → Option ℕ
frame_of kinds.Own at = Some at
frame_of kind at = None

-- the row that an entry stands for in a pass, with its frame
abbrev pub held_of : ℕ → Entry → Held
held_of pass e = record {
  row = record {
    page = e.page;
    home = e.home;
    bytes = e.bytes;
    mergeable = e.mergeable;
    unchanged = e.unchanged;
    state = state_of pass e;
  };
  frame = frame_of e.kind e.at;
  in_tree = e.in_tree;
}

-- whether the kind is that of pages with frames of their own
abbrev pub is_own : Kind → Bool
is_own kinds.Own = true
is_own kind = false

-- a visit may change the entry's row: it is mergeable, and has a frame of its own
abbrev pub is_restless : Entry → Bool
is_restless e = e.mergeable && is_own e.kind

-- an entry that says no longer in which pass it came to wait
abbrev pub forgotten : Entry → Entry
forgotten e = record e { number = if is_own e.kind then 0 else e.number }

-- ---------------------------------------------------------------- rows

-- whether it is the row of the page
abbrev pub holds : GuestPage → Held → Bool
holds page h = same_page h.row.page page

-- the row of a page, with its frame, if there is one
abbrev pub held_at : GuestPage → List Held → Option Held
held_at page held = find (holds page) held

-- the rows alone
abbrev pub rows_of : List Held → List Row
rows_of held = map (λ h. h.row) held

-- with one more at its place in the order
abbrev pub with_held : Held → List Held → List Held
with_held h held =
    filter (λ g. comes_before g.row.page h.row.page) held
    ++ h ∷ filter (λ g. comes_before h.row.page g.row.page) held

-- the others, in their order
abbrev pub without_held : GuestPage → List Held → List Held
without_held page held = filter (λ h. not (holds page h)) held

-- with a change made to that of a page
abbrev pub change_held : GuestPage → (Held → Held) → List Held → List Held
change_held page change held = map (λ h. if holds page h then change h else h) held

-- the rows once that of a page changed
abbrev pub altered : GuestPage → (Held → Held) → RowsView → RowsView
altered page change v = record v { held = change_held page change v.held }

-- a change of the row alone
abbrev pub on_row : (Row → Row) → Held → Held
on_row change h = record h { row = change h.row }

-- the page of the row to which the unstable tree leads from a tree and bytes
abbrev pub page_in_tree : RowsView → ℕ → List ℕ → Option GuestPage
page_in_tree v tree bytes = option_map (λ h. h.row.page) (find (has_content v.by_node tree bytes) v.held)

-- each row to which the unstable tree leads is found by its tree and bytes, so no other row there has these
abbrev pub AreInTree : RowsView → Type 0
AreInTree v = All (λ h. is_in h.in_tree ≡ true
    → page_in_tree v (tree_by v.by_node h.row.home) h.row.bytes ≡ Some h.row.page) v.held

-- the unstable tree leads to each row that waits
abbrev pub AreWaitersLed : List Held → Type 0
AreWaitersLed held = All (λ h. waiting_state h.row.state ≡ true → is_in h.in_tree ≡ true) held

-- the unstable tree leads to no other row with the tree and bytes of a page's row
abbrev pub IsFree : RowsView → GuestPage → Held → Type 0
IsFree v page h = All (λ g. holds page g ≡ false → has_content v.by_node (tree_by v.by_node h.row.home) h.row.bytes g ≡ false) v.held

-- a row that shares a frame from now on
abbrev pub shares : PageState → Held → Held
shares state h = record { row = record h.row { state = state }; frame = None; in_tree = beside h.in_tree }

-- a row with these bytes, to which the unstable tree does not lead: where its bytes were others, it is not unchanged
abbrev pub written : List ℕ → Held → Held
written bytes h = record h {
  row = record (settled h.row) { bytes = bytes; unchanged = h.row.unchanged && bytes_eq h.row.bytes bytes };
  in_tree = Not;
}

-- a row that becomes another with a frame of its own, and to which the unstable tree does not lead
abbrev pub laid_on : ℕ → (Row → Row) → Held → Held
laid_on frame change h = record { row = change h.row; frame = Some frame; in_tree = Not }

-- a row to which the unstable tree does not lead
abbrev pub out_of_tree : Held → Held
out_of_tree h = record h { row = settled h.row; in_tree = Not }

-- a row that waits, and to which the unstable tree leads
abbrev pub waiting_in : InTree → Held → Held
waiting_in in_tree h = record h { row = record h.row { state = Waiting }; in_tree = in_tree }
