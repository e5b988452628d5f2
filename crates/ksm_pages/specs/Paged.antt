-- The pages: the rows with the dups into which they are merged, the frame of each page, and the pages that wait; and
-- what is seen of them (own).
use Rattle.std.specs.Prelude.{All, Bool, Contains, false, find, if◌then◌else◌, is_some, length, List, map, MatchOption, None, not, Option, option_and_then, option_map, slice_get, Some, true, ℕ, ◌&&◌}
use Rattle.std.specs.Prelude.{◌+◌, ◌-◌, ◌<◌, ◌==◌, ◌^◌, ◌||◌, ◌≡◌, ◌≤◌}
use Rattle.ksm_pages.specs.Terms.{after_cursor, Alone, AreTied, best_dup, change_row, change_rows, Dup, dup_numbered, dup_rows, DupRow, DupsState, every_row, frames_of, GuestPage, has_items, in_group, InDup}
use Rattle.ksm_pages.specs.Terms.{InPageOrder, is_for_zero, is_of, IsShape, item_count, Knobs, let_out, Mapping, mapping_of, Merged, merged_into, merged_state, MOST_REFERENCES, Nowhere, partner, Private, private_state, Row}
use Rattle.ksm_pages.specs.Terms.{row_at, same_page, Shape, shared_state, tree_of, Waiting, waits_for, with_dup}
use Rattle.ksm_pages.specs.declared.pages.Find.{Find}
use Rattle.ksm_pages.specs.declared.pages.Find.TheVariants as finds
use Rattle.ksm_pages.specs.declared.pages.Held.{Held}
use Rattle.ksm_pages.specs.declared.pages.Look.{Look}
use Rattle.ksm_pages.specs.declared.pages.Look.TheVariants as looks
use Rattle.ksm_pages.specs.declared.row.Entry.{Entry}
use Rattle.ksm_pages.specs.declared.row.Spot.{Spot}
use Rattle.ksm_pages.specs.Held.{Held as HeldRow, frame_of as kept_on, is_alone, rows_of, RowsView}

-- the frame of each page, if it has one
abbrev pub Frames : Type 0
Frames = GuestPage → Option ℕ

-- no page lies on a frame
abbrev pub nowhere : Frames
nowhere = λ _. None

-- one page comes to lie on a frame, or on none
abbrev pub lies_on : GuestPage → Option ℕ → Frames → Frames
lies_on page frame frames = λ p. if same_page p page then frame else frames p

-- whether a page's row, if it has one, is an item of the dup with a number
abbrev pub is_item : ℕ → Option Row → Bool
is_item number None = false
is_item number (Some row) = merged_into number row.state

-- the items of a dup come to lie on another frame
abbrev pub items_on : ℕ → ℕ → List Row → Frames → Frames
items_on number frame rows frames = λ p. if is_item number (row_at p rows) then Some frame else frames p

-- a page with the frame on which it lies, if it has one
pub record Lodging : Type 0 where
  pub page : GuestPage
  pub frame : Option ℕ

-- where these pages lie; no other page lies on a frame
abbrev pub frame_of : List Lodging → Frames
frame_of lodgings = λ page. option_and_then (λ l. l.frame) (find (λ l. same_page l.page page) lodgings)

-- the value by which proofs tell pages apart: a list in the place of the function that `PagesView` has
pub record PagesValue : Type 0 where
  pub shape : Shape
  pub rows : List Row
  pub lodgings : List Lodging
  pub dups : List DupRow
  pub knobs : Knobs
  pub next : ℕ

-- what is seen of the pages: the rows, where each page lies, the dups, the knobs, and the number of the next dup
pub record PagesView : Type 0 where
  pub shape : Shape
  pub rows : List Row
  pub frame : Frames
  pub dups : List DupRow
  pub knobs : Knobs
  pub next : ℕ

abbrev pub seen : PagesValue → PagesView
seen p = record {
  shape = p.shape;
  rows = p.rows;
  frame = frame_of p.lodgings;
  dups = p.dups;
  knobs = p.knobs;
  next = p.next;
}

-- a page has a row
abbrev pub IsKnown : GuestPage → List Row → Type 0
IsKnown page rows = is_some (row_at page rows) ≡ true

-- a page has a row, of which this is true
abbrev pub HasRow : GuestPage → List Row → (Row → Type 0) → Type 0
HasRow page rows P = MatchOption (row_at page rows) (true ≡ false) P

-- a page has a row, with a frame of its own
abbrev pub IsAlone : GuestPage → List Row → Type 0
IsAlone page rows = HasRow page rows (λ r. shared_state r.state ≡ false)

-- what is told of the row of a page: its home, whether it is merged or Zero, and its frame where it is neither
pub record IsHeld (p : PagesView) (page : GuestPage) (held : Held) : Type 0 where
  pub row : Row
  pub found : row_at page p.rows ≡ Some row
  pub spot : held.spot.page ≡ page
  pub home : held.home ≡ row.home
  pub shared : held.shared ≡ shared_state row.state
  pub own : held.own ≡ (if shared_state row.state then None else p.frame page)

-- the same, by what is kept of its row
abbrev pub told_by : Spot → Entry → Held
told_by spot e =
    let own = kept_on e.kind e.at in record { spot = spot; home = e.home; shared = not (is_some own); own = own }

-- how a page lies that is about to change: on a frame of its own, where it does not wait, or as is told of its row
abbrev pub LooksSo : PagesView → GuestPage → Look → Type 0
LooksSo p page (looks.Private spot frame) =
    (spot.page ≡ page) × HasRow page p.rows (λ r. private_state r.state ≡ true) × (p.frame page ≡ Some frame)
LooksSo p page (looks.Other held) = IsHeld p page held

-- the items of the dup with a number lie on the frame
abbrev pub ItemsLieOn : ℕ → ℕ → PagesView → Type 0
ItemsLieOn number frame p = All (λ r. merged_into number r.state ≡ true → p.frame r.page ≡ Some frame) p.rows

-- a row of the guest, or any row where no guest is given
abbrev pub of_guest : Option ℕ → Row → Bool
of_guest None = every_row
of_guest (Some guest) = is_of guest

-- a row of the guest, or any row, after the cursor
abbrev pub is_next : Option ℕ → Option GuestPage → Row → Bool
is_next guest cursor r = of_guest guest r && after_cursor cursor r.page

-- this is told of the first such row, if there is one
abbrev pub TellsNext : PagesView → Option ℕ → Option GuestPage → Option Held → Type 0
TellsNext p guest cursor told = let next = find (is_next guest cursor) p.rows in
    MatchOption told (next ≡ None)
    (λ held. (IsHeld p held.spot.page held) × (option_map (λ r. r.page) next ≡ Some held.spot.page))

-- the page that waits in the tree of a merged row with its bytes, if one does
abbrev pub page_beside : Knobs → List Row → Option Row → Option GuestPage
page_beside knobs rows None = None
page_beside knobs rows (Some r) = if merged_state r.state then option_map (λ w. w.page) (partner knobs rows r) else None

-- the row with a frame of its own, in no tree
abbrev pub on_its_own : Row → Row
on_its_own r = record r { state = Private }

-- the same at home on another node
abbrev pub at_home_on : ℕ → Row → Row
at_home_on node r = record r { home = node; state = Private }

-- no dup with items stands at the place
abbrev pub IsVacant : ℕ → List Row → List DupRow → Type 0
IsVacant place rows dups = All (λ d. d.place ≡ place → item_count rows d ≡ 0) dups

-- the dup with items at a place
abbrev pub live_at : ℕ → List Row → List DupRow → Option DupRow
live_at place rows dups = find (λ d. d.place == place && has_items rows d) dups

-- the dup stands at another place
abbrev pub elsewhere : ℕ → DupRow → Bool
elsewhere place d = not (d.place == place)

-- a dup of this number has room for one item more
abbrev pub HasRoom : List Row → List DupRow → ℕ → Type 0
HasRoom rows dups number = (d : DupRow) × Contains dups d × (d.number ≡ number) × (item_count rows d ≤ MOST_REFERENCES - 1)

-- the dup that is made of a row, with a number and at a place
abbrev pub dup_of_row : Knobs → ℕ → ℕ → Row → DupRow
dup_of_row knobs number place row =
    record { number = number; place = place; tree = tree_of knobs row; bytes = row.bytes }

-- two pages with frames of their own may become the items of a new dup at the place
pub record MayPair (p : PagesView) (place : ℕ) (first second : Row) : Type 0 where
  pub first_is : row_at first.page p.rows ≡ Some first
  pub second_is : row_at second.page p.rows ≡ Some second
  pub first_alone : shared_state first.state ≡ false
  pub second_alone : shared_state second.state ≡ false
  pub waits : waits_for p.knobs second first ≡ true
  pub inside : place < frames_of p.shape
  pub vacant : IsVacant place p.rows p.dups
  pub number : p.next + 1 < 2 ^ 64
  pub fresh : All (λ r. merged_into p.next r.state ≡ false) p.rows

-- the pages once two of them are the items of a new dup at the place, on the frame of the first
abbrev pub paired : ℕ → Row → Row → PagesView → PagesView
paired place first second p =
    record p {
      rows = change_rows (λ r. same_page r.page first.page || same_page r.page second.page)
          (λ r. record r { state = Merged p.next }) p.rows;
      frame = lies_on second.page (p.frame first.page) p.frame;
      dups = with_dup (dup_of_row p.knobs p.next place second) p.dups;
      next = p.next + 1;
    }

-- a visit may change the row
abbrev pub is_restless : Row → Bool
is_restless r = r.mergeable && not (shared_state r.state)

-- the pages once the row of a page changed
abbrev pub changed : GuestPage → (Row → Row) → PagesView → PagesView
changed page change p = record p { rows = change_row page change p.rows }

-- the pages once the row of a page changed, and the page came to lie on a frame, or on none
abbrev pub relaid : GuestPage → (Row → Row) → Option ℕ → PagesView → PagesView
relaid page change frame p = record (changed page change p) { frame = lies_on page frame p.frame }

-- what a visit of this row finds, and what it changed by that
abbrev pub FindsAt : PagesView → PagesView → Row → Find → Type 0
FindsAt old new r finds.Gone = (is_restless r ≡ false) × (new ≡ old)
FindsAt old new r (finds.Dup best) =
    (is_restless r ≡ true)
    × MatchOption (best_dup old.knobs old.rows old.dups r) (true ≡ false)
    (λ d. (best.number ≡ d.number) × (best.place ≡ d.place))
    × (new ≡ old)
FindsAt old new r finds.Changed =
    (is_restless r ≡ true) × (best_dup old.knobs old.rows old.dups r ≡ None) × (r.unchanged ≡ false)
    × (new ≡ changed r.page (λ r. record r { unchanged = true; state = Private }) old)
FindsAt old new r finds.Zero =
    (is_restless r ≡ true) × (best_dup old.knobs old.rows old.dups r ≡ None) × (r.unchanged ≡ true)
    × (is_for_zero old.knobs r ≡ true) × (new ≡ old)
FindsAt old new r (finds.Partner page) =
    (is_restless r ≡ true) × (best_dup old.knobs old.rows old.dups r ≡ None) × (r.unchanged ≡ true)
    × (is_for_zero old.knobs r ≡ false)
    × MatchOption (partner old.knobs old.rows r) (true ≡ false) (λ w. page ≡ w.page) × (new ≡ old)
FindsAt old new r finds.Waits =
    (is_restless r ≡ true) × (best_dup old.knobs old.rows old.dups r ≡ None) × (r.unchanged ≡ true)
    × (is_for_zero old.knobs r ≡ false) × (partner old.knobs old.rows r ≡ None)
    × (new ≡ changed r.page (λ r. record r { state = Waiting }) old)

-- what a visit of a page finds; a page without a row is found gone
abbrev pub Finds : PagesView → PagesView → GuestPage → Find → Type 0
Finds old new page found =
    MatchOption (row_at page old.rows) ((found ≡ finds.Gone) × (new ≡ old)) (λ r. FindsAt old new r found)

-- ---------------------------------------------------------------- how the pages are kept

-- the frame that is kept for the dup with a number, at its place
abbrev pub lodging : List DupRow → List ℕ → ℕ → Option ℕ
lodging dups frames number = option_and_then (λ d. slice_get frames d.place) (dup_numbered number dups)

-- where a row lies by its mapping: in a dup where that does, alone on the frame of its own, if it has one
abbrev pub frame_seen : (ℕ → Option ℕ) → Mapping → Option ℕ → Option ℕ
frame_seen of_dup Alone own = own
frame_seen of_dup (InDup number) own = of_dup number
frame_seen of_dup Nowhere own = None

-- where the pages of the rows lie
abbrev pub lodgings_of : (ℕ → Option ℕ) → List HeldRow → List Lodging
lodgings_of of_dup held = map (λ h. record { page = h.row.page; frame = frame_seen of_dup (mapping_of h.row.state) h.frame }) held

-- no dup has the tree and bytes
abbrev pub NoneHas : ℕ → List ℕ → List Dup → Type 0
NoneHas tree bytes dups = All (λ d. in_group tree bytes d.row ≡ false) dups

-- no dup has the tree and bytes of a row that is said to be alone
abbrev pub AreAlone : Knobs → List HeldRow → List DupRow → Type 0
AreAlone knobs held dups = All (λ h. is_alone h.in_tree ≡ true
    → All (λ d. in_group (tree_of knobs h.row) h.row.bytes d ≡ false) dups) held

-- the rows are in order, the items of each dup are the rows merged into it, the unstable trees are those of the knobs,
-- rows that are said to be alone are so, and there is room for a frame at each place
pub record AreKept (shape : Shape) (knobs : Knobs) (rows : RowsView) (dups : DupsState) (frames : List ℕ) : Type 0 where
  pub small : IsShape shape
  pub order : InPageOrder (rows_of rows.held)
  pub tied : AreTied (rows_of rows.held) dups.dups
  pub places : dups.places ≡ frames_of shape
  pub by_node : rows.by_node ≡ not (knobs.merge_across_nodes == 1)
  pub alone : AreAlone knobs rows.held (dup_rows dups.dups)
  pub room : length frames ≡ frames_of shape

-- the page of a row is no item any more; it lay on this frame, if it did on one
pub record IsLeft (frames : List ℕ) (old new : DupsState) (lone : Option ℕ) (h : HeldRow) : Type 0 where
  pub dups : new ≡ record old { dups = let_out h.row.state h.row.page old.dups }
  pub frame : lone ≡ frame_seen (lodging (dup_rows old.dups) frames) (mapping_of h.row.state) h.frame
