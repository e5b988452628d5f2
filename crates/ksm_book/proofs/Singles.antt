-- The commands carried out: on single pages, on one dup, and on all pages of a guest, or all, which leave their dups, or the zero
-- page, one after another.
use Rattle.ksm_book.specs.declared.state.State.TheInside.{Inside}
use Rattle.ksm_book.proofs.Names.{absent_parts, All, All-map, Answer, any_found, ap, append-nil, arith, at_home_on, BookState, BookValue, BookView, Bool, change_row, change_rows}
use Rattle.ksm_book.proofs.Names.{comes_before, Command, count_by-le-length, count_more, Done, Drop, DupRow, Err, false, Fault, filter, filter_passes, find, find_all, find_passes, find_put, FindsNone}
use Rattle.ksm_book.proofs.Names.{frame_at, frames_of, fresh_row, get_or-append_seam, GuestPage, HasLeft, HasNewFrame, HasRemounted, Held, holding, IfSome, inl, InPageOrder, is_next, is_of}
use Rattle.ksm_book.proofs.Names.{is_in_range, is_shared_of, is_some, IsCarried, IsHeld, IsLaid, IsReadable, IsSound, IsWritable, KeeperView, Knob, Knobs, leaving, left_by, length, length-append, let_go, lies_on, mapped_some}
use Rattle.ksm_book.proofs.Names.{LiesWith, List, list_any, live_dup_at, lying, MakesSteps, map, map_alike, map_fixed, map_mapped, Mapped, MatchOption, MayLeave, MayMove, MayNotLeave, Mergeable}
use Rattle.ksm_book.proofs.Names.{mergeable_count, MoveDup, MovePage, NoFrame, None, not, of_guest, Ok, Option, option_map, PAGE_WORDS, pages_ordered, PagesView, Provides, puts, refl, Register}
use Rattle.ksm_book.proofs.Names.{relaid, Resettles, ResettlesEach, Row, row_at, same_page, same_page_refl, same_Some, seen, SetRun, shared_state, slice_get-get_or, slice_get_past, Some, sound_after}
use Rattle.ksm_book.proofs.Names.{sound_set, state_of, stepped, Store, stored, take-append_seam, traits, true, UnknownPage, Unmerge, Unmerged, unshare_stopped, unshared, Unshares, view_of, with_frame}
use Rattle.ksm_book.proofs.Names.{with_row, with_value, without_between, without_page, [], ℕ, ◌++◌, ◌+◌, ◌<◌, ◌==◌, ◌∙◌, ◌∷◌, ◌≡◌, ◌≤◌}
use Rattle.ksm_book.specs.Terms.{LooksSo, private_state}
use Rattle.ksm_pages.specs.declared.pages.Look.TheVariants as looks
use Rattle.ksm_pages.specs.declared.row.Spot.{Spot}
use Rattle.ksm_book.proofs.ByPage.{filled_by, found_page, lies_again, lies_still, row_of_page}
use Rattle.ksm_book.proofs.Laying.{come_there, laid_changed, laid_left, laid_mapped, laid_rows, may_leave, resettled, retuned, serves_at, turned}
use Rattle.ksm_book.proofs.Made.{spent_kept}
use Rattle.ksm_book.proofs.Moves.{removed, written_in}
use Rattle.ksm_book.proofs.Along.{along_end, along_next, along_stop, FitsPage, further, IsAlong, next_is, parted, passed, passed_all, position, there}

-- the pages, their keeper, the cursor and the passes as a book
abbrev pub book : PagesView → KeeperView → Option GuestPage → ℕ → BookView
book p k cursor passes = record { state = state_of p cursor passes; frame = p.frame; keeper = k }

-- a command was carried out on the pages and their keeper, with the cursor and the passes as they were, and all lies lawfully
abbrev pub Carries : PagesView → KeeperView → PagesView → KeeperView → Option GuestPage → ℕ → Command → Answer → Type 0
Carries p k q l cursor passes command answer = IsCarried (book p k cursor passes) (book q l cursor passes) command answer × IsLaid q l

-- the same of the parts of a state
abbrev pub Does : Inside → PagesView → KeeperView → Command → Answer → Type 0
Does s q l = Carries (seen s.pages) s.keeper q l s.cursor s.passes

-- a command that was carried out leaves a sound state, with what is known beside
pub lawful : {v w : BookView} {command : Command} {answer : Answer} {L : Type 0} → IsSound v.state → IsCarried v w command answer × L
    → IsSound w.state × L
lawful s h = (grind (arith, sound_after), h.1)

-- where a knob on which no dup hangs gets a value in its range, the state is sound, and all lies lawfully
pub tuned : {p q : PagesView} {k : KeeperView} {cursor : Option GuestPage} {passes : ℕ} (knob : Knob) (v : ℕ) → IsSound (state_of p cursor passes) × IsLaid p k
    → q ≡ record p { knobs = with_value knob v p.knobs } → is_in_range knob v ≡ true → (traits knob).fixed_while_shared ≡ false
    → IsSound (state_of q cursor passes) × IsLaid q k
tuned {p} {cursor = cursor} {passes} knob v h goes inside free =
    rw goes (sound_set (state_of p cursor passes) knob v inside free h.0, retuned (inl (grind (arith, free))) h.1)

-- a command carried out from one book value was carried out from an equal one, and so was an equal command
pub carried_so : {old now : BookValue} {w : BookView} {by given : Command} {answer : Answer} → old ≡ now → by ≡ given → IsCarried (view_of old) w by answer → IsCarried (view_of now) w given answer
carried_so same told h = grind (arith, h)

-- the row of a page is found by the page that was told of it
pub row_held : {p : PagesView} {page : GuestPage} {held : Held} (h : IsHeld p page held) → row_at held.spot.page p.rows ≡ Some h.row
row_held h = rw h.spot h.found

-- a page that is known has a row
pub row_known : (page : GuestPage) (rows : List Row) → is_some (row_at page rows) ≡ true → (row : Row) × (row_at page rows ≡ Some row)
row_known page rows known =
    let there = mapped_some (λ (r : Row). true) (row_at page rows) {y = true} (grind (arith, known)) in
    (there.0, there.1)

-- a page that was looked at and is private has a row that says so, and lies on the frame that is told
pub private_told : (p : PagesView) (page : GuestPage) (spot : Spot) (frame : ℕ) → LooksSo p page (looks.Private spot frame) → (spot.page ≡ page)
    × ((row : Row) × (row_at spot.page p.rows ≡ Some row) × (private_state row.state ≡ true)) × (p.frame spot.page ≡ Some frame)
private_told p page spot frame told = (told.0, filled_by (λ r. private_state r.state ≡ true) (rw told.0 told.1), rw told.0 told.2)

-- a page that is neither merged nor Zero lies on the frame that was told as its own
pub own_lies : {p : PagesView} {page : GuestPage} {held : Held} (h : IsHeld p page held) → held.shared ≡ false → p.frame page ≡ held.own
own_lies h alone = grind (arith, h.shared, h.own)

-- two changes that make the same of the row of a page change the rows alike
pub changed_alike : (page : GuestPage) (c d : Row → Row) (rows : List Row) (row : Row) → InPageOrder rows → row_at page rows ≡ Some row → c row ≡ d row
    → change_row page c rows ≡ change_row page d rows
changed_alike page c d rows row rise found same = map_alike _ _ rows (grind (arith, row_of_page page rows row rise found))

-- a page with a frame
module _ {p : PagesView} {k : KeeperView} (h : IsLaid p k) (page : GuestPage) (row : Row) (found : row_at page p.rows ≡ Some row) where
  -- it may be read, and has the page's bytes
  pub may_read : (g : ℕ) → p.frame page ≡ Some g
      → (g < frames_of k.table.shape) × IsReadable (frame_at k.ledger g).kind × (length (frame_at k.ledger g).content ≡ PAGE_WORDS) × ((frame_at k.ledger g).content ≡ row.bytes)
  may_read g lies = grind (arith, serves_at h.placed found lies)

  -- it may be stored to, where it is the page's own
  pub own_ready : shared_state row.state ≡ false → (g : ℕ) → p.frame page ≡ Some g
      → (g < frames_of k.table.shape) × (g < length k.ledger.frames) × IsWritable (frame_at k.ledger g).kind × (length (frame_at k.ledger g).content ≡ PAGE_WORDS)
  own_ready alone g lies = grind (arith, may_read g lies, serves_at h.placed found lies)

module _ {p : PagesView} {k l : KeeperView} {cursor : Option GuestPage} {passes : ℕ} {page : GuestPage} {bytes : List ℕ} {row : Row}
    (h : IsLaid p k) (rise : InPageOrder p.rows) (found : row_at page p.rows ≡ Some row) where
  -- `Store` is carried out, and all lies lawfully, where the bytes are stored to the page's own frame, and its row tells them
  pub store_written : {q : PagesView} (g : ℕ) → q ≡ record p { rows = change_row page (stored bytes) p.rows } → shared_state row.state ≡ false → p.frame page ≡ Some g → l ≡ stepped k (puts g 0 bytes)
      → l.ledger ≡ with_frame k.ledger g (holding (frame_at k.ledger g) bytes) → length bytes ≡ PAGE_WORDS → Carries p k q l cursor passes (Store page bytes) (Ok Done)
  store_written g goes alone lies wrote ledger wide =
      let served = serves_at h.placed found lies in (
        grind (arith, found_page),
        rw goes (laid_rows h l (rw wrote) (grind (arith, spent_kept))
            (rw ledger (written_in h.placed _ row rise found g lies (grind arith) bytes wide alone))),
      )

  -- `Store` is carried out, and all lies lawfully, where a shared page is resettled with the bytes, as its row tells
  pub store_copied : (lies : Option ℕ) {q : PagesView} → q ≡ relaid page (stored bytes) lies p → Resettles (lying p k) (lying q l) page row.home bytes × IsLaid q l
      → shared_state row.state ≡ true → Carries p k q l cursor passes (Store page bytes) (Ok Done)
  store_copied lies goes got shared = grind (arith, found_page)

-- a change that leaves the rows of a page as they are changes nothing
pub change_still : (page : GuestPage) (f : Row → Row) (rows : List Row) → All (λ r. same_page r.page page ≡ true → f r ≡ r) rows → change_row page f rows ≡ rows
change_still page f rows still = grind (arith, map_fixed)

module _ {p : PagesView} {k : KeeperView} {cursor : Option GuestPage} {passes : ℕ} {page : GuestPage} {node : ℕ} {row : Row} (rise : InPageOrder p.rows) (found : row_at page p.rows ≡ Some row) (less : node < p.shape.nodes) where
  -- `MovePage` to the node where the page is at home is carried out with nothing changed
  pub move_home : row.home ≡ node → IsCarried (book p k cursor passes) (book p k cursor passes) (MovePage page node) (Ok Done)
  move_home same = grind (arith, row_of_page, change_still)

  -- `MovePage` is carried out, and all lies lawfully, where the page is resettled on another node and at home there
  pub move_moved : {l : KeeperView} {q : PagesView} (lies : Option ℕ) → (row.home == node) ≡ false → q ≡ relaid page (at_home_on node) lies p
      → Resettles (lying p k) (lying q l) page node row.bytes × IsLaid q l → Carries p k q l cursor passes (MovePage page node) (Ok Done)
  move_moved lies away goes got = grind (arith, changed_alike, found_page)

module _ {p : PagesView} {k : KeeperView} (h : IsLaid p k) (rise : InPageOrder p.rows) {page : GuestPage} {row : Row}
    (found : row_at page p.rows ≡ Some row) {left : Option ℕ} (was : left ≡ p.frame page) where
  dropping : LiesWith (p.frame page) (record p { rows = without_page page p.rows; frame = lies_on page None p.frame }) k
  dropping = grind (arith, removed _ row rise found h.placed)

  -- the frame of a page that goes, if it has one, may be left
  pub drop_may : IfSome left (MayLeave k)
  drop_may = rw was (may_leave dropping)

  -- `Drop` is carried out, and all lies lawfully, where the page has left its frame and its row is gone
  pub drop_gone : {cursor : Option GuestPage} {passes : ℕ} {q : PagesView} {l : KeeperView} → q ≡ record p { rows = without_page page p.rows; frame = lies_on page None p.frame } → MakesSteps k l (leaving left)
      → Carries p k q l cursor passes (Drop page) (Ok Done)
  drop_gone {l = l} goes made = let leaves = rw was at made in (grind arith, rw goes (laid_left dropping l leaves))

-- a row that came and goes leaves the rows as they were
without_come : (row : Row) (rows : List Row) → InPageOrder rows → row_at row.page rows ≡ None → without_page row.page (with_row row rows) ≡ rows
without_come row rows rise absent =
    let out = without_between pages_ordered (λ (r : Row). r.page) row.page
    (filter (λ r. comes_before r.page row.page) rows) (row ∷ []) (filter (λ r. comes_before row.page r.page) rows)
    (filter_passes _ rows) (filter_passes _ rows) in
    grind (arith, same_page_refl row.page, absent_parts pages_ordered (λ (r : Row). r.page) row.page rows rise absent)

-- a page comes, at home on a node, with these bytes
pub record HasCome (p m : PagesView) (page : GuestPage) (node : ℕ) (bytes : List ℕ) : Type 0 where
  -- the rows are in order, and the page had none
  pub rise : InPageOrder p.rows
  pub absent : row_at page p.rows ≡ None
  -- it has one now, and no other page lies elsewhere
  pub comes : m ≡ record p { rows = with_row (fresh_row page node bytes) p.rows; frame = m.frame }
  pub others : m.frame ≡ lies_on page (m.frame page) p.frame
  -- there is such a node
  pub less : node < p.shape.nodes

module _ {p m : PagesView} {page : GuestPage} {node : ℕ} {bytes : List ℕ} (new : HasCome p m page node bytes) where
  abbrev fresh : Row
  fresh = fresh_row page node bytes

  -- the row of a page that came is found
  pub come_found : row_at page m.rows ≡ Some fresh
  come_found = ap (λ (x : PagesView). row_at page x.rows) new.comes ∙ find_put (λ (r : Row). r.page) _ _ p.rows refl

  module _ {k l : KeeperView} {cursor : Option GuestPage} {passes : ℕ} {q : PagesView} (h : IsLaid p k) where
    -- `Register` is carried out, and all lies lawfully, where the page comes on a frame taken with its bytes
    pub register_come : {g : ℕ} → q ≡ record m { frame = lies_on page (Some g) m.frame } → Provides k l node bytes g → HasNewFrame k l node bytes g
        → Carries p k q l cursor passes (Register page node bytes) (Ok Done)
    register_come {g} goes provides taken =
        let there : q ≡ record p { rows = with_row fresh p.rows; frame = lies_on page (Some g) p.frame } =
        grind (arith, goes, new.comes, new.others, lies_again) in (
          grind arith,
          rw there (come_there h provides taken _ new.absent refl refl refl),
        )

    -- `Register` is refused, and all lies lawfully, where no frame of the node was left and the page went again
    pub register_turned : p.frame page ≡ None → q ≡ record m { rows = without_page page m.rows; frame = lies_on page None m.frame } → FindsNone k l node
        → Carries p k q l cursor passes (Register page node bytes) (Err (NoFrame node))
    register_turned nowhere_there goes searched =
        let rows = ap (λ (x : PagesView). without_page page x.rows) new.comes ∙ without_come _ _ new.rise new.absent in
        let frame : lies_on page None m.frame ≡ p.frame = grind (arith, new.others, lies_again, lies_still) in
        let back : q ≡ p = grind (arith, goes, new.comes) in
        (grind arith, rw back (turned h searched).laid)

module _ {p q : PagesView} {k l : KeeperView} {cursor : Option GuestPage} {passes place node : ℕ} {dup : DupRow} (found : Some dup ≡ live_dup_at (state_of p cursor passes) place) (may : MayMove p k dup node) where
  -- `MoveDup` is carried out, and answers `Done` where the dup moved to a frame of the node, else the fault for which it stayed
  pub remount_carried : (answer : Answer) → HasRemounted p q k l dup node answer → IsCarried (book p k cursor passes) (book q l cursor passes) (MoveDup place node) answer
  remount_carried answer h = grind arith

-- where all rows are mergeable, none changes by becoming so
pub stay_in_scan : (test : Row → Bool) (rows : List Row) → mergeable_count rows ≡ length rows
    → rows ≡ change_rows test (λ r. record r { mergeable = true }) rows
stay_in_scan test [] all = refl
stay_in_scan test (r ∷ rows) all =
    let few = count_by-le-length (λ (s : Row). s.mergeable) rows in
    grind (arith, stay_in_scan test rows, count_more (λ s. s.mergeable) r rows, few)

-- a row that is left keeps its page
pub page_left : (guest : Option ℕ) (r : Row) → (left_by guest r).page ≡ r.page
page_left guest r = grind arith

-- a guest's row that is left leaves the scan
pub left_some : (guest : Option ℕ) → is_some guest ≡ true → let_go ≡ left_by guest
left_some None some = grind arith
left_some (Some guest) some = refl

-- the row of a page is left: a guest's, or any
module _ {p : PagesView} {k : KeeperView} (guest : Option ℕ) {page : GuestPage} {held : Held} (told : IsHeld p page held) (h : IsLaid p k)
    (rise : InPageOrder p.rows) where
  abbrev row : Row
  row = told.row

  one : All (λ r. same_page r.page page ≡ true → r ≡ row) p.rows
  one = grind (arith, row_of_page)

  module _ (test : not held.shared ≡ true) where
    -- a page with a frame of its own gets none
    left_own : (q : PagesView) → q ≡ record p { rows = change_row page (left_by guest) p.rows }
        → HasLeft p q k k guest page 0
    left_own q goes = grind (arith, laid_changed h page row (left_by guest) rise told.found, page_left)

    -- a row with a frame of its own is left as it is where all pages are asked for
    pub left_still : is_some guest ≡ false → HasLeft p p k k guest page 0
    left_still none = grind (arith, left_own, change_still, one)

    -- a guest's row with a frame of its own is left once it is let go, and no frame is given for it
    pub left_alone : is_some guest ≡ true → {q : PagesView} → q ≡ record p { rows = change_row page let_go p.rows }
        → HasLeft p q k k guest page 0
    left_alone some {q} goes = grind (arith, left_own)

  -- any other that was shared is not unchanged
  pub left_any : not held.shared ≡ false → is_some guest ≡ false → change_row page unshared p.rows ≡ change_row page (left_by guest) p.rows
  left_any test none = changed_alike page unshared (left_by guest) p.rows row rise told.found (grind arith)

  -- a shared row is left where its page takes a frame with its bytes, and leaves the one that it had
  pub left_shared : {w l : KeeperView} {q : PagesView} {bytes : List ℕ} {g : ℕ} {left : Option ℕ} → Provides k w held.home bytes g → HasNewFrame k w held.home bytes g
      → left ≡ p.frame page → MakesSteps w l (leaving left) → option_map (λ r. r.bytes) (row_at page p.rows) ≡ Some bytes → not held.shared ≡ false
      → q ≡ relaid page (left_by guest) (Some g) p → HasLeft p q k l guest page 1
  left_shared provides took was made are test goes =
      let got = resettled h rise told.found provides took was (left_by guest) (page_left guest) (grind arith) (grind (arith, told.home))
      (grind (arith, same_Some)) goes made in
      grind (arith, found_page, got)

-- rows that are resettled after others
each_then : (xs ys : List Row) (u v w : Mapped) → ResettlesEach xs u v → ResettlesEach ys v w → ResettlesEach (xs ++ ys) u w
each_then [] ys u v w idle more = grind (arith, more)
each_then (x ∷ xs) ys u v w (between, first, others) more = (between, first, each_then xs ys between v w others more)

-- so many pages of the guest, or of all, got frames of their own; the cursor is at the last page that was looked at
pub record IsUnsharing (p q : PagesView) (k l : KeeperView) (guest : Option ℕ) (count : ℕ) (last : Option GuestPage) : Type 0 where
  -- the rows asked for are changed up to the cursor, as rows that were left
  pub along : IsAlong (of_guest guest) (left_by guest) p.rows q.rows last
  -- nothing changed but the rows, and where pages lie
  pub pages : q ≡ record p { rows = q.rows; frame = q.frame }
  -- the count is that of the shared rows among them
  pub counted : count ≡ length (filter (passed (is_shared_of guest) last) p.rows)
  -- these were resettled, one after another
  pub each : ResettlesEach (filter (passed (is_shared_of guest) last) p.rows) (lying p k) (lying q l)
  -- rows and dups lie lawfully
  pub laid : IsLaid q l
  -- the count is at most the cursor's position
  pub few : count ≤ position last
  -- the numbers of the cursor's page fit
  pub fits : FitsPage last

module _ {p q : PagesView} {k l : KeeperView} {guest : Option ℕ} {count : ℕ} {last : Option GuestPage}
    (u : IsUnsharing p q k l guest count last) (rise : InPageOrder p.rows) where
  abbrev met : List Row
  met = filter (passed (is_shared_of guest) last) p.rows

  module _ {page : GuestPage} (told : option_map (λ r. r.page) (find (is_next guest last) q.rows) ≡ Some page) where
    abbrev next : (row : Row) × (find (is_next guest last) p.rows ≡ Some row) × (row.page ≡ page)
    next = next_is (page_left guest) u.along rise told

    abbrev r : Row
    r = next.0

    at : row_at page q.rows ≡ Some r
    at = there (page_left guest) u.along rise told

    asks : of_guest guest r ≡ true
    asks = grind (arith, find_passes (is_next guest last) p.rows r next.1)

    cut : (rest : List Row) × (filter (passed (is_shared_of guest) (Some r.page)) p.rows ≡ met ++ filter (is_shared_of guest) (r ∷ []))
        × (filter (is_shared_of guest) p.rows ≡ met ++ (filter (is_shared_of guest) (r ∷ []) ++ rest))
    cut = parted (of_guest guest) (is_shared_of guest) (grind arith) last p.rows r rise next.1

    -- the next page is at home on a node that is there
    pub unsharing_home : {held : Held} → IsHeld q page held → All (λ x. x.home < p.shape.nodes) p.rows → held.home < q.shape.nodes
    unsharing_home h homes =
        grind (arith, at, find_all (is_next guest last) (λ x. x.home < p.shape.nodes) p.rows r next.1 homes)

    -- once the next page was left too, so many pages more got frames of their own, up to that page
    pub unsharing_next : {v : PagesView} {w : KeeperView} {given : ℕ} → HasLeft q v l w guest page given → FitsPage (Some page)
        → IsUnsharing p v k w guest (count + given) (Some page)
    unsharing_next {v} h fits =
        let goes_along = along_next (page_left guest) u.along rise told in
        grind (arith, at, asks, next.2, cut.1, goes_along, length-append, each_then, further)

    -- where no frame was left for the next page, the unsharing stops there, and the shared rows before it are done
    pub unsharing_stop : {v : PagesView} {w : KeeperView} {fault : Fault} → MayNotLeave q v l w page fault
        → Unshares p v k w guest count (Some fault)
    unsharing_stop {v} {w} {fault} h =
        let shared : is_shared_of guest r ≡ true = grind (arith, at, asks) in
        let are : filter (is_shared_of guest) p.rows ≡ met ++ r ∷ cut.0 = grind (arith, cut.2) in
        record {
          at = Some r;
          fault = grind (arith, at);
          stands = grind (arith, are, slice_get-get_or (met ++ r ∷ cut.0) (length met) r, get_or-append_seam met r cut.0 r, length-append);
          pages = grind (arith, along_stop (page_left guest) u.along rise told);
          unmerges = grind (arith, are, at, take-append_seam);
          laid = h.turned.laid;
        }

  -- where no page is left to look at, the shared rows of the guest, or of all, are unshared with no stop
  pub unsharing_end : find (is_next guest last) q.rows ≡ None → Unshares p q k l guest count None
  unsharing_end ended =
      let all = passed_all (page_left guest) u.along ended (is_shared_of guest) (grind arith) in
      grind (arith, along_end (page_left guest) u.along ended, all, append-nil, take-append_seam met [])

-- the row is visited by the scan
abbrev pub in_scan : Row → Row
in_scan r = record r { mergeable = true }

-- the first row of a guest is told, if it has one
abbrev pub IsTold : PagesView → ℕ → Option Held → Type 0
IsTold p guest told = MatchOption told (find (is_next (Some guest) None) p.rows ≡ None) (λ held. IsHeld p held.spot.page held
    × (option_map (λ r. r.page) (find (is_next (Some guest) None) p.rows) ≡ Some held.spot.page))

-- a guest has a row exactly where a first row of the guest is told
has_told : (p : PagesView) (guest : ℕ) (o : Option Held) → IsTold p guest o → list_any (is_of guest) p.rows ≡ is_some o
has_told p guest o told = any_found (is_of guest) p.rows ∙ (grind (arith, told))

-- it was asked for the first row of a guest
module _ (p : PagesView) {k : KeeperView} {cursor : Option GuestPage} {passes guest : ℕ} (o : Option Held) (told : IsTold p guest o) where
  -- where the guest has no row, `Unmerge` and `Mergeable` of it are refused, and nothing changes
  pub guest_refused : is_some o ≡ false → let b = book p k cursor passes in IsCarried b b (Unmerge guest) (Err UnknownPage) × IsCarried b b (Mergeable guest) (Err UnknownPage)
  guest_refused none = grind (arith, has_told p guest o told)

  -- `Unmerge` of a guest that has a row is carried out where its shared rows are unshared up to a stop or the end
  pub unmerge_carried : {q : PagesView} {l : KeeperView} {count : ℕ} {stop : Option Fault} → is_some o ≡ true → Unshares p q k l (Some guest) count stop
      → Carries p k q l cursor passes (Unmerge guest) (Ok (Unmerged count stop))
  unmerge_carried some u = (grind (arith, has_told p guest o told, slice_get_past), u.laid)

  -- `Mergeable` of a guest that has a row is carried out where all its rows are put in the scan
  pub mergeable_carried : {q : PagesView} → is_some o ≡ true → IsLaid p k → q ≡ record p { rows = change_rows (is_of guest) in_scan p.rows }
      → Carries p k q k cursor passes (Mergeable guest) (Ok Done)
  mergeable_carried {q} some h goes =
      (grind (arith, has_told p guest o told), rw goes (laid_mapped h _ (grind arith) (grind arith)))

module _ {p m : PagesView} {k l : KeeperView} (cursor : Option GuestPage) (passes : ℕ) {count : ℕ} {stop : Option Fault}
    (u : Unshares p m k l None count stop) {knobs : Knobs} (same : knobs ≡ p.knobs) where
  abbrev b : BookState
  b = state_of p cursor passes

  -- whatever it does to the rows and knobs once the pages have left
  carried : (q : PagesView) (cursor' : Option GuestPage) → q.frame ≡ m.frame → state_of q cursor' passes ≡ unshare_stopped stop count b
      → IsCarried (book p k cursor passes) (book q l cursor' passes) (SetRun 2) (Ok (Unmerged count stop))
  carried q cursor' frame state = grind arith

  -- `SetRun` 2 is carried out, and all lies lawfully, where the unsharing of all rows stopped and run is 0 then
  pub unshare_stops : is_some stop ≡ true → {q : PagesView} → q ≡ record m { knobs = record knobs { run = 0 } }
      → IsCarried (book p k cursor passes) (book q l cursor passes) (SetRun 2) (Ok (Unmerged count stop)) × IsLaid q l
  unshare_stops some {q} goes = (carried q _ (rw goes) (grind arith), rw goes (retuned (inl (grind arith)) u.laid))

  module _ (none : is_some stop ≡ false) where
    went : m.rows ≡ map (left_by None) p.rows
    went = grind arith

    -- where the unsharing of all rows did not stop, no row is merged or Zero
    pub unshare_none : All (λ r. shared_state r.state ≡ false) m.rows
    unshare_none = rw went (All-map (λ r. shared_state r.state ≡ false) _ _ (grind arith))

    -- `SetRun` 2 is carried out, and all lies lawfully, where the unsharing of all rows went through and run is 2 then
    pub unshare_ends : {w q : PagesView} → w ≡ record m { rows = map unshared m.rows }
        → q ≡ record w { knobs = record knobs { run = 2 } }
        → IsCarried (book p k cursor passes) (book q l None passes) (SetRun 2) (Ok (Unmerged count stop)) × IsLaid q l
    unshare_ends {w} {q} wide goes =
        let there = laid_mapped u.laid unshared (λ r. refl) (grind (arith, unshare_none)) in
        let rows : map unshared m.rows ≡ map unshared p.rows = grind (arith, went, map_mapped) in
        grind (arith, carried q None, retuned)
