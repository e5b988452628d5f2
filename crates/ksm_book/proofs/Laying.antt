-- What becomes of pages that lie lawfully, where the keeper makes its steps, and where a page gets another frame.
use Rattle.ksm_book.proofs.Names.{All, arith, blank, cases_lt, change_row, cond_both, default_knobs, DupRow, false, find_all, FindsNone, first_ledger, frame_at, Frames, get_or, get_or-replicate}
use Rattle.ksm_book.proofs.Names.{get_or_past, GuestPage, HasNewFrame, IfSome, inl, InPageOrder, IsLaid, IsServed, IsShape, KeeperView, Keeps, Knobs, leaving, Ledger, length-replicate, lies_on}
use Rattle.ksm_book.proofs.Names.{LiesWith, List, lying, MakesSteps, map, MayLeave, None, nowhere, Option, OwnPage, PagesView, Placed, Provides, refl, relaid, Resettles, Row, row_at, Shape}
use Rattle.ksm_book.proofs.Names.{shared_state, Some, spent, subst, TurnedAway, with_row, [], ℕ, ◌≡◌, ◌≤◌, ◌⊎◌}
use Rattle.ksm_book.proofs.ByPage.{found_page, row_of_page}
use Rattle.ksm_book.proofs.Moves.{inserted, noted, remapped, Serves, swapped}
use Rattle.ksm_book.proofs.Carried.{provides_does}
use Rattle.ksm_book.proofs.Made.{held_inside, none_made, reaps_spend, searched_placed, spent_kept, step_made}

-- a row may stand in the stead of another on its frame: same home and bytes, and the same state, or neither is shared
abbrev pub LodgesAs : Row → Row → Type 0
LodgesAs row r = (row.home ≡ r.home) × (row.bytes ≡ r.bytes) × ((row.state ≡ r.state) ⊎ ((shared_state r.state ≡ false) × (shared_state row.state ≡ false)))

module _ {sh : Shape} {across : ℕ} {rows : List Row} {frame : Frames} {dups : List DupRow} where
  -- a placement that is lawful before a call is lawful after it, where the call keeps every lawful placement
  pub kept : (v : KeeperView) {hand : Option ℕ} → v.table.shape ≡ sh → (w : KeeperView) (hand' : Option ℕ)
      → Keeps v w hand hand' → Placed sh across v.ledger rows frame dups hand → Placed sh across w.ledger rows frame dups hand'
  kept v same w hand' keeps p = rw (← same) (keeps across rows frame dups (rw same p))

  module _ {k : Ledger} {hand : Option ℕ} (p : Placed sh across k rows frame dups hand) where
    -- the row of a page is served by its frame
    pub served_at : (page : GuestPage) (row : Row) → row_at page rows ≡ Some row → IsServed sh k dups row (frame page)
    served_at page row found = subst (λ q. IsServed sh k dups row (frame q)) (found_page _ _ row found) (find_all _ (λ r. IsServed sh k dups r (frame r.page)) _ row found p.each_row)

    -- and the frame on which the page lies serves it
    pub serves_at : {page : GuestPage} {row : Row} {g : ℕ} → row_at page rows ≡ Some row → frame page ≡ Some g → Serves sh k dups row g
    serves_at found lies = rw lies at (served_at _ _ found)

-- the frame in hand, if there is one, may be left
pub may_leave : {hand : Option ℕ} {p : PagesView} {k : KeeperView} → LiesWith hand p k → IfSome hand (MayLeave k)
may_leave {hand = None} h = tt
may_leave {hand = Some g} h = grind (arith, held_inside h.placed)

-- pages lie lawfully once it was left
pub laid_left : {hand : Option ℕ} {p : PagesView} {k : KeeperView} → LiesWith hand p k → (w : KeeperView) → MakesSteps k w (leaving hand) → IsLaid p w
laid_left {hand = None} h w m = rw (none_made m) h
laid_left {hand = Some g} {p} h w m =
    let placed : Placed p.shape p.knobs.merge_across_nodes w.ledger p.rows p.frame p.dups None = rw (step_made m).1
    (noted h.placed g (held_inside h.placed).0 _ None (grind (arith, held_inside h.placed)) (grind arith)) in
    grind (arith, h, placed, step_made m, spent_kept)

-- the row of a page changes, the page lies on the frame that was in hand, if one was, and its own comes into the hand
pub lies_changed : {hand : Option ℕ} {p : PagesView} {k : KeeperView} {page : GuestPage} {row : Row} → LiesWith hand p k → (c : Row → Row)
    → InPageOrder p.rows → row_at page p.rows ≡ Some row → ((r : Row) → (c r).page ≡ r.page) → IsServed p.shape k.ledger p.dups (c row) hand
    → LiesWith (p.frame page) (relaid page c hand p) k
lies_changed {hand} h c rise found keeps new = grind (arith, swapped hand c _ rise found keeps h.placed new)

module _ {p : PagesView} {k : KeeperView} (h : IsLaid p k) where
  -- pages lie lawfully with other rows and frames that are placed lawfully beside the same dups
  pub laid_rows : {rows : List Row} {frame : Frames} (w : KeeperView) → w.table ≡ k.table → spent k.ledger ≤ spent w.ledger → Placed p.shape p.knobs.merge_across_nodes w.ledger rows frame p.dups None
      → IsLaid (record p { rows = rows; frame = frame }) w
  laid_rows w e more placed = grind arith

  -- pages lie lawfully where each row changes into one that may stand in its stead on its frame
  pub laid_mapped : (c : Row → Row) → ((r : Row) → (c r).page ≡ r.page) → All (λ r. LodgesAs (c r) r) p.rows → IsLaid (record p { rows = map c p.rows }) k
  laid_mapped c keeps lodges = laid_rows k refl (omega arith) (remapped None c keeps h.placed (grind arith))

  -- pages lie lawfully where the row of a page changes into one that may stand in its stead on its frame
  pub laid_changed : (page : GuestPage) (row : Row) (c : Row → Row) → InPageOrder p.rows → row_at page p.rows ≡ Some row
      → ((r : Row) → (c r).page ≡ r.page) → LodgesAs (c row) row → IsLaid (record p { rows = change_row page c p.rows }) k
  laid_changed page row c rise found keeps lodges =
      laid_mapped _ (grind arith)
      (λ i d lt. let r = get_or p.rows i d in cond_both _ (c r) r (λ x. LodgesAs x r)
      (grind (arith, row_of_page)) (λ _. (refl, refl, inl refl)))

-- pages lie lawfully with other knobs, where merge_across_nodes stays as it is or there are no dups
pub retuned : {p : PagesView} {tuned : Knobs} {k : KeeperView} → (tuned.merge_across_nodes ≡ p.knobs.merge_across_nodes) ⊎ (p.dups ≡ []) → IsLaid p k → IsLaid (record p { knobs = tuned }) k
retuned either h = grind arith

pub first_note : (sh : Shape) (f : ℕ) → frame_at (first_ledger sh) f ≡ blank
first_note sh f = grind (arith, get_or-replicate, get_or_past, length-replicate, cases_lt)

-- pages lie lawfully as they are opened, with no rows and no dups, where the keeper has its first ledger
pub first_laid : {sh : Shape} {k : KeeperView} → IsShape sh → k.table.shape ≡ sh → k.ledger ≡ first_ledger sh
    → IsLaid (record { shape = sh; rows = []; frame = nowhere; dups = []; knobs = default_knobs; next = 0 }) k
first_laid {sh} is same first = grind (arith, length-replicate, first_note, get_or-replicate, get_or_past, cases_lt)

module _ {p : PagesView} {k w : KeeperView} (h : IsLaid p k) {node : ℕ} {bytes : List ℕ} {g : ℕ} (provides : Provides k w node bytes g)
    (taken : HasNewFrame k w node bytes g) where
  in_new_hand : LiesWith (Some g) p w
  in_new_hand = grind (arith, kept k h.same w _ taken.keeps h.placed, (provides_does provides).1.table)

  serves : (r : Row) → r.state ≡ OwnPage → r.home ≡ node → r.bytes ≡ bytes → Serves p.shape w.ledger p.dups r g
  serves r own home content = grind (arith, in_new_hand)

  -- pages lie lawfully where a new row comes on the frame taken
  pub come_there : (r : Row) → row_at r.page p.rows ≡ None → r.state ≡ OwnPage → r.home ≡ node → r.bytes ≡ bytes
      → IsLaid (record p { rows = with_row r p.rows; frame = lies_on r.page (Some g) p.frame }) w
  come_there r absent own home content = grind (arith, in_new_hand, inserted _ r absent in_new_hand.placed (serves r own home content))

module _ {p : PagesView} {k w : KeeperView} (h : IsLaid p k) (rise : InPageOrder p.rows) {page : GuestPage} {row : Row} (found : row_at page p.rows ≡ Some row) {node : ℕ}
    {bytes : List ℕ} {g : ℕ} (provides : Provides k w node bytes g) (taken : HasNewFrame k w node bytes g) {left : Option ℕ} (was : left ≡ p.frame page) where
  moved_there : (c : Row → Row) → ((r : Row) → (c r).page ≡ r.page) → (c row).state ≡ OwnPage → (c row).home ≡ node → (c row).bytes ≡ bytes
      → LiesWith (p.frame page) (relaid page c (Some g) p) w
  moved_there c keeps own home content =
      lies_changed (in_new_hand h provides taken) c rise found keeps (serves h provides taken _ own home content)

  -- once a page has a new frame in hand, the frame that it had, if it had one, may be left
  pub may_left : IfSome left (MayLeave w)
  may_left = rw was (may_leave (moved_there (λ r. record r { home = node; bytes = bytes; state = OwnPage }) (λ r. refl) refl refl refl))

  -- a page that took a frame with its bytes on a node, and left the one that it had, is resettled there, where its row tells so
  pub resettled : (change : Row → Row) → ((r : Row) → (change r).page ≡ r.page) → (change row).state ≡ OwnPage → (change row).home ≡ node → (change row).bytes ≡ bytes
      → {q : PagesView} {u : KeeperView} → q ≡ relaid page change (Some g) p → MakesSteps w u (leaving left) → Resettles (lying p k) (lying q u) page node bytes × IsLaid q u
  resettled change keeps own home content {u = u} goes made =
      let leaves = subst (λ o. MakesSteps w u (leaving o)) was made in
      (grind arith, rw goes (laid_left (moved_there change keeps own home content) u leaves))

-- where no frame of a node was found, pages that lie lawfully are turned away, and no page changed
pub turned : {p : PagesView} {k w : KeeperView} {node : ℕ} → IsLaid p k → FindsNone k w node → TurnedAway p p k w node
turned {k = k} {w} h none =
    grind (arith, kept k h.same w _ (searched_placed _ none.reaped) h.placed, reaps_spend _ _ _ none.reaped)
