-- The visit of a row, by what is found: what becomes of the book, and what is done to the frames.
use Rattle.ksm_book.proofs.Names.{Add, All, All-contains_itself, are_paired, arith, Best, best_dup, best_dup_has_room, BookState, BookValue, BookView, Bool, change_row, Contains}
use Rattle.ksm_book.proofs.Names.{Contains-append_right, count_none, Did, did, Dup, dup_of_row, DupRow, each_at_page, eq-eqb, false, Find, find_all, find_changed, find_changed_other, find_passes}
use Rattle.ksm_book.proofs.Names.{FindsAt, FindsRow, FindsStill, Frames, frames_of, GuestPage, HasRoom, HasRow, HasVisited, idle, IfSome, if◌then◌else◌, InPageOrder, is_best, is_restless, IsFree}
use Rattle.ksm_book.proofs.Names.{IsJoined, IsLaid, IsSound, IsVacant, item_count, ItemsLieOn, joined_count, KeeperStep, KeeperView, leaving, lies_on, LiesWith, list_any, lying, MakesSteps, map}
use Rattle.ksm_book.proofs.Names.{map_mapped, May, MayLeave, MayPair, Merged, merged_into, merged_state, MOST_REFERENCES, new_place, new_place_free, next_is_new, None, Option}
use Rattle.ksm_book.proofs.Names.{ordered_change, OwnPage, page_visited, PagesView, Partner, partner, Performs, place_count, Publish, refl, relaid, Row, row_at, row_changed, row_visited, row_visiting}
use Rattle.ksm_book.proofs.Names.{settled, shared_state, Some, sound_row_visited, state_of, Sub, subst, sym, true, view_of, VisitsPage, Waiting, waits_for, waits_tells, WaitsFor, with_dup, Withdraw}
use Rattle.ksm_book.proofs.Names.{withdrawing, Zero, [], ℕ, ◌+◌, ◌-◌, ◌<◌, ◌==◌, ◌∙◌, ◌∷◌, ◌≡◌, ◌≤◌}
use Rattle.ksm_book.proofs.ByPage.{filled_by, found_page, row_of_page}
use Rattle.ksm_book.proofs.Made.{made_one, made_then}
use Rattle.ksm_book.proofs.Sharing.{laid_found, laid_joined, Lives, lives, may_found, may_join as join_may, may_part, spent_most, vacant_loose}
use Rattle.ksm_book.proofs.Moves.{found_in}
use Rattle.ksm_book.proofs.Promised.{finds_place}
use Rattle.ksm_pages.proofs.Paired.{both_changed}
use Rattle.ksm_book.proofs.Singles.{book}
use Rattle.ksm_pages.specs.declared.pages.Find.TheVariants as finds
use Rattle.ksm_book.proofs.Folded.{then_idle}
use Rattle.ksm_book.proofs.Laying.{laid_changed, laid_left, lies_changed, LodgesAs, may_leave}

-- a row that a visit may change has a frame of its own
pub restless_own : (row : Row) → is_restless row ≡ true → shared_state row.state ≡ false
restless_own row is = grind arith

-- a step of the keeper was made, as its call says
pub made_by : {v w : KeeperView} {e : KeeperStep} → Did v e w → MakesSteps v w (e ∷ [])
made_by {v} {w} {e} did = made_one v w e _ did.1

-- in a book that lies lawfully a visit found something of the row of a page, and may have changed the pages
pub record Meets (f : Find) (p q : PagesView) (k : KeeperView) (cursor : Option GuestPage) (passes : ℕ) (v : BookView)
    (page : GuestPage) : Type 0 where
  -- the pages, the keeper, the cursor and the passes are the book seen
  pub is : book p k cursor passes ≡ v
  -- the book is sound, and rows and dups lie lawfully
  pub sound : IsSound (state_of p cursor passes)
  pub laid : IsLaid p k
  -- the row that is found at the page
  pub row : Row
  pub found : row_at page p.rows ≡ Some row
  pub so : FindsAt p q row f

-- the visit of a page in the book seen as v leads to this book
pub record Leads (v : BookView) (q : PagesView) (l : KeeperView) (cursor : Option GuestPage) (passes : ℕ) (page : GuestPage) : Type 0 where
  -- the book then is sound, and its rows and dups lie lawfully
  pub lawful : IsSound (state_of q cursor passes) × IsLaid q l
  -- the page's row was visited
  pub visits : VisitsPage v (book q l cursor passes) page

module _ {p : PagesView} {k : KeeperView} {cursor : Option GuestPage} {passes : ℕ} {v : BookView} {page : GuestPage} where
  -- a row of which a visit finds something, as callers see it, and changes nothing, is met with it
  pub meets : {f : Find} → IsSound (state_of p cursor passes) × IsLaid p k → book p k cursor passes ≡ v → FindsStill v page f
      → Meets f p p k cursor passes v page
  meets {f} lawful same told = grind (arith, filled_by, told)

  -- a row of which a visit found something is met with it
  pub finds_it : (f : Find) → (f ≡ finds.Gone → ⊥) → IsSound (state_of p cursor passes) × IsLaid p k → book p k cursor passes ≡ v
      → (q : PagesView) {found : Find} → found ≡ f → FindsRow p q page found → Meets f p q k cursor passes v page
  finds_it f some lawful same q is told = grind arith

  module _ {f : Find} {q : PagesView} (at : Meets f p q k cursor passes v page) where
    -- the row that is met is of the page
    pub page_is : at.row.page ≡ page
    page_is = found_page _ _ _ at.found

    -- the row that is met is found at its own page
    pub there_is : row_at at.row.page p.rows ≡ Some at.row
    there_is = grind (arith, page_is)

    -- where the row met was visited, and all lies lawfully then, the visit leads to that book
    pub leads : (n : PagesView) (l : KeeperView) → is_restless at.row ≡ true → IsLaid n l
        → state_of n cursor passes ≡ row_visited (state_of p cursor passes) at.row
        → Performs (lying p k) (lying n l) (row_visiting (state_of p cursor passes) p.frame at.row) → Leads v n l cursor passes page
    leads n l restless laid state does = record {
      lawful = (
        subst IsSound (sym state) (sound_row_visited _ _ (grind (arith, row_of_page, there_is)) at.sound),
        laid,
      );
      visits = grind arith;
    }

  -- a page joins a dup
  module _ (best : Best) (at : Meets (Dup best) p p k cursor passes v page) (g : ℕ)
      (lies : All (λ d. d.place ≡ best.place → ItemsLieOn d.number g p) p.dups) where
    abbrev row : Row
    row = at.row

    told : (d : DupRow) × (best_dup p.knobs p.rows p.dups row ≡ Some d) × ((best.number ≡ d.number) × (best.place ≡ d.place))
    told = filled_by _ at.so.1

    abbrev dup : DupRow
    dup = told.0

    among : (P : DupRow → Type 0) → All P p.dups → P dup
    among P all = find_all _ P _ dup told.1 all

    live : Lives k.ledger p.dups p.shape p.rows p.frame dup
    live = among (λ d. (item_count p.rows d ≡ 0 → ⊥) → Lives k.ledger p.dups p.shape p.rows p.frame d) (lives at.laid.placed)
        (λ none. grind (arith, find_passes (is_best p.knobs p.rows p.dups row) p.dups dup told.1))

    abbrev item : Row
    item = live.item

    of_item : (P : Row → Type 0) → All P p.rows → P item
    of_item P all = find_all _ P _ _ live.first all

    item_merged : merged_state item.state ≡ true
    item_merged = grind arith

    found_item : row_at item.page p.rows ≡ Some item
    found_item = of_item (λ r. row_at r.page p.rows ≡ Some r) (each_at_page _ at.sound.rows_rise)

    there : p.frame item.page ≡ Some g
    there = of_item (λ r. merged_into dup.number r.state ≡ true → p.frame r.page ≡ Some g)
        (among (λ d. d.place ≡ best.place → ItemsLieOn d.number g p) lies (sym told.2.1)) live.merged

    joins : IsJoined (state_of p cursor passes) row dup
    joins = best_dup_has_room _ row dup at.sound told.1

    same_bytes : row.bytes ≡ item.bytes
    same_bytes = grind (arith, of_item, joins)

    few : item_count p.rows dup ≤ MOST_REFERENCES - 1
    few = omega (arith, joins.room)

    stands : Contains p.dups dup
    stands = among (Contains p.dups) (All-contains_itself _)

    -- the dup that a page is to join has room for one item more
    pub has_room : HasRoom p.rows p.dups best.number
    has_room = (dup, stands, sym told.2.0, few)

    -- a reference may come to the frame of the dup that a page is to join
    pub may_add : May k (Add g)
    may_add =
        join_may at.laid at.sound.rows_rise _ row _ at.found found_item g there item_merged dup stands live.merged few

    abbrev change : Row → Row
    change r = record r { state = Merged best.number }

    -- once a reference came to the dup's frame, the joining page's own frame, if it has one, may be left
    pub may_sub : (w : KeeperView) → MakesSteps k w (Add g ∷ []) → IfSome (p.frame page) (MayLeave w)
    may_sub = may_part at.laid at.sound.rows_rise page row item at.found found_item g there item_merged change
        (λ r. refl) (grind arith) same_bytes

    module _ (lone : ℕ) (left : p.frame page ≡ Some lone) {w l : KeeperView} (comes : MakesSteps k w (Add g ∷ []))
        (leaves : MakesSteps w l (Sub lone ∷ [])) (q : PagesView)
        (goes : q ≡ record p { rows = change_row page change p.rows; frame = q.frame })
        (frame : All (λ r. merged_into best.number r.state ≡ true → q.frame ≡ lies_on page (p.frame r.page) p.frame) p.rows) where
      q_is : q ≡ record p { rows = change_row page change p.rows; frame = lies_on page (Some g) p.frame }
      q_is = grind (arith, there, of_item)

      steps : MakesSteps k l (Add g ∷ leaving (p.frame page))
      steps = rw left (made_then comes leaves)

      -- once the page is an item of the dup and lies on the dup's frame, the book is what the visit leads to
      pub joined_leads : Leads v q l cursor passes page
      joined_leads =
          leads at q l at.so.0
          (rw q_is
          (laid_joined at.laid at.sound.rows_rise _ row _ at.found found_item g there
          item_merged _ (λ r. refl) (grind arith) same_bytes l steps))
          (grind (arith, q_is, page_is at, told, at.so))
          (grind (arith, page_is at, live.first, there, steps, q_is, told, at.so))

  -- a page becomes Zero
  module _ (at : Meets finds.Zero p p k cursor passes v page) where
    abbrev zeroed : Row → Row
    zeroed r = record r { state = Zero }

    zero_hand : LiesWith (p.frame page) (relaid page zeroed None p) k
    zero_hand = lies_changed at.laid _ at.sound.rows_rise at.found (λ r. refl) refl

    -- the frame of a page that is to become Zero may be left
    pub may_empty : {left : Option ℕ} → left ≡ p.frame page → IfSome left (MayLeave k)
    may_empty was = rw was (may_leave zero_hand)

    -- once the page is Zero and has left its frame, the book is what the visit leads to
    pub zero_leads : (q : PagesView) {l : KeeperView} {left : Option ℕ} → left ≡ p.frame page → MakesSteps k l (leaving left)
        → q ≡ relaid page zeroed None p → Leads v q l cursor passes page
    zero_leads q {l} was made goes =
        leads at q l at.so.0 (rw goes (laid_left zero_hand l (subst (λ o. MakesSteps k l (leaving o)) was made)))
        (grind (arith, goes, page_is at, at.so)) (grind (arith, goes, page_is at, at.so))

-- the visit of a row that is found to wait makes the row Waiting, and does nothing to the frames
waits_is : (p q : PagesView) (cursor : Option GuestPage) (passes : ℕ) (row : Row) (frame : Frames) → FindsAt p q row finds.Waits
    → let b = state_of p cursor passes in
    (row_visited b row ≡ record b { rows = change_row row.page (λ r. record r { state = Waiting }) p.rows })
    × (row_visiting b frame row ≡ idle frame)
waits_is p q cursor passes row frame so = grind arith

module _ {p : PagesView} {k : KeeperView} {cursor : Option GuestPage} {passes : ℕ} where
  -- where a search changed nothing and the page's row was visited then, the visit of the page was reached
  pub shared_visited : (v w : BookValue) {f : Find} {q : PagesView} {page : GuestPage}
      (at : Meets f p q k cursor passes (view_of v) page) → is_restless at.row ≡ true → q ≡ p
      → VisitsPage (book q k cursor passes) (view_of w) page → HasVisited v w (λ s. page_visited s page) false
  shared_visited v w at restless same did = grind (arith, made_then)

  -- whatever a visit found, the book is sound then, and its rows and dups lie lawfully
  module _ {q : PagesView} (page : GuestPage) (lawful : IsSound (state_of p cursor passes) × IsLaid p k) where
    -- the visit changes the row of a page on its frame
    row_lawful : {f : Find} {v : BookView} (at : Meets f p q k cursor passes v page) → is_restless at.row ≡ true → (c : Row → Row)
        → ((r : Row) → (c r).page ≡ r.page) → LodgesAs (c at.row) at.row
        → row_visited (state_of p cursor passes) at.row ≡ record (state_of p cursor passes) { rows = change_row at.row.page c p.rows }
        → q ≡ row_changed at.row.page c p → IsSound (state_of q cursor passes) × IsLaid q k
    row_lawful at restless c keeps lodges becomes goes = rw goes (
      rw (← becomes) (sound_row_visited _ at.row (grind (arith, row_of_page _ p.rows at.row at.sound.rows_rise (there_is at))) at.sound),
      laid_changed at.laid _ _ c at.sound.rows_rise (there_is at) keeps lodges,
    )

    pub found_lawful : (found : Find) → FindsRow p q page found → IsSound (state_of q cursor passes) × IsLaid q k
    found_lawful finds.Waits told =
        let at = finds_it finds.Waits (λ e. cc) lawful refl q refl told in
        row_lawful at at.so.0 _ (λ r. refl) (grind arith) (waits_is p q cursor passes at.row p.frame at.so).0 at.so.5
    found_lawful finds.Changed told =
        let at = finds_it finds.Changed (λ e. cc) lawful refl q refl told in
        row_lawful at at.so.0 (λ r. record r { unchanged = true; state = OwnPage }) (λ r. refl) (grind arith) (grind arith) at.so.3
    found_lawful _ told = let same : q ≡ p = grind arith in rw same lawful

  -- the visit of a page that is to wait changes nothing but which rows wait
  pub waits_visited : (now new : BookValue) {q : PagesView} {page : GuestPage} → Meets finds.Waits p q k cursor passes (view_of now) page
      → view_of new ≡ book q k cursor passes → HasVisited now new (λ s. page_visited s page) true
  waits_visited now new {q} at shows =
      let settles : map settled (change_row at.row.page (λ r. record r { state = Waiting }) p.rows) ≡ map settled p.rows =
      map_mapped settled _ settled p.rows
      (λ i d lt. grind (arith, row_of_page _ _ _ at.sound.rows_rise (there_is at) i d lt, restless_own at.row at.so.0)) in
      record {
        comes = λ from s before. grind (arith, before, at.is, at.found, at.so, then_idle);
        still = λ _ from s before.
            grind (arith, before.0, settles, then_idle, waits_is p q cursor passes at.row s.1.frame at.so);
      }

-- a visited page meets another one as its partner, and is to make a dup with it at the place for a new dup
module _ {other : GuestPage} {p : PagesView} {k : KeeperView} {cursor : Option GuestPage} {passes : ℕ} {v : BookView} {page one : GuestPage} {place : ℕ}
    (at : Meets (Partner other) p p k cursor passes v page) (is : one ≡ other)
    (chosen : place ≡ new_place (place_count p.shape) p.rows p.dups) where
  -- the partner of the visited page
  pub met : (w : Row) × (partner p.knobs p.rows at.row ≡ Some w) × (other ≡ w.page)
  met = filled_by _ at.so.4

  abbrev w : Row
  w = met.0

  abbrev b : BookState
  b = state_of p cursor passes

  abbrev new_dup : DupRow
  new_dup = dup_of_row p.knobs p.next place at.row

  -- it waits for the visited page
  waits : waits_for p.knobs at.row w ≡ true
  waits = find_passes (waits_for p.knobs at.row) p.rows w met.1

  tells : WaitsFor p.knobs at.row w
  tells = grind (arith, waits_tells, waits)

  -- the waiting row is found at its page
  waits_at : row_at w.page p.rows ≡ Some w
  waits_at = find_all _ (λ r. row_at r.page p.rows ≡ Some r) _ w met.1 (each_at_page _ at.sound.rows_rise)

  alone : shared_state w.state ≡ false
  alone = grind (arith, tells.state)

  -- the place for a new dup is one of the places
  pub room : new_place (place_count p.shape) p.rows p.dups < place_count p.shape
  room = finds_place b _ at.sound _ at.laid.placed at.row (found_in _ _ at.found) (restless_own at.row at.so.0)

  inside : place < frames_of p.shape
  inside = rw chosen room

  vacant : IsVacant place p.rows p.dups
  vacant n d lt same = grind (arith, subst (IsFree b) (sym chosen) (new_place_free b at.sound))

  fresh : All (λ r. merged_into p.next r.state ≡ false) p.rows
  fresh = next_is_new b at.sound

  -- what the place of the new dup names may be withdrawn
  pub may_withdraw : May k (Withdraw place)
  may_withdraw = (rw at.laid.same inside, vacant_loose _ at.laid.placed vacant)

  -- so it is at the page that was told
  pub waits_one : row_at one p.rows ≡ Some w
  waits_one = grind (arith, waits_at)

  -- the two pages may become the items of a new dup at the place
  pub pair_may : HasRow one p.rows (λ r. HasRow page p.rows (MayPair p place r))
  pair_may = grind (arith, waits_one, at.found, waits_at, there_is at, alone, waits, inside, vacant, spent_most at.laid, fresh, restless_own)

  module _ {f : ℕ} (stands : p.frame one ≡ Some f) {k1 : KeeperView} {taken : Bool}
      (taken_is : taken ≡ list_any (λ d. d.place == place) p.dups)
      (cleared : MakesSteps k k1 (if taken then Withdraw place ∷ [] else [])) where
    lies : p.frame w.page ≡ Some f
    lies = grind (arith, met)

    clears : MakesSteps k k1 (withdrawing p.dups place)
    clears = rw (← taken_is) cleared

    -- once its place is cleared, the new dup may be published there on the frame of the page that waits
    pub may_publish : May k1 (Publish place f)
    may_publish = may_found at.laid at.sound.rows_rise _ w f waits_at lies alone new_dup refl inside vacant k1 clears

    abbrev become : Row → Row
    become r = record r { state = Merged p.next }

    abbrev first : PagesView
    first = record p { rows = change_row w.page become p.rows; dups = with_dup new_dup p.dups; next = p.next + 1 }

    module _ {k2 : KeeperView} (shown : k2 ≡ did k1 (Publish place f) 0) where
      first_laid : IsLaid first k2
      first_laid =
          laid_found at.laid at.sound.rows_rise _ w f waits_at lies alone new_dup refl inside vacant become k1 k2 (λ r. refl) refl refl
          clears shown (sym tells.bytes) (λ none. grind (arith, none, tells.tree)) at.sound.numbers fresh

      first_rise : InPageOrder first.rows
      first_rise = grind (arith, ordered_change)

      row_still : row_at page first.rows ≡ Some at.row
      row_still =
          find_changed_other (λ (r : Row). r.page) w.page become (λ r. refl) page p.rows (grind (arith, page_is at, tells.other)) ∙ at.found

      item_at : row_at w.page first.rows ≡ Some (become w)
      item_at = find_changed (λ (r : Row). r.page) w.page become (λ r. refl) p.rows w waits_at

      -- once the place names the frame of the page that waits, a reference may come to that frame
      pub may_add_to : May k2 (Add f)
      may_add_to =
          let joined = joined_count _ w new_dup at.sound.rows_rise waits_at (grind (arith, tells.state)) in
          join_may first_laid first_rise _ at.row _ row_still item_at f lies refl new_dup (grind (arith, Contains-append_right))
          (eq-eqb p.next p.next refl) (grind (arith, count_none (λ r. merged_into p.next r.state) p.rows fresh))

      -- once a reference came to the frame of the page that waits, the visited page's own frame, if it has one, may be left
      pub may_sub_from : (k3 : KeeperView) → MakesSteps k2 k3 (Add f ∷ []) → IfSome (p.frame page) (MayLeave k3)
      may_sub_from = may_part first_laid first_rise page at.row (become w) row_still item_at f lies refl become (λ r. refl) refl (sym tells.bytes)

      module _ {lone : ℕ} (left : p.frame page ≡ Some lone) {k3 l : KeeperView} (comes : MakesSteps k2 k3 (Add f ∷ []))
          (leaves : MakesSteps k3 l (Sub lone ∷ [])) (q : PagesView)
          (told : HasRow one p.rows (λ r. HasRow page p.rows (λ x. q ≡ are_paired place r x p))) where
        goes : q ≡ are_paired place w at.row p
        goes = grind (arith, at.found, waits_one)

        comes_and_leaves : MakesSteps k2 l (Add f ∷ leaving (p.frame page))
        comes_and_leaves = rw left (made_then comes leaves)

        both_lie : q ≡ record first { rows = change_row page become first.rows; frame = lies_on page (Some f) p.frame }
        both_lie = grind (arith, goes, page_is at, both_changed w.page at.row.page become (λ r. refl) tells.other p.rows)

        -- once the two pages are the items of a new dup, on one frame, the book is what the visit leads to
        pub pair_leads : Leads v q l cursor passes page
        pair_leads =
            let made = made_then clears (made_then (made_one k1 k2 (Publish place f) 0 shown) comes_and_leaves) in
            leads at q l at.so.0
            (rw both_lie
            (laid_joined first_laid first_rise _ at.row _ row_still item_at f lies refl become (λ r. refl) refl (sym tells.bytes)
            l comes_and_leaves)) (rw goes (grind (arith, met.1))) (grind (arith, page_is at, at.found, at.so, met.1, alone, both_lie))
