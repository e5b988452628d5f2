-- What each change of one row, found under its key, leaves: rows still, and what is seen of them.
use Rattle.ksm_pages.proofs.Names.{absent_kept, All, All-cons, altered, ap, AreLed, AreListed, arith, Bool, CanMove, change_held, change_none, count_by, count_more, Entry, false, Fills, find, find_all}
use Rattle.ksm_pages.proofs.Names.{find_none, get, GuestPage, has_item, Held, merged_state, one_if, Row, same_page, zero_state, [], ◌∷◌, ◌+◌}
use Rattle.ksm_pages.proofs.Names.{held_at, held_in, held_of, held_under, holds, IfSome, inl, inr, is_of, is_restless, is_some, IsAddedTo, IsInVain, IsMoved, IsRows, IsUnder, key_in, length}
use Rattle.ksm_pages.proofs.Names.{length-map, List, Listing, marked, Named, named_of, None, pages_ordered, PageState, Private, refl, row_at, rows_of, RowsView, rules, same_page_eq, same_page_refl}
use Rattle.ksm_pages.proofs.Names.{shared_state, Slab, Some, state_of, StaysBegun, StaysLed, sym, Tally, true, Updates-with_value, with_held, with_named, with_value, without_held, without_named}
use Rattle.ksm_pages.proofs.Names.{without_rises, ℕ, ◌<◌, ◌^◌, ◌∙◌, ◌≡◌, ◌≢◌, ◌≤◌, ◌⊎◌}
use Rattle.ksm_pages.specs.declared.row.Kind.TheVariants as kinds
use Rattle.ksm_pages.specs.declared.rows.Rows.TheInside.{Inside}
use Rattle.ksm_pages.proofs.Changing.{can_move, marked_same, row_told, rows_changed, rows_with, rows_without, tally_changed, tally_gone, tally_put}
use Rattle.ksm_pages.proofs.Filing.{all_filled, all_held, AreRows, filed_marked, filed_put, filed_taken, held_found, held_nowhere, named_under, one_key, put, row_found, rows_rise, taken, unmarked, view, view_of}
use Rattle.ksm_pages.proofs.Filing.{written}
use Rattle.ksm_pages.proofs.Leading.{led_less, led_written}
use Rattle.ksm_pages.proofs.Found.{write_rises}
use Rattle.ksm_order.proofs.Ordered.{with_rises}

-- a change of a page without a row leaves what is seen of the rows as it is
pub nothing : (s : Inside) → AreRows s → (page : GuestPage) → None ≡ key_in s.order page → (f : Held → Held) {v : RowsView} → view_of s ≡ v → v ≡ altered page f v
nothing s are page told f is =
    grind (arith, change_none (holds page) f (all_held s) (find_none (holds page) (all_held s) (held_nowhere s are page told)))

module _ (s : Inside) (are : AreRows s) where
  module _ {page : GuestPage} {key : ℕ} (there : IsUnder s.entries page key) {e : Entry} (stood : get s.entries key ≡ Some e) where
    -- the entry is that of the page
    pub of_page : e.page ≡ page
    of_page = grind arith

    -- a page with an entry under its key has the row that the entry says
    pub row_there : held_at page (all_held s) ≡ Some (held_of s.pass e)
    row_there = grind (arith, held_found, named_under)

    found_row : row_at page (rows_of (all_held s)) ≡ Some (held_of s.pass e).row
    found_row = row_told page _ row_there

    -- the entry of a page whose row is not shared is of the kind with frames of their own
    pub own_there : {v : RowsView} → view_of s ≡ v → IfSome (held_at page v.held) (λ h. shared_state h.row.state ≡ false)
        → e.kind ≡ kinds.Own
    own_there seen_as alone = grind (arith, row_there)

    -- the tally can take the row of an entry from its state to any other
    pub can_be : {from : PageState} → from ≡ state_of s.pass e → {state : PageState} → length s.order < 2 ^ 64
        → CanMove from state s.tally
    can_be is {state} few =
        let many : length (rows_of (all_held s)) < 2 ^ 64 =
        omega (arith, length-map (all_held s) (λ (h : Held). h.row), length-map s.order (λ (n : Named). held_under s.pass (get s.entries n.key)), few) in
        rw is (can_move (rows_rise s are) _ found_row s.tally are.counted (search rules) many)

    -- where the flag of an entry stays, the order says so already
    pub kept_mark : (flag : Bool) → flag ≡ e.mergeable → s.order ≡ marked page flag s.order
    kept_mark flag is = grind (arith, unmarked, of_page)

    module _ {v : RowsView} (seen_as : view_of s ≡ v) (e' : Entry) {order : List Named}
        (marks : order ≡ marked page e'.mergeable s.order)
        (keeps : (e'.page ≡ e.page) × StaysBegun v.pass e e') where
      abbrev later : Slab Entry
      later = with_value s.entries key e'

      fills : Fills s.entries later key (Some e')
      fills = Updates-with_value _ _ _ (ap is_some stood)

      held_later : (f : Held → Held) → held_of s.pass e' ≡ f (held_of s.pass e)
          → held_in s.pass later order ≡ change_held page f (all_held s)
      held_later f is = grind (arith, written, fills, of_page, marked_same)

      -- rows with an entry written anew are lawful where the order marks its page, the tally moved, and its page is
      -- added to the list, or a visit may change it only if it might before
      pub still : {from to : PageState} {tally : Tally} → from ≡ state_of s.pass e
          → to ≡ state_of s.pass e' → IsMoved from to s.tally tally → {now : Listing}
          → IsAddedTo page s.restless now ⊎ ((now ≡ s.restless) × (is_restless e' ≡ true → is_restless e ≡ true))
          → IsRows later order now tally s.pass
      still was is moved either = record {
        ascending = rw marks (write_rises _ page _ (λ n. refl) _ are.ascending);
        filed = rw (marks, ← of_page) (filed_marked _ _ are.ascending are.filed stood fills keeps.0);
        listed = λ known. elim either [
          | inl added ↦
              let is = added known in
              all_filled fills (λ may. is.1 e'.page ∙ grind (arith, of_page, keeps.0, same_page_refl))
              (λ k f stands apart may. is.1 f.page ∙ grind (arith, are.listed is.0 k f stands may))
          | inr stays ↦
              all_filled fills (λ may. grind (arith, of_page, stays, are.listed))
              (λ k f stands apart may. grind (arith, stays.0, are.listed))
        ];
        counted =
            rw (ap rows_of (held_later _ refl) ∙ rows_changed _ (λ _. held_of s.pass e') _ _ (λ h. refl))
            (tally_changed (rows_rise s are) _ found_row _ are.counted _ (grind arith));
        begun = all_filled fills (grind arith) (λ k f stands apart. are.begun k f stands);
        counting = are.counting;
      }

      -- and the unstable tree leads as it did, where the entry is in it only as before
      pub still_led : AreLed s.by_node s.entries s.unstable → StaysLed e e' → {from to : PageState} {tally : Tally} → from ≡ state_of s.pass e
          → to ≡ state_of s.pass e' → IsMoved from to s.tally tally → {now : Listing}
          → IsAddedTo page s.restless now ⊎ ((now ≡ s.restless) × (is_restless e' ≡ true → is_restless e ≡ true))
          → IsRows later order now tally s.pass × AreLed s.by_node later s.unstable
      still_led led stays was is moved either = (still was is moved either, led_written led fills stood stays)

      -- with an entry written anew whose row is changed by f, the rows are seen with f at that page
      pub viewed : (f : Held → Held) → (1 ≤ v.pass → held_of v.pass e' ≡ f (held_of v.pass e))
          → view s.by_node s.pass later order ≡ altered page f v
      viewed f is = grind (arith, held_later f)

    module _ {later : Slab Entry} (fills : Fills s.entries later key None) where
      -- what stands later stood before, under another key
      stood_before : {k : ℕ} {f : Entry} → get later k ≡ Some f → (get s.entries k ≡ Some f) × (k ≢ key)
      stood_before stands = grind arith

      held_gone : held_in s.pass later (without_named page s.order) ≡ without_held page (all_held s)
      held_gone = grind (arith, of_page, taken, fills)

      -- rows are lawful once a page's entry is gone, with its name and its count
      pub still_gone : {from : PageState} {tally : Tally} → from ≡ state_of s.pass e
          → IsMoved from Private s.tally tally → IsRows later (without_named page s.order) s.restless tally s.pass
      still_gone {from} {tally} was moved = record {
        ascending = without_rises pages_ordered (λ (n : Named). n.page) page _ are.ascending;
        filed = rw (← of_page) (filed_taken _ _ are.ascending are.filed stood fills);
        listed = grind (arith, stood_before);
        counted = rw (ap rows_of held_gone ∙ rows_without page (all_held s)) (tally_gone (rows_rise s are) _ found_row _ are.counted (rw (← was) moved));
        begun = λ k f stands. are.begun k f (stood_before stands).0;
        counting = are.counting;
      }

      -- once the entry of a page is gone with the page's name, the rows are seen without that page
      pub viewed_gone : {v : RowsView} → view_of s ≡ v
          → view s.by_node s.pass later (without_named page s.order) ≡ record v { held = without_held page v.held }
      viewed_gone seen_as = grind (arith, held_gone)

-- where a page has no row, the rows without that page are seen as before
pub nothing_gone : (s : Inside) → AreRows s → (page : GuestPage) → None ≡ key_in s.order page → {v : RowsView} → view_of s ≡ v → v ≡ record v { held = without_held page v.held }
nothing_gone s are page told is =
    let same = absent_kept pages_ordered (λ (h : Held). h.row.page) page _ (held_nowhere s are page told) in grind (arith, same)

-- entries that got room are as they were
pub roomy : (s : Inside) → AreRows s → AreLed s.by_node s.entries s.unstable → {room : Slab Entry} → room ≡ record s.entries { capacity = room.capacity }
    → IsRows room s.order s.restless s.tally s.pass × AreLed s.by_node room s.unstable
roomy s are led rest = rw rest (search rules, led_less led (λ t b k stands. stands))

-- the row of a page came, with a frame of its own, under a key where nothing stood, once there was room for it
module _ (s : Inside) (are : AreRows s) {v : RowsView} (seen_as : view_of s ≡ v) {room : Slab Entry}
    (rest : room ≡ record s.entries { capacity = room.capacity })
    {key : ℕ} {e : Entry} {later : Slab Entry} (vacant : get room key ≡ None) (unnamed : find (is_of e.page) s.order ≡ None)
    (fills : Fills room later key (Some e)) where
  free : get s.entries key ≡ None
  free = (λ i. get (sym rest i) key) ∙ vacant

  -- an entry came, where there is room for it, as it would without
  pub filled : Fills s.entries later key (Some e)
  filled = record { changed = fills.changed; others = λ k apart. fills.others k apart ∙ (λ i. get (rest i) k) }

  not_held : held_at e.page (all_held s) ≡ None
  not_held = grind (arith, held_found s.entries _ are.ascending are.filed s.pass e.page)

  held_put : held_in s.pass later (with_named (named_of key e) s.order) ≡ with_held (held_of s.pass e) (all_held s)
  held_put = put _ _ are.ascending are.filed free unnamed filled _

  -- rows are lawful once a Private entry came under a vacant key, with a name and a place in the list
  pub still_put : state_of s.pass e ≡ Private → e.number ≤ s.pass → {now : Listing} → IsAddedTo e.page s.restless now → IsRows later (with_named (named_of key e) s.order) now s.tally s.pass
  still_put alone fits added = record {
    ascending = with_rises pages_ordered (λ (n : Named). n.page) _ (named_of key e) _ refl are.ascending;
    filed = filed_put _ _ are.ascending are.filed free unnamed filled;
    listed = λ known.
        let is = added known in
        all_filled filled (λ may. is.1 e.page ∙ grind (arith, same_page_refl))
        (λ k f stands apart may. is.1 f.page ∙ grind (arith, are.listed is.0 k f stands may));
    counted = rw (ap rows_of held_put ∙ rows_with (held_of s.pass e) (all_held s))
        (tally_put _ (row_told e.page (all_held s) not_held) alone are.counted);
    begun = all_filled filled (λ own. fits) (λ k f stands apart. are.begun k f stands);
    counting = are.counting;
  }

  -- once an entry came under a vacant key with a name, the rows are seen with its row, which was not there
  pub viewed_put : (held_at e.page v.held ≡ None) × (view s.by_node s.pass later (with_named (named_of key e) s.order) ≡ record v { held = with_held (held_of s.pass e) v.held })
  viewed_put = grind (arith, held_put, not_held)

-- how many rows are merged or Zero
abbrev merged_or_zero : List Row → ℕ
merged_or_zero rows = count_by (λ r. merged_state r.state) rows + count_by (λ r. zero_state r.state) rows

shared_more : (r : Row) (rows : List Row) → merged_or_zero (r ∷ rows) ≡ merged_or_zero rows + one_if (shared_state r.state)
shared_more r rows = grind (arith, count_more (λ s. merged_state s.state) r rows, count_more (λ s. zero_state s.state) r rows)

shared_few : (rows : List Row) → merged_or_zero rows ≤ length rows
shared_few [] = omega arith
shared_few (r ∷ rows) = grind (arith, shared_more r rows, shared_few rows)

-- where as many are as there are, each is
pub all_shared : (rows : List Row) → length rows ≤ merged_or_zero rows → All (λ r. shared_state r.state ≡ true) rows
all_shared [] few = λ k d lt. absurd (omega arith)
all_shared (r ∷ rows) few =
    grind (arith, All-cons, shared_more, shared_few, all_shared rows (grind (arith, shared_more r rows)))

-- where each row is shared, rows are lawful under a list of none
pub none_restless : (s : Inside) → AreRows s → All (λ r. shared_state r.state ≡ true) (rows_of (all_held s)) → {now : Listing} → now.pages ≡ []
    → IsRows s.entries s.order now s.tally s.pass
none_restless s are shared {now} none = search (rules, listed)
  where
    listed : now.known ≡ true → AreListed s.entries now.pages
    listed is k e stands may =
        let found = row_told e.page (all_held s) (row_found s are k e stands) in
        let state = find_all (λ r. same_page r.page e.page) (λ r. shared_state r.state ≡ true) (rows_of (all_held s)) _ found shared in
        grind arith

-- rows are lawful under a list that lost only pages that were there in vain
pub swept_rows : (s : Inside) → AreRows s → {now : Listing} → now.known ≡ s.restless.known
    → ((page : GuestPage) → has_item page s.restless.pages ≡ true → has_item page now.pages ≡ false → IsInVain s.entries s.order page)
    → IsRows s.entries s.order now s.tally s.pass
swept_rows s are {now} known kept = grind (arith, one_key, named_under, same_page_eq)
