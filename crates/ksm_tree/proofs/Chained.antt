-- The dups in their groups: what is found there, and how that stays right with a change of items, with a dup that goes, and with a new one.
use Rattle.ksm_tree.proofs.Names.{[], absent_kept, All, All-filter, all_with_dup, ap, AreChained, arith, Bool, bytes_eq-Decides, cases_Bool, change_at, change_items, content_in, count-append}
use Rattle.ksm_tree.proofs.Names.{count_by, count_by-le-length, count_more, count_none, Dup, dup_at, dup_of, DupRow, dups_parted as rows_parted, dups_seen, dups_with, DupsState, false, filter}
use Rattle.ksm_tree.proofs.Names.{filter_passes, find, find_none, find_nothing, found_parts, get, get_or, Group, group_places, Groups, GuestPage, has_number, if◌then◌else◌, in_group, inl}
use Rattle.ksm_tree.proofs.Names.{InPlaceOrder, inr, length, length-filter, length-map, List, list_all, list_all-append, list_all-from_AllPass, Lower, MOST_FRAMES, nat_le, nat_lt, nat_tests, None}
use Rattle.ksm_tree.proofs.Names.{none_counted, not, numbers_ordered, Option, ordered_filter, pairs_head, pairs_tail, place_of, refl, rows_of, rules, same_group, SlotsState, Some, stands_at, subst}
use Rattle.ksm_tree.proofs.Names.{suc, sym, true, with_dup, with_new, with_place, without, without_place, zero, ℕ, ◌&&◌, ◌++◌, ◌+◌, ◌<◌, ◌==◌, ◌||◌, ◌∙◌, ◌∷◌, ◌≡◌, ◌≤◌}
use Rattle.ksm_tree.specs.Groups.{AreTotals, chain_in, chained_of, chains_of, IsCountedAnew, IsMoved, IsRegrouped, number_in, SameChains, Tells}
use Rattle.ksm_base.specs.Counting.{group_size, in_chain, leads_group}
use Rattle.ksm_tree.specs.declared.totals.Totals.{Totals}
use Rattle.ksm_tree.proofs.Alike.{chosen, count_alike, find_alike, map_alike}
use Rattle.ksm_tree.proofs.OneSlot.{found_stands}
use Rattle.ksm_tree.proofs.Rows.{group_joined, group_passed, own_group, self_group}
use Rattle.ksm_tree.proofs.Changes.{all_rows, alone, one_dup, row_found, rows_new, rows_same, rows_without}

-- rows count as others do with one row more
pub record IsMore (r : DupRow) (less more : List DupRow) : Type 0 where
  pub counts : (p : DupRow → Bool) → count_by p more ≡ (if p r then 1 else 0) + count_by p less
  pub all : (p : DupRow → Bool) → list_all p more ≡ (p r && list_all p less)

-- a row between those below a place and those above it is one row more than those at other places
pub more_with : (p : ℕ) (rows : List DupRow) (r : DupRow) → InPlaceOrder rows → IsMore r (filter (λ e. not (e.place == p)) rows) (filter (λ e. nat_lt e.place p) rows ++ r ∷ filter (λ e. nat_lt p e.place) rows)
more_with p rows r rise = rw (rows_parted p rows rise) (grind (arith, count-append, count_more, list_all-append))

-- the row at a place is one row more than those at other places
pub more_there : (p : ℕ) (rows : List DupRow) (e : DupRow) → InPlaceOrder rows → find (λ r. r.place == p) rows ≡ Some e → IsMore e (filter (λ r. not (r.place == p)) rows) rows
more_there p rows e rise found =
    subst (IsMore e (filter (λ r. not (r.place == p)) rows))
    (sym (found_parts numbers_ordered (λ (r : DupRow). r.place) p rows e (λ i j d less lt. grind (arith, nat_tests, (rise i j d less lt).0)) found))
    (more_with p rows e rise)

-- a test that is one value where another test passes, and elsewhere a third one, is counted in two parts
count_split : (s p q : DupRow → Bool) (b : Bool) (rows : List DupRow) → All (λ d. (p d ≡ (if s d then b else q d)) × ((s d && q d) ≡ false)) rows
    → count_by p rows ≡ (if b then count_by s rows else 0) + count_by q rows
count_split s p q b [] each = grind arith
count_split s p q b (r ∷ rows) each =
    grind (arith, count_more, each 0 r, count_split s p q b rows (λ k e lt. each (suc k) e (omega arith)))

-- a dup that is the first of a chain
abbrev leads : List DupRow → DupRow → Bool
leads rows d = in_chain rows d && leads_group rows d

-- the totals of rows
abbrev totals_of : List DupRow → Totals
totals_of rows = record { chains = count_by (leads rows) rows; dups = count_by (in_chain rows) rows; longest = 0 }

module _ (t : ℕ) (b : List ℕ) where
  abbrev of_it : DupRow → Bool
  of_it d = in_group t b d

  -- a dup of the group has just the group's dups beside it
  group_own : (d e : DupRow) → of_it d ≡ true → same_group d e ≡ of_it e
  group_own d e inside = grind (arith, bytes_eq-Decides)

  -- how many dups the group has
  abbrev size : List DupRow → ℕ
  size rows = count_by of_it rows

  -- a group has as many places as dups
  pub places_size : (rows : List DupRow) → length (group_places t b rows) ≡ size rows
  places_size rows = length-map (filter of_it rows) _ ∙ length-filter _ rows

  -- how many dups of other groups pass a test
  abbrev apart : (DupRow → Bool) → List DupRow → ℕ
  apart p rows = count_by (λ d. not (of_it d) && p d) rows

  own_size : (rows : List DupRow) (d : DupRow) → of_it d ≡ true → group_size rows d ≡ size rows
  own_size rows d inside = grind (arith, count_alike, group_own)

  -- of a group one dup leads
  one_leads : (rows : List DupRow) → InPlaceOrder rows → count_by (λ d. of_it d && leads_group rows d) rows ≡ (if size rows == 0 then 0 else 1)
  one_leads [] rise = refl
  one_leads (r ∷ rows) rise =
      let first = pairs_head Lower r rows rise in
      let leader = λ (d : DupRow). of_it d && leads_group (r ∷ rows) d in
      let also = count_more leader r rows in
      elim (cases_Bool (of_it r)) [
        | inl inside ↦
            let none = count_none leader rows (λ k d lt. grind (arith, (first k d lt).0, group_own (get_or rows k d) r)) in
            grind (arith, count_more of_it, list_all-from_AllPass (λ e. not (same_group r e) || nat_le r.place e.place) rows (λ k d lt. grind (arith, (first k d lt).0)))
        | inr outside ↦
            let alike = count_alike leader (λ d. of_it d && leads_group rows d) rows (λ k e lt. grind (arith, group_own (get_or rows k e) r)) in
            grind (arith, count_more of_it, one_leads rows (pairs_tail Lower r rows rise))
      ]

  -- the dups in chains are those of a group, if it is a chain, and those of the other groups
  dups_parted : (rows : List DupRow) → count_by (in_chain rows) rows ≡ chained_of (size rows) + apart (in_chain rows) rows
  dups_parted rows = count_split of_it _ _ (nat_lt 1 (size rows)) rows
      (λ k e lt. grind (arith, own_size rows (get_or rows k e)))

  -- the chains are that of a group, if it is one, and those of the other groups
  chains_parted : (rows : List DupRow) → InPlaceOrder rows → count_by (leads rows) rows ≡ chains_of (size rows) + apart (leads rows) rows
  chains_parted rows rise =
      let parts = count_split (λ d. of_it d && leads_group rows d) (leads rows) (λ d. not (of_it d) && leads rows d)
      (nat_lt 1 (size rows)) rows
      (λ k e lt. grind (arith, own_size rows (get_or rows k e))) in
      grind (arith, parts, one_leads rows rise)

  -- one row more in the group
  module _ {r : DupRow} {less more : List DupRow} (h : IsMore r less more) (inside : of_it r ≡ true) (rise : InPlaceOrder less) (more_rise : InPlaceOrder more) where
    same_size : (d : DupRow) → of_it d ≡ false → group_size more d ≡ group_size less d
    same_size d outside = grind (arith, (bytes_eq-Decides r.bytes b).0)

    -- one row more in the group changes nothing of how many dups of other groups are in chains or lead them
    apart_kept : (apart (in_chain more) more ≡ apart (in_chain less) less) × (apart (leads more) more ≡ apart (leads less) less)
    apart_kept = grind (arith, count_alike, same_size)

    -- the totals of rows change as the group does that has one row more
    pub regrouped : IsRegrouped (length (group_places t b less)) (length (group_places t b more)) (totals_of less) (totals_of more)
    regrouped = rw (places_size less, places_size more)
        (omega (arith, apart_kept, chains_parted less rise, chains_parted more more_rise, dups_parted less, dups_parted more))

-- a row's place is no less than how many rows stand before it
place_most : (rows : List DupRow) → InPlaceOrder rows → (k : ℕ) (d : DupRow) → k < length rows → k ≤ (get_or rows k d).place
place_most rows rise zero d lt = omega arith
place_most rows rise (suc k) d lt = grind (arith, place_most rows rise k d (omega arith), rise k (suc k) d)

rows_fit : (p : ℕ) (rows : List DupRow) → All (λ r. r.place < p) rows → InPlaceOrder rows → length rows ≤ p
rows_fit p [] below rise = omega arith
rows_fit p (r ∷ rows) below rise =
    omega (arith, below (length rows) r (omega arith), place_most (r ∷ rows) rise (length rows) r (omega arith))

-- the totals have room for each group as it is
pub totals_tell : (t : ℕ) (b : List ℕ) (p : ℕ) {rows : List DupRow} {totals : Totals} → p ≤ MOST_FRAMES → All (λ r. r.place < p) rows → InPlaceOrder rows → AreTotals rows totals → Tells (length (group_places t b rows)) totals
totals_tell t b p {rows} {totals} few below rise are =
    rw (places_size t b rows) (omega (
      arith,
      count_by-le-length (leads rows) rows,
      count_by-le-length (in_chain rows) rows,
      chains_parted t b _ rise,
      dups_parted t b rows,
      rows_fit p rows below rise,
    ))

-- where no dup of a group stands at the place, the places of the group stay without that place
group_unlike : (p t : ℕ) (b : List ℕ) (dups : List Dup) → All (λ d. (stands_at p d && in_group t b d.row) ≡ false) dups → without p (group_places t b (rows_of dups)) ≡ group_places t b (rows_of dups)
group_unlike p t b [] none = refl
group_unlike p t b (d ∷ dups) none =
    grind (arith, none 0 d (omega arith), group_unlike p t b dups (λ k e lt. none (suc k) e (omega arith)))

-- slots with other dups
abbrev with_dups : SlotsState → List Dup → Bool → SlotsState
with_dups s dups ready = record { places = s.places; dups = dups; ready = ready }

-- the groups are right by the rows of the dups
by_rows : {s : SlotsState} {next : ℕ} {groups : Groups} (rows : List DupRow) → rows_of s.dups ≡ rows → s.places ≤ MOST_FRAMES → InPlaceOrder rows → All (λ r. r.place < s.places) rows → All (λ r. r.number < next) rows
    → AreTotals rows groups.totals → ((t : ℕ) (b : List ℕ) → chain_in t b groups ≡ group_places t b rows) → AreChained s next groups
by_rows rows is few rise places numbers counted grouped = record {
  few = few;
  lawful = record { in_place_order = rw is rise; places_below = rw is places; numbers_below = rw is numbers };
  counted = rw is counted;
  grouped = λ t b. rw is (grouped t b);
}

module _ {s : SlotsState} {next : ℕ} {groups : Groups} (h : AreChained s next groups) where
  -- a change of items changes no row, and so nothing of the groups
  pub stays_chained : (p : ℕ) (f : List GuestPage → List GuestPage) (ready : Bool) → AreChained (with_dups s (change_at p f s.dups) ready) next groups
  stays_chained p f ready = by_rows _ (rows_same (stands_at p) f s.dups) h.few h.lawful.in_place_order h.lawful.places_below
      h.lawful.numbers_below h.counted h.grouped

  -- whether room for one more dup is taken tells nothing of the groups
  pub room_chained : {t : SlotsState} {new : Groups} → t ≡ record s { ready = t.ready } → SameChains groups new → AreChained t next new
  room_chained is same = by_rows _ (ap (λ t. rows_of t.dups) is) (rw is h.few) h.lawful.in_place_order
      (rw is h.lawful.places_below) h.lawful.numbers_below (rw same.totals h.counted)
      (λ t b. same.chains t b ∙ h.grouped t b)

  -- the totals tell of the group of each tree and bytes
  pub told : (t : ℕ) (b : List ℕ) → Tells (length (chain_in t b groups)) groups.totals
  told t b = search (rules, h.grouped t b, totals_tell)

  -- where a dup goes from its place and from its group, the groups stay right
  pub gone_chained : {new : Groups} (p : ℕ) (d : Dup) (ready : Bool) → dup_at p s.dups ≡ Some d → IsMoved d.row.tree d.row.bytes (without p) groups new
      → IsCountedAnew d.row.tree d.row.bytes groups new → AreChained (with_dups s (without_place p s.dups) ready) next new
  gone_chained {new} p d ready found gone totals =
      let rows = rows_of s.dups in
      let law = h.lawful in
      let test = λ (r : DupRow). not (r.place == p) in
      let at = found_stands s.dups found in
      let rise = ordered_filter test rows law.in_place_order in
      let grouped : (t : ℕ) (b : List ℕ) → chain_in t b new ≡ group_places t b (filter test rows) = λ t b.
      let kept = chosen (λ (r : DupRow). r.place) (in_group t b) (λ q. not (q == p)) rows in
      let passed : in_group t b d.row ≡ false → without p (group_places t b rows) ≡ group_places t b rows = λ outside. group_unlike p t b s.dups
      (λ k e lt. grind (arith, at, alone (stands_at p) s.dups d law.in_place_order found k e lt)) in
      grind (arith, kept, passed, own_group t b d.row) in
      let more = more_there p rows d.row law.in_place_order (grind (arith, row_found (stands_at p) (λ r. r.place == p) (λ d. refl) s.dups)) in
      by_rows (filter test rows) (rows_without p s.dups) h.few rise
      (All-filter test (λ r. r.place < s.places) rows law.places_below)
      (All-filter test (λ r. r.number < next) rows law.numbers_below)
      (grind (arith, regrouped d.row.tree d.row.bytes more (self_group d.row) rise law.in_place_order, h.counted, h.grouped d.row.tree d.row.bytes, grouped d.row.tree d.row.bytes))
      grouped

-- where callers are told the place of a number
module _ (q : ℕ) {p : ℕ} {s : SlotsState} {next : ℕ} {groups : Groups} {seen : DupsState} (h : AreChained s next groups) (view : dups_seen s next groups ≡ seen) (is : Some p ≡ place_of (dup_of q seen.dups)) where
  each_same : All (λ d. has_number q d ≡ stands_at p d) s.dups
  each_same = one_dup q s.dups h.lawful.in_place_order (grind arith)

  -- the dup at that place is the one of the number
  pub told_dup : dup_at p s.dups ≡ dup_of q seen.dups
  told_dup = grind (arith, find_alike (has_number q) (stands_at p) s.dups each_same)

  -- a change of the items at that place is seen as a change of the number's items
  pub told_changed : (f : List GuestPage → List GuestPage) (ready : Bool) → dups_seen (with_dups s (change_at p f s.dups) ready) next groups ≡ record seen { dups = change_items q f seen.dups }
  told_changed f ready = grind (arith, map_alike, each_same)

module _ {s : SlotsState} {next : ℕ} {groups : Groups} (h : AreChained s next groups) (number : ℕ) {g : Group} (at : Some g ≡ get groups.groups number) where
  -- the group under the number of a tree and bytes lists the places of the dups of that tree and bytes
  pub group_here : (tree : ℕ) (bytes : List ℕ) → number_in tree bytes groups ≡ Some number → g.places.list.items ≡ group_places tree bytes (rows_of s.dups)
  group_here tree bytes is = grind (arith, h.grouped tree bytes)

  -- and so it does of its own
  pub group_found : g.places.list.items ≡ group_places g.content.tree g.content.bytes (rows_of s.dups)
  group_found = group_here _ _ ((groups.lawful g.content number).1 (ap content_in (sym at)))

-- where a tree and bytes have no number, no dup is of these
pub ungrouped : {s : SlotsState} {next : ℕ} {groups : Groups} → AreChained s next groups → (t : ℕ) (b : List ℕ) → number_in t b groups ≡ None → All (λ d. in_group t b d.row ≡ false) s.dups
ungrouped {s} h t b none = all_rows (λ r. in_group t b r ≡ false) s.dups
    (none_counted (in_group t b) (rows_of s.dups) (grind (arith, h.grouped t b, places_size t b (rows_of s.dups))))

-- once the dup of a place has gone, none stands there
pub none_left : (p : ℕ) (dups : List Dup) → dup_at p (without_place p dups) ≡ None
none_left p dups = find_nothing (stands_at p) _ (λ k d lt. grind (arith, filter_passes (λ e. not (stands_at p e)) dups k d lt))

-- the dup found at a place is the one that has its number
pub stands_numbered : (p q : ℕ) (dups : List Dup) (d : Dup) → InPlaceOrder (rows_of dups) → dup_at p dups ≡ Some d → d.row.number ≡ q → Some p ≡ place_of (dup_of q dups)
stands_numbered p q dups d rise found is =
    let at = found_stands dups found in
    grind (arith, find_alike (stands_at p) (has_number q) dups (λ k e lt. grind (arith, alone (stands_at p) dups d rise found k e lt)))

-- the dup found at a place, if it passes a test
abbrev passing : (Dup → Bool) → Option Dup → Option Dup
passing test None = None
passing test (Some d) = if test d then Some d else None

-- the dup at a place that passes a test is the one dup there, if it passes
pub found_passing : (p : ℕ) (test : Dup → Bool) (dups : List Dup) → InPlaceOrder (rows_of dups) → find (λ d. stands_at p d && test d) dups ≡ passing test (dup_at p dups)
found_passing p test [] rise = refl
found_passing p test (d ∷ dups) rise =
    let behind = all_rows (Lower d.row) dups (pairs_head Lower d.row _ rise) in
    grind (arith, find_nothing (λ e. stands_at p e && test e) dups, behind, found_passing p test dups (pairs_tail Lower d.row _ rise))

-- where a new dup takes a place that is empty and joins its group, the groups stay right
pub fresh_chained : {s : SlotsState} {next : ℕ} {groups new : Groups} (dup : Dup) (ready : Bool) → AreChained s next groups → dup.row.number ≡ next → dup.row.place < s.places → dup_at dup.row.place s.dups ≡ None
    → IsMoved dup.row.tree dup.row.bytes (with_place dup.row.place) groups new → IsCountedAnew dup.row.tree dup.row.bytes groups new
    → AreChained (with_dups s (with_new dup s.dups) ready) (next + 1) new
fresh_chained {s} {next} {groups} {new} dup ready h number within none joined counted =
    let r = dup.row in
    let rows = rows_of s.dups in
    let all = with_dup r rows in
    let rise = h.lawful.in_place_order in
    let new_rise : InPlaceOrder all = dups_with _ _ rise (λ k d lt. grind (arith, h.lawful.numbers_below k d lt)) in
    let kept = sym (absent_kept numbers_ordered (λ (e : DupRow). e.place) r.place rows (grind (arith, row_found (stands_at r.place) (λ e. e.place == r.place) (λ d. refl) s.dups))) in
    let more = subst (λ l. IsMore r l all) kept (more_with r.place rows r rise) in
    let grouped : (t : ℕ) (b : List ℕ) → chain_in t b new ≡ group_places t b all = λ t b.
    let unlike = group_unlike r.place t b s.dups (λ k d lt. grind (arith, find_none (stands_at r.place) s.dups none k d lt)) in
    grind (arith, own_group t b r, group_joined t b r rows, group_passed t b r rows rise) in
    by_rows all (rows_new dup s.dups) h.few new_rise
    (all_with_dup (λ e. e.place < s.places) _ _ within h.lawful.places_below)
    (all_with_dup (λ e. e.number < next + 1) r rows (omega arith) (λ k d lt. omega (arith, h.lawful.numbers_below k d lt)))
    (grind (arith, regrouped r.tree r.bytes more (self_group r) rise new_rise, h.counted, h.grouped r.tree r.bytes, grouped r.tree r.bytes)) grouped

-- a choice of none at a place is one also without the dup there
kept_by : (test : Dup → Bool) (p : ℕ) → ((d : Dup) → test d ≡ true → stands_at p d ≡ false) → (dups : List Dup) → filter test (without_place p dups) ≡ filter test dups
kept_by test p apart [] = refl
kept_by test p apart (d ∷ dups) = grind (arith, apart d, kept_by test p apart dups)

-- a dup at a place comes in the stead of one that stood there, whether that went before or not
pub new_again : (dup : Dup) (dups : List Dup) → with_new dup (without_place dup.row.place dups) ≡ with_new dup dups
new_again dup dups = grind (arith, kept_by, nat_tests)
