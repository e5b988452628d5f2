-- Pages that a visit may change, as they are listed: by a walk along the order, swept out, behind a cursor, put among others.
use Rattle.ksm_pages.proofs.Names.{[], after_cursor, All, All-append, All-drop, All-map, All-permutation, All-take, AllWithin, Any-from_list_any, ap, append-nil, AreAscending, AreFiled, AreInOrder}
use Rattle.ksm_pages.proofs.Names.{AreListed, AreSmall, arith, before_irrefl, Bool, cases_Bool, comes_before, drop, Entry, false, filter, find, find_all, find_none, find_passes, FindsNext, get}
use Rattle.ksm_pages.proofs.Names.{get_or, get_or-drop, get_or-take, get_or_default, GuestPage, has_item, HasGap, held_of, IfNone, IfSome, inl, InPageOrder, inr, insert, is_of, is_restless, is_some}
use Rattle.ksm_pages.proofs.Names.{is_useless, IsAddedTo, IsInVain, IsNonDecreasingBy, IsPermutation, IsPermutation-map, IsPlace, IsPutAmong, IsUnder, length, length-drop, length-take, List}
use Rattle.ksm_pages.proofs.Names.{list_any-append, list_any-IsPermutation, Listed, Listing, low_spot, map-append, Named, named_of, nat_lt, nat_tests, None, not, one_before, Option, option_map}
use Rattle.ksm_pages.proofs.Names.{page_of, pages_of, pairs_append, Row, rows_of, same_page, same_page_eq, shared_state, Slab, Some, Spot, subst, suc, sym, take, take-append-drop, take-suc, true, ℕ}
use Rattle.ksm_pages.proofs.Names.{◌%◌, ◌++◌, ◌+◌, ◌<◌, ◌^◌, ◌||◌, ◌∙◌, ◌∷◌, ◌≡◌, ◌≤◌}
use Rattle.ksm_pages.specs.Paged.{is_restless as may_change}
use Rattle.ksm_pages.proofs.Found.{first_found}
use Rattle.ksm_pages.proofs.Filing.{all_held, all_stand, AreRows, named_under, one_key, rows_all, under_named}
use Rattle.ksm_pages.specs.declared.rows.Rows.TheInside.{Inside}

-- the page that is listed
abbrev pub page_by : Listed → GuestPage
page_by l = page_of l.page

-- a page is among the pages of a list or of what is appended to it
pub appended_has : (page : GuestPage) (listed more : List Listed) → has_item page (pages_of (listed ++ more)) ≡ (has_item page (pages_of listed) || has_item page (pages_of more))
appended_has page listed more = grind (arith, map-append, list_any-append)

-- where none was added that is not in order, the pages of the others are all
pub none_added : (listed : List Listed) {added : List Listed} → added ≡ [] → pages_of listed ++ pages_of added ≡ pages_of listed
none_added listed none = ap (λ l. pages_of listed ++ pages_of l) none ∙ append-nil _

module _ (entries : Slab Entry) (order : List Named) where
  -- whether what is listed stays
  abbrev pub stays : Listed → Bool
  stays l = not (is_useless order (low_spot l) (get entries l.row))

  -- a page that is listed no more once useless ones are swept out was there in vain
  pub swept_beside : (listed : List Listed) → AreSmall listed → (others : List GuestPage) (page : GuestPage) → has_item page (pages_of listed ++ others) ≡ true
      → has_item page (pages_of (filter stays listed) ++ others) ≡ false → IsInVain entries order page
  swept_beside [] small others page has gone = absurd (grind arith)
  swept_beside (l ∷ listed) small others page has gone = elim (cases_Bool (same_page (page_by l) page)) [
    | inl here ↦
        let low : l.page % 2 ^ 48 ≡ l.page = omega (arith, small 0 l) in
        (l.row, grind (arith, low, same_page_eq (page_by l) page))
    | inr not_here ↦
        swept_beside listed (λ k d lt. small (suc k) d (omega arith)) others page (grind (arith, has, not_here)) (grind (arith, gone, not_here))
  ]

-- the second page does not come before the first
abbrev pub Up : Listed → Listed → Type 0
Up l m = l.page ≤ m.page

-- a page whose key is no less does not come before another
not_before : (l m : Listed) → l.page ≤ m.page → comes_before (page_by m) (page_by l) ≡ false
not_before l m up = grind arith

-- the place of the least key behind a cursor
module _ (cursor : Option GuestPage) {from : ℕ} (tells : (key : ℕ) → after_cursor cursor (page_of key) ≡ not (nat_lt key from)) {listed : List Listed} {at : ℕ} (place : IsPlace (λ l. l.page) from listed at) where
  -- where that is the end, no page comes behind the cursor
  pub none_behind : length listed ≤ at → All (λ p. after_cursor cursor p ≡ false) (pages_of listed)
  none_behind end = All-map (λ p. after_cursor cursor p ≡ false) page_by listed
      (λ k d lt. grind (arith, nat_tests, end, lt, tells (get_or listed k d).page, place.ahead k d))

  -- the page there comes behind the cursor, and no other that does comes before it
  pub next_behind : AreInOrder listed → (next : Listed) → at < length listed → get_or listed at next ≡ next
      → (after_cursor cursor (page_by next) ≡ true) × All (λ p. after_cursor cursor p ≡ true → comes_before p (page_by next) ≡ false) (pages_of listed)
  next_behind rise next within is = (
    grind (arith, nat_tests, tells next.page, place.behind at next),
    All-map (λ p. after_cursor cursor p ≡ true → comes_before p (page_by next) ≡ false) page_by listed
        (λ k d lt behind. not_before next (get_or listed k d) (above k d lt behind)),
  )
    where
      above : (k : ℕ) (d : Listed) → k < length listed → after_cursor cursor (page_by (get_or listed k d)) ≡ true → next.page ≤ (get_or listed k d).page
      above k d lt behind =
          let from_on : from ≤ (get_or listed k d).page = grind (arith, nat_tests, tells (get_or listed k d).page, behind) in
          grind (arith, from_on, place.ahead k d, rise at k d, get_or_default listed at next d)

-- a page is among those that are listed in whatever order they stand
pub shuffled_has : {listed later : List Listed} → IsPermutation listed later → (page : GuestPage) → has_item page (pages_of later) ≡ has_item page (pages_of listed)
shuffled_has moved page = sym (list_any-IsPermutation (λ p. same_page p page) _ _ (IsPermutation-map page_by _ _ moved))

-- pages that are put among others in whatever order they stand are put there
pub put_shuffled : {old added later new : List Listed} → IsPermutation added later → IsPutAmong old later new → IsPutAmong old added new
put_shuffled moved put = record { order = put.order; small = put.small; all = λ page. grind (arith, put.all page, shuffled_has moved page) }

-- pages that are sorted together are put among each other
pub put_sorted : {old added new : List Listed} → AreSmall old → AreSmall added → IsPermutation (old ++ added) new → AreInOrder new
    → IsPutAmong old added new
put_sorted {old} {added} small little moved order =
    let Small : Listed → Type 0 = λ l. l.page < 2 ^ 48 in
    record {
      order = order;
      small = All-permutation Small _ _ moved (All-append Small _ _ small little);
      all = λ page. shuffled_has moved page ∙ appended_has page _ _;
    }

-- pages that were added, in front of an index of others
module _ (listed added : List Listed) (rise : AreInOrder listed) (at : ℕ) (within : at ≤ length listed) where
  -- where the pages in front of the index come before the first that was added, and the last of these before those behind, they
  -- are in order there
  pub gap_here : (low high : ℕ) → AllWithin (λ l. l.page < low) listed 0 at → AllWithin (λ l. high ≤ l.page) listed at (length listed)
      → AreInOrder added → All (λ l. low ≤ l.page) added → All (λ l. l.page ≤ high) added → HasGap listed added at
  gap_here low high ahead behind up from to = (
    within,
    pairs_append Up (take at listed) (added ++ drop at listed)
        (λ i j d less lt. grind (arith, length-take at listed, get_or-take at listed i d, get_or-take at listed j d, rise i j d))
        (pairs_append Up added (drop at listed) up
        (λ i j d less lt. grind (arith, length-drop at listed, get_or-drop at listed i d, get_or-drop at listed j d, rise (at + i) (at + j) d))
        (λ k d lt j e less. grind (arith, to k d lt, behind (at + j) e, get_or-drop at listed j e, length-drop at listed)))
        (λ k d lt. All-append (Up (get_or (take at listed) k d)) added (drop at listed)
        (λ j e less. grind (arith, from j e less, ahead k d, get_or-take at listed k d, length-take at listed))
        (λ j e less. grind (arith, lt, less, rise k (at + j), get_or-take at listed k d, length-take at listed, get_or-drop at listed j e, length-drop at listed, get_or_default listed k e d))),
  )

-- what was added in front of an index where it is in order is put among the others
pub put_between : (listed added : List Listed) (at : ℕ) → AreSmall listed → AreSmall added → HasGap listed added at
    → IsPutAmong listed added (take at listed ++ (added ++ drop at listed))
put_between listed added at small new gap =
    let Small : Listed → Type 0 = λ l. l.page < 2 ^ 48 in
    record {
      order = gap.1;
      small = All-append Small (take at listed) (added ++ drop at listed) (All-take Small at listed small)
          (All-append Small added (drop at listed) new (All-drop Small at listed small));
      all = λ page. grind (
        arith,
        appended_has page (take at listed) (added ++ drop at listed),
        appended_has page added (drop at listed),
        appended_has page (take at listed) (drop at listed),
        take-append-drop at listed,
      );
    }

-- and so is one page in front of its place
pub put_here : {listed : List Listed} (one : Listed) {at : ℕ} → AreInOrder listed → AreSmall listed → one.page < 2 ^ 48
    → IsPlace (λ l. l.page) one.page listed at → IsPutAmong listed (one ∷ []) (insert listed at one)
put_here {listed} one {at} rise small little place = put_between listed (one ∷ []) at small (λ k d lt. grind (arith, little))
    (gap_here listed (one ∷ []) rise at place.within one.page one.page place.ahead place.behind
    (λ i j d less lt. absurd (omega arith)) (λ k d lt. grind arith) (λ k d lt. grind arith))

-- the pages of one more of a list
pub taken_has : (page : GuestPage) (listed : List Listed) (i : ℕ) (d : Listed) → i < length listed
    → has_item page (pages_of (take (i + 1) listed)) ≡ (has_item page (pages_of (take i listed)) || same_page (page_by (get_or listed i d)) page)
taken_has page listed i d lt =
    let next : i + 1 ≡ suc i = omega arith in
    let more : take (i + 1) listed ≡ take i listed ++ get_or listed i d ∷ [] = ap (λ n. take n listed) next ∙ take-suc listed i d lt in
    ap (λ ls. has_item page (pages_of ls)) more ∙ appended_has page (take i listed) (get_or listed i d ∷ []) ∙ grind arith

-- pages whose keys do not fall are in order
pub sorted_rise : (listed : List Listed) → IsNonDecreasingBy (λ l. l.page) listed → AreInOrder listed
sorted_rise listed up i j d less lt = up i j d (omega arith) lt

-- a visit may change a row exactly where it may change its entry
pub restless_as : (pass : ℕ) (e : Entry) → may_change (held_of pass e).row ≡ is_restless e
restless_as pass e = grind arith

-- of the pages up to a cursor those that a visit may change are listed
abbrev pub AreListedUpTo : Slab Entry → Option GuestPage → Listing → Type 0
AreListedUpTo slab last l = l.known ≡ true → (key : ℕ) (e : Entry) → get slab key ≡ Some e → is_restless e ≡ true → after_cursor last e.page ≡ false → has_item e.page l.pages ≡ true

-- a filter that lets less through leaves no more, and fewer, where it stops what the other finds first
filter_fewer : {X : Type 0} (p q : X → Bool) (xs : List X) (x : X) → ((y : X) → q y ≡ true → p y ≡ true)
    → (length (filter q xs) ≤ length (filter p xs)) × (find p xs ≡ Some x → q x ≡ false → length (filter q xs) < length (filter p xs))
filter_fewer p q [] x less = grind arith
filter_fewer p q (y ∷ ys) x less = grind (arith, less y, filter_fewer p q ys x less)

module _ (slab : Slab Entry) (order : List Named) (rise : AreAscending order) (filed : AreFiled slab order) where
  module _ (last : Option GuestPage) {n : Named} (found : find (λ m. after_cursor last m.page) order ≡ Some n) where
    -- the next page behind the cursor has an entry under the key that the order names
    pub next_stands : IsUnder slab n.page n.key
    next_stands = under_named _ n (find_all _ (λ m. option_map (named_of m.key) (get slab m.key) ≡ Some m) _ n found (all_stand slab _ rise filed))

    -- behind the next page there are fewer pages than behind the cursor
    pub fewer_behind : length (filter (λ m. comes_before n.page m.page) order) < length (filter (λ m. after_cursor last m.page) order)
    fewer_behind = grind (
      arith,
      before_irrefl,
      filter_fewer (λ m. after_cursor last m.page) (λ m. comes_before n.page m.page) order n (λ m behind.
          grind (arith, find_passes (λ m. after_cursor last m.page) order n found)),
    )

    -- an entry that is not behind it, nor its own, was not behind the last
    passed : (key : ℕ) {e : Entry} → get slab key ≡ Some e → comes_before n.page e.page ≡ false → same_page n.page e.page ≡ false → after_cursor last e.page ≡ false
    passed key {e} stands not_behind apart =
        let first = find_all (is_of e.page) (λ m. after_cursor last m.page ≡ true → comes_before m.page n.page ≡ false)
        order (named_of key e) (grind (arith, named_under))
        (first_found (λ m. m.page) (λ m. after_cursor last m.page) order n rise found) in
        grind (arith, first, one_before)

    module _ (old new : Listing) (listed : AreListedUpTo slab last old) where
      -- where the next page is added, the pages up to that page are listed that a visit may change
      pub one_added : IsAddedTo n.page old new → AreListedUpTo slab (Some n.page) new
      one_added added known key e stands may not_behind =
          let is = added known in
          is.1 e.page ∙ grind (arith, passed key stands not_behind, listed is.0 key e stands may)

      -- where no visit changes the next page, the list has all up to that page that a visit may change
      pub one_passed : {e : Entry} → get slab n.key ≡ Some e → is_restless e ≡ false → new ≡ old → AreListedUpTo slab (Some n.page) new
      one_passed {e} here calm is known key f stands may not_behind =
          let of_it : e.page ≡ n.page = grind (arith, next_stands.stands, next_stands.of_page) in
          grind (arith, passed key stands not_behind, listed (grind arith) key f stands may, one_key slab order filed stands here, same_page_eq n.page f.page)

  -- where no page is behind the cursor, all pages are listed that a visit may change
  pub all_passed : (last : Option GuestPage) → find (λ m. after_cursor last m.page) order ≡ None → (l : Listing) → AreListedUpTo slab last l → l.known ≡ true → AreListed slab l.pages
  all_passed last none l listed known key e stands may =
      listed known key e stands may
      (find_all _ (λ m. after_cursor last m.page ≡ false) _ _ (named_under slab _ filed _ e stands) (find_none _ order none))

module _ (s : Inside) (are : AreRows s) where
  -- what holds of each listed page holds of each row that a visit may change
  rows_such : s.restless.known ≡ true → (P : GuestPage → Type 0) → All P s.restless.pages
      → All (λ r. may_change r ≡ true → P r.page) (rows_of (all_held s))
  rows_such known P all =
      All-map (λ r. may_change r ≡ true → P r.page) _ _ (rows_all s are (λ h. may_change h.row ≡ true → P h.row.page)
      (λ k e stands may.
      let at = Any-from_list_any (λ p. same_page p e.page) s.restless.pages (are.listed known k e stands (grind (arith, restless_as s.pass e))) in
      subst P (same_page_eq at.1 e.page at.4) (subst P at.3 (all at.0 at.1 at.2))))

  -- where the pages of all entries that a visit may change are listed, the next one listed is found as the next row
  pub listed_next : s.restless.known ≡ true → (cursor : Option GuestPage) (o : Option Spot)
      → IfNone o (All (λ p. after_cursor cursor p ≡ false) s.restless.pages)
      → IfSome o (λ t. (after_cursor cursor t.page ≡ true)
      × All (λ p. after_cursor cursor p ≡ true → comes_before p t.page ≡ false) s.restless.pages)
      → FindsNext cursor (rows_of (all_held s)) (option_map (λ t. t.page) o)
  listed_next known cursor None none some = rows_such known (λ p. after_cursor cursor p ≡ false) none
  listed_next known cursor (Some t) none some =
      (some.0, rows_such known (λ p. after_cursor cursor p ≡ true → comes_before p t.page ≡ false) some.1)

  -- a row has a frame of its own exactly where it is not shared
  pub rows_framed : All (λ h. is_some h.frame ≡ not (shared_state h.row.state)) (all_held s)
  rows_framed = rows_all s are (λ h. is_some h.frame ≡ not (shared_state h.row.state)) (λ k e stands. grind arith)

-- the first row behind a cursor, of rows in order, is found as the next one
pub found_next : (cursor : Option GuestPage) (rows : List Row) → InPageOrder rows → (o : Option Row) → find (λ r. after_cursor cursor r.page) rows ≡ o
    → FindsNext cursor rows (option_map (λ r. r.page) o)
found_next cursor rows rise None is = λ k d lt may. find_none _ rows is k d lt
found_next cursor rows rise (Some r) is =
    (find_passes _ rows r is, λ k d lt may. (first_found (λ (r : Row). r.page) (λ r. after_cursor cursor r.page) rows r rise is) k d lt)
