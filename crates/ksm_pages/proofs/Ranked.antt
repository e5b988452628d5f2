-- The pages in order as the items that are kept for them: what stands before a key, what comes behind it, and in between.
use Rattle.ksm_pages.proofs.Names.{[], after_cursor, All, All-filter, AllPairs, AllPairs-filter, ap, arith, before_as_key, behind_as_key, Bool, comes_before, count_by, count_more, count_none, drop}
use Rattle.ksm_pages.proofs.Names.{drop-map, false, filter, filter_all, filter_mapped, find, find_all, find_mapped, get_or, get_or_from_slice_get, GuestPage, IfSome, if◌then◌else◌, is_at, is_from}
use Rattle.ksm_pages.proofs.Names.{is_of, is_some, Item, key_at, key_of, last_of, length, length-drop, length-filter, length-map, length-take-le, List, map, map-append, marked, Named, named_by}
use Rattle.ksm_pages.proofs.Names.{nat_lt, nat_tests, nil_from_length, None, not, Option, option_map, page_of, pages_behind, pages_between, pairs_head, pairs_mapped, pairs_tail, refl, rules}
use Rattle.ksm_pages.proofs.Names.{same_as_key, slice_get, slice_get-get_or, slice_get-map, slice_get_past, slice_get_within, Some, suc, sym, take, take-map, true, up_to, up_to_few, visited}
use Rattle.ksm_pages.proofs.Names.{with_mark, with_named, without, zero, ℕ, ◌&&◌, ◌+◌, ◌-◌, ◌<◌, ◌^◌, ◌∙◌, ◌∷◌, ◌≡◌, ◌≤◌}
use Rattle.ksm_pages.specs.Ordered.{AreAscending as AreInOrder}
use Rattle.ksm_pages.proofs.Found.{length_with}
use Rattle.ksm_pages.proofs.Options.{mapped_some}
use Rattle.ksm_order.specs.Listed.{AreAscending, marked as kept_marked, with_item}

module _ (page : GuestPage) (few : page.page < 2 ^ 32) where
  pub is_its : (x : Item) → is_of page (named_by x) ≡ is_at (key_of page) x
  is_its x = same_as_key page few x.key

  -- with the page put in among others, what is kept has its item
  pub put_its : (value : ℕ) (items : List Item)
      → with_named (record { page = page; key = value; mergeable = true }) (map named_by items)
      ≡ map named_by (with_item (record { key = key_of page; value = value; marked = true }) items)
  put_its value items = grind (arith, filter_mapped, before_as_key, behind_as_key, map-append)

abbrev Less : Item → Item → Type 0
Less x y = x.key < y.key

-- a search for a page finds what a search for its key finds
pub found_by : (page : GuestPage) → page.page < 2 ^ 32 → (items : List Item)
    → find (is_of page) (map named_by items) ≡ option_map named_by (find (is_at (key_of page)) items)
found_by page few items = grind (arith, find_mapped, is_its)

-- what a search of items finds has a key as small as each of them
pub found_small : (p : Item → Bool) (items : List Item) → All (λ x. x.key < 2 ^ 48) items → (o : Option Item) → o ≡ find p items
    → IfSome o (λ x. x.key < 2 ^ 48)
found_small p items small o is = grind (arith, find_all p (λ x. x.key < 2 ^ 48) items)

pub marked_by : (page : GuestPage) → page.page < 2 ^ 32 → (mark : Bool) → (items : List Item)
    → marked page mark (map named_by items) ≡ map named_by (with_mark (key_of page) mark items)
marked_by page few mark [] = refl
marked_by page few mark (x ∷ items) = grind (arith, is_its page few x, marked_by page few mark items)

-- the page of an item
abbrev pub page_by : Item → GuestPage
page_by x = page_of x.key

pub visited_by : (items : List Item) → visited (map named_by items) ≡ map page_by (kept_marked items)
visited_by [] = refl
visited_by (x ∷ items) = grind (arith, visited_by items)

-- one more is counted where it passes
count_suc : (p : Item → Bool) (x : Item) (xs : List Item)
    → count_by p (x ∷ xs) ≡ (if p x then suc (count_by p xs) else count_by p xs)
count_suc p x xs = grind (arith, count_more p x xs)

-- where items are in order, those that come before a key stand first, and those that do not behind them
module _ (key : ℕ) where
  abbrev below : Item → Bool
  below x = nat_lt x.key key

  -- as many marked ones come before a key as come before it of those that are marked
  pub counted_marked : (xs : List Item) → up_to key xs ≡ count_by below (kept_marked xs)
  counted_marked [] = refl
  counted_marked (x ∷ xs) =
      grind (arith, counted_marked xs, count_more (λ y. y.marked && nat_lt y.key key) x xs, count_more below x (kept_marked xs))

  none_below : (x : Item) (xs : List Item) → AreAscending (x ∷ xs) → key ≤ x.key → count_by below xs ≡ 0
  none_below x xs rise more = count_none below xs (λ k d lt. grind (arith, pairs_head Less x _ rise k d lt))

  -- where items are in order, those before a key stand first
  kept_first : (xs : List Item) → AreAscending xs → filter below xs ≡ take (count_by below xs) xs
  kept_first [] rise = refl
  kept_first (x ∷ xs) rise =
      rw (count_suc below x xs) (grind (arith, nat_tests, kept_first xs (pairs_tail Less x xs rise), none_below x xs rise))

  kept_from : (xs : List Item) → AreAscending xs → filter (is_from key) xs ≡ drop (count_by below xs) xs
  kept_from [] rise = refl
  kept_from (x ∷ xs) rise =
      rw (count_suc below x xs) (grind (arith, nat_tests, kept_from xs (pairs_tail Less x xs rise), none_below x xs rise))

  -- also of those behind the first so many
  pub kept_between : (n : ℕ) (xs : List Item) → AreAscending xs → filter below (drop n xs) ≡ take (count_by below xs - n) (drop n xs)
  kept_between zero xs rise = grind (arith, kept_first)
  kept_between (suc n) [] rise = grind arith
  kept_between (suc n) (x ∷ xs) rise =
      grind (arith, nat_tests, kept_between n xs (pairs_tail Less x xs rise), count_more below x xs, none_below x xs rise)

-- the pages of items in order are in order
pub rises_by : (items : List Item) → AreAscending items → AreInOrder (map named_by items)
rises_by items rise =
    search (rules, pairs_mapped Less (λ (m n : Named). comes_before m.page n.page ≡ true) (λ (x : Item). x.key ≡ x.key))

-- one item more
pub longer_by : (n : Named) (x : Item) (items : List Item) → AreAscending items → find (is_of n.page) (map named_by items) ≡ None
    → with_named n (map named_by items) ≡ map named_by (with_item x items) → length (with_item x items) ≡ length items + 1
longer_by n x items rise absent same =
    omega (arith, length_with (λ m. m.page) n.page n _ (rises_by items rise) absent, ap length same, length-map items named_by, length-map (with_item x items) named_by)

-- there is a key at each place of a list
pub some_at : (xs : List Item) (place : ℕ) → place < length xs → key_at xs place ≡ None → ⊥
some_at xs place lt none = grind (arith, slice_get-get_or xs place (record { key = 0; value = 0; marked = false }) lt)

-- what stands at a place of a rest
pub get_dropped : {X : Type 0} (n k : ℕ) (xs : List X) → slice_get (drop n xs) k ≡ slice_get xs (n + k)
get_dropped zero k xs = grind arith
get_dropped (suc n) k [] = grind (arith, slice_get_past)
get_dropped (suc n) k (x ∷ xs) = grind (arith, get_dropped n k xs)

-- a key at a place of the marked ones is as small as each of the items
pub small_at : (items : List Item) (place : ℕ) {key : ℕ} → All (λ x. x.key < 2 ^ 48) items → key_at (kept_marked items) place ≡ Some key → key < 2 ^ 48
small_at items place all is =
    let x = mapped_some (λ (x : Item). x.key) _ is in
    grind (
      arith,
      All-filter (λ y. y.marked) (λ y. y.key < 2 ^ 48) items all place x.0 (slice_get_within (kept_marked items) place x.0 x.1),
      get_or_from_slice_get (kept_marked items) place x.0 x.0 x.1,
      x.2,
    )

-- without an item that is there, the list has one fewer
pub gone_one : (key : ℕ) (xs : List Item) → AreAscending xs → is_some (find (is_at key) xs) ≡ true → length (without key xs) + 1 ≡ length xs
gone_one key [] rise there = absurd (grind arith)
gone_one key (x ∷ xs) rise there =
    grind (arith, gone_one key xs (pairs_tail Less x xs rise), others x xs rise)
  where
    others : (x : Item) (xs : List Item) → AreAscending (x ∷ xs) → without x.key xs ≡ xs
    others x xs rise = filter_all _ xs (λ k d lt. let up = pairs_head Less x xs rise k d lt in grind (arith, up))

-- the last of a beginning is the page at its end
pub last_of_take : (pages : List GuestPage) (n : ℕ) (cursor : Option GuestPage) {page : GuestPage} → slice_get pages n ≡ Some page
    → last_of cursor (take (suc n) pages) ≡ Some page
last_of_take [] n cursor is = cc
last_of_take (p ∷ pages) zero cursor is = is
last_of_take (p ∷ pages) (suc n) cursor is = last_of_take pages n (Some p) is

-- the page at a place of those that a scan visits
module _ (items : List Item) {now : List Named} (seen_as : map named_by items ≡ now) where
  pub visited_is : visited now ≡ map page_by (kept_marked items)
  visited_is = grind (arith, visited_by)

  pub visited_many : length (visited now) ≡ count_by (λ x. x.marked) items
  visited_many = grind (arith, visited_is, length-map, length-filter)

  pub visited_at : (place : ℕ) {key : ℕ} → key_at (kept_marked items) place ≡ Some key → slice_get (visited now) place ≡ Some (page_of key)
  visited_at place {key} is = grind (arith, visited_is, slice_get-map)

  -- where a page is the one at a place of the visited ones, those behind it stand behind that place
  pub behind_at : AreAscending items → (place : ℕ) {page : GuestPage} → slice_get (visited now) place ≡ Some page → pages_behind (Some page) (visited now) ≡ drop (suc place) (visited now)
  behind_at rise place is = go (visited now) (rw visited_is in_order) place is
    where
      in_order : AllPairs (λ p q. comes_before p q ≡ true) (map page_by (kept_marked items))
      in_order = pairs_mapped Less (λ p q. comes_before p q ≡ true) (λ x. x.key ≡ x.key) page_by (λ x y _ _ less. grind (arith, nat_tests))
          (kept_marked items) (λ k d lt. refl) (AllPairs-filter Less _ _ rise)

      go : (pages : List GuestPage) → AllPairs (λ p q. comes_before p q ≡ true) pages → (place : ℕ) {page : GuestPage} → slice_get pages place ≡ Some page
          → pages_behind (Some page) pages ≡ drop (suc place) pages
      go [] rise place is = grind arith
      go (p ∷ pages) rise zero is = grind (arith, filter_all, pairs_head (λ p q. comes_before p q ≡ true) p pages rise)
      go (p ∷ pages) rise (suc n) {page} is =
          let behind : comes_before p page ≡ true = grind (arith, pairs_head (λ p q. comes_before p q ≡ true) p pages rise n page, slice_get_past, slice_get-get_or pages n page) in
          let apart : comes_before page p ≡ false = grind arith in
          rw apart (go pages (pairs_tail (λ p q. comes_before p q ≡ true) p pages rise) n is)

  -- where so many visited pages do not come behind a cursor, those behind it are the others
  pub behind_is : (cursor : Option GuestPage) (key : ℕ) → ((n : ℕ) → after_cursor cursor (page_of n) ≡ not (nat_lt n key)) → AreAscending items
      → pages_behind cursor (visited now) ≡ drop (up_to key items) (visited now)
  behind_is cursor key from rise =
      let kept = kept_marked items in
      rw visited_is
      (filter_mapped page_by (after_cursor cursor) (is_from key) kept (λ k d lt. from (get_or kept k d).key)
      ∙ ap (map page_by) (kept_from key kept (AllPairs-filter Less _ _ rise) ∙ ap (λ n. drop n kept) (sym (counted_marked key items)))
      ∙ sym (grind (arith, drop-map)))

  -- those behind a cursor and before a page, where it is known how many visited ones come before each
  module _ (cursor : Option GuestPage) (page : GuestPage) (few : page.page < 2 ^ 32) (rise : AreAscending items)
      (passed : ℕ) {before : ℕ} (ahead : pages_behind cursor (visited now) ≡ drop passed (visited now)) (many : before ≡ up_to (key_of page) items) where
    pub passed_is : pages_between cursor page (visited now) ≡ take (before - passed) (drop passed (visited now))
    passed_is =
        let kept = kept_marked items in
        let whole = ap (drop passed) visited_is ∙ drop-map page_by passed kept in
        let count = many ∙ counted_marked (key_of page) items in
        ap (filter (λ p. comes_before p page)) (ahead ∙ whole)
        ∙ filter_mapped page_by (λ p. comes_before p page) (below (key_of page)) _ (λ k d lt. grind (arith, before_as_key))
        ∙ ap (map page_by) (kept_between (key_of page) _ _ (AllPairs-filter Less _ _ rise) ∙ ap (λ n. take (n - passed) (drop passed kept)) (sym count))
        ∙ sym (take-map _ _ _) ∙ ap (take (before - passed)) (sym whole)

    pub passed_many : length (pages_between cursor page (visited now)) ≡ before - passed
    passed_many =
        ap length passed_is
        ∙ length-take-le (before - passed) (drop passed (visited now)) (omega (arith, length-drop passed (visited now), visited_many, many, up_to_few (key_of page) items))

    pub passed_none : before ≤ passed → pages_between cursor page (visited now) ≡ []
    passed_none none = nil_from_length _ (omega (arith, passed_many, none))

    pub passed_last : passed < before → {key : ℕ} → key_at (kept_marked items) (before - 1) ≡ Some key
        → last_of cursor (pages_between cursor page (visited now)) ≡ Some (page_of key)
    passed_last some is =
        let m = before - passed - 1 in
        let more : before - passed ≡ suc m = omega arith in
        ap (last_of cursor) (passed_is ∙ ap (λ n. take n (drop passed (visited now))) more)
        ∙ last_of_take _ m cursor (grind (arith, get_dropped, visited_at))

-- what is ahead of a place of the visited pages, and how many there are
pub ruleset ranks = (visited_many, visited_at, small_at, some_at, get_dropped, length-drop, length-filter)
