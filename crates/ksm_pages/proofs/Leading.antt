-- The unstable tree: what a key leaves of what is found that comes or goes, and an entry; and what rows show of it.
use Rattle.ksm_pages.proofs.Names.{[], All, Any-from_list_any, ap, AreApart, AreInTree, AreLed, AreWaitersLed, arith, Bool, BTreeMap, bytes_eq, bytes_eq-Decides, cases_Bool, Content, content_of}
use Rattle.ksm_pages.proofs.Names.{content_order, Entry, eq_bytes, false, false_from_ne_true, Fills, find, find_alike, find_all, find_none, find_nothing, find_passes, get, get_or, get_or-set_at}
use Rattle.ksm_pages.proofs.Names.{get_or-take, get_or_default, get_or_from_slice_get, GONE, has_content, Held, held_of, holder, holds, if◌then◌else◌, inl, inr, is_in, is_led, IsFree, Keeps}
use Rattle.ksm_pages.proofs.Names.{KeepsOthers, keys_at, length, length-set, length-take-le, List, list_any, list_any_at, MatchOption, meets, nat_lt, nat_tests, NO_KEY, None, not, number_of}
use Rattle.ksm_pages.proofs.Names.{Option, option_map, page_in_tree, place, refl, same_page_eq, same_page_refl, set, Slab, slice_get, slice_get_within, Some, stands_as, stands_under, StaysLed}
use Rattle.ksm_pages.proofs.Names.{subst, suc, take, told_equal, tree_by, true, UnstableTree, unwrap_or, Updates, waiting_state, zero, ℕ, ⊤, ◌&&◌, ◌+◌, ◌<◌, ◌==◌, ◌∷◌, ◌≡◌}
use Rattle.ksm_pages.proofs.Names.{◌≢◌}
use Rattle.std.specs.Vec.{with_item}
use Rattle.ksm_pages.specs.declared.rows.Rows.TheInside.{Inside}
use Rattle.ksm_pages.proofs.Filing.{all_held, AreRows, differ_by, one_key, row_found, rows_all, view_of}

-- where one content comes to have a number, or comes to have none, no other content does
pub other_numbers : (old new : BTreeMap Content ℕ) (tree : ℕ) (bytes : List ℕ) (number : Option ℕ)
    → Updates content_order old new (content_of tree bytes) number
    → (t : ℕ) (b : List ℕ) → (t == tree && bytes_eq b bytes) ≡ false
    → number_of t b new.entries ≡ number_of t b old.entries
other_numbers old new tree bytes number updates t b apart =
    grind (arith, updates.0 (content_of t b), told_equal (content_of tree bytes) (content_of t b), eq_bytes b bytes)

-- where a key that fails a test becomes another, one passes still; where it becomes one that fails, none passes still
any_set : (p : ℕ → Bool) (keys : List ℕ) (i key : ℕ)
    → (p (get_or keys i 0) ≡ false → list_any p keys ≡ true → list_any p (set keys i key) ≡ true)
    × (p key ≡ false → list_any p keys ≡ false → list_any p (set keys i key) ≡ false)
any_set p [] i key = grind arith
any_set p (k ∷ keys) zero key = grind arith
any_set p (k ∷ keys) (suc i) key = grind (arith, any_set p keys i key)

-- where each key of a list is led to, none is as if it were never taken
all_taken : (slab : Slab Entry) (keys : List ℕ) → list_any (λ k. not (is_led slab k)) keys ≡ false
    → list_any (λ k. k == NO_KEY) keys ≡ false
all_taken slab [] led = refl
all_taken slab (k ∷ keys) led = grind (arith, nat_tests, all_taken slab keys)

-- a tree has the places and the others of another
abbrev pub IsAs : UnstableTree → UnstableTree → Type 0
IsAs u old = (u.places.items ≡ old.places.items) × (u.others ≡ old.others)

-- what stands at a place of a list once another thing is written at one of its places
pub get_set : {X : Type 0} (xs : List X) (i j : ℕ) (x : X)
    → slice_get (set xs i x) j ≡ (if i == j && nat_lt j (length xs) then Some x else slice_get xs j)
get_set [] i j x = grind arith
get_set (y ∷ ys) zero zero x = grind arith
get_set (y ∷ ys) zero (suc j) x = grind arith
get_set (y ∷ ys) (suc i) zero x = grind arith
get_set (y ∷ ys) (suc i) (suc j) x = grind (arith, get_set ys i j x)

-- one key of a place is another from now on
module _ (old : UnstableTree) (at : ℕ) (keys : List ℕ) (i key : ℕ)
    (there : slice_get old.places.items at ≡ Some keys) where
  abbrev new : UnstableTree
  new = record old { places = with_item old.places at (set keys i key) }

  -- in each place are the keys from before, but for that one
  keys_set : (b : List ℕ) → keys_at new b ≡ (if at == place (length old.places.items) b then Some (set keys i key) else keys_at old b)
  keys_set b =
      grind (arith, get_set old.places.items at (place (length old.places.items) b) (set keys i key), length-set, slice_get_within old.places.items at keys there)

  -- where the one was none to which the tree leads, nor is the other, a search comes to each key as before
  pub put_keeps : (slab : Slab Entry) → (key == NO_KEY) ≡ false → is_led slab (get_or keys i 0) ≡ false
      → (by_node : Bool) → Keeps by_node slab old new
  put_keeps slab taken free by_node t b k stands met =
      grind (arith, nat_tests, keys_set b, there, free, taken, stands, met, any_set (λ j. j == k) keys i key, any_set (λ j. j == NO_KEY) keys i key)

  -- and from the tree and bytes of the place a search comes to the other
  pub put_meets : (tree : ℕ) (bytes : List ℕ) → at ≡ place (length old.places.items) bytes → i < length keys
      → meets new tree bytes key ≡ true
  put_meets tree bytes here lt =
      let put = list_any_at (λ j. j == key) (set keys i key) i 0 (omega (arith, length-set keys i key, lt)) (grind (arith, nat_tests, get_or-set_at)) in
      grind (arith, keys_set bytes, here, put)

-- the places are as they were, and one content has another number, or none
module _ (old new : UnstableTree) (same : new.places.items ≡ old.places.items) (tree : ℕ) (bytes : List ℕ)
    (others : KeepsOthers tree bytes old new) where
  keys_same : (b : List ℕ) → keys_at new b ≡ keys_at old b
  keys_same b = λ i. slice_get (same i) (place (length (same i)) b)

  -- where the number of that one stays, if it leads to a row with the content, a search comes to each key as before
  pub beside_keeps : (slab : Slab Entry) (by_node : Bool)
      → ((k : ℕ) → stands_under by_node slab tree bytes k ≡ true → number_of tree bytes old.others.entries ≡ Some k
      → number_of tree bytes new.others.entries ≡ Some k)
      → Keeps by_node slab old new
  beside_keeps slab by_node stays t b k stands met = elim (cases_Bool (t == tree && bytes_eq b bytes)) [
    | inl is ↦
        let one : t ≡ tree = grind arith in
        let bytes_one : b ≡ bytes = grind (arith, (bytes_eq-Decides b bytes).0) in
        grind (arith, nat_tests, keys_same b, one, bytes_one, stays k)
    | inr apart ↦ grind (arith, keys_same b, others t b apart)
  ]

  -- from a content that has the number, and whose place is full, a search comes to that
  pub beside_meets : (slab : Slab Entry) (key : ℕ)
      → MatchOption (keys_at old bytes) ⊤ (λ keys. list_any (λ k. not (is_led slab k)) keys ≡ false)
      → number_of tree bytes new.others.entries ≡ Some key → meets new tree bytes key ≡ true
  beside_meets slab key full number = grind (arith, nat_tests, keys_same bytes, all_taken slab)

module _ {by_node : Bool} {slab : Slab Entry} {u : UnstableTree} (led : AreLed by_node slab u) where
  -- where no more entries are in the tree than were, each with its tree and bytes, it leads to all that are
  pub led_less : {later : Slab Entry}
      → ((t : ℕ) (b : List ℕ) (k : ℕ) → stands_as by_node t b (get later k) ≡ true → stands_as by_node t b (get slab k) ≡ true)
      → AreLed by_node later u
  led_less less = grind (arith)

  -- so it is where one entry is written anew that is in the tree only as before
  pub led_written : {later : Slab Entry} {key : ℕ} {d e : Entry} → Fills slab later key (Some e) → get slab key ≡ Some d → StaysLed d e
      → AreLed by_node later u
  led_written {later} {key} fills stood stays = led_less (λ t b k stands. grind (arith, differ_by, stood, stays, fills.others k))

  -- and where one comes that is not in the tree, or one goes
  pub led_out : {later : Slab Entry} {key : ℕ} {o : Option Entry} → Fills slab later key o → ((e : Entry) → o ≡ Some e → is_in e.in_tree ≡ false)
      → AreLed by_node later u
  led_out {later} {key} {o} fills out = led_less (λ t b k stands. grind (arith, differ_by, out, fills.others k))

  -- where a search comes to each entry as before, and to one that came to be in the tree, it leads to all that are in it
  pub led_entered : {later : Slab Entry} {key : ℕ} {d e : Entry} {new : UnstableTree} → get slab key ≡ Some d → Fills slab later key (Some e)
      → ((k : ℕ) → stands_as by_node (tree_by by_node d.home) d.bytes (get slab k) ≡ false) → e.home ≡ d.home → e.bytes ≡ d.bytes
      → nat_lt key GONE ≡ true → Keeps by_node slab u new → meets new (tree_by by_node d.home) d.bytes key ≡ true
      → AreLed by_node later new
  led_entered {later} {key} {d} {e} {new} stood fills none home bytes below keeps met = record {
    at = λ t b k stands. elim (cases_Bool (k == key)) [
      | inl is ↦
          let same : k ≡ key = grind (arith, nat_tests) in
          (grind arith, grind (arith, here t b, stands), λ l also. grind (arith, differ_by, was t b l, here t b, none l, also, stands))
      | inr apart ↦
          let stood = was t b k (differ_by apart) stands in
          let there = led.at t b k stood in
          (there.0, keeps t b k (grind (arith, there.0, stood)) there.1, λ l also. grind (arith, differ_by, here t b, none k, was t b, there.2 l, stands, also))
    ];
  }
    where
      here : (t : ℕ) (b : List ℕ) → stands_as by_node t b (get later key) ≡ true → (t ≡ tree_by by_node d.home) × (b ≡ d.bytes)
      here t b stands = grind (arith, nat_tests, bytes_eq-Decides e.bytes b)

      was : (t : ℕ) (b : List ℕ) (l : ℕ) → l ≢ key → stands_as by_node t b (get later l) ≡ true → stands_as by_node t b (get slab l) ≡ true
      was t b l apart stands = grind (arith, fills.others l apart)

module _ (slab later : Slab Entry) (g : Entry → Entry) (all : (k : ℕ) → get later k ≡ option_map g (get slab k)) where
  -- the same where each is changed, and is in the tree only as before
  pub led_mapped : ((e : Entry) → StaysLed e (g e)) → {by_node : Bool} {u : UnstableTree} → AreLed by_node slab u → AreLed by_node later u
  led_mapped stays led = led_less led (λ t b k stands. grind (arith, all k, stays))

-- keys that are apart stay so with one more, if none of them leads to a row with the bytes of its row
pub apart_more : (slab : Slab Entry) (keys : List ℕ) (at : ℕ) → at < length keys → AreApart slab keys at
    → ((bytes : List ℕ) → let stands = stands_under false slab 0 bytes in stands (get_or keys at 0) ≡ true → find stands (take at keys) ≡ None)
    → AreApart slab keys (at + 1)
apart_more slab keys at within apart none bytes i j lt below first =
    let fails = λ (is : find (stands_under false slab 0 bytes) (take at keys) ≡ None). find_none _ (take at keys) is i 0 in
    grind (arith, nat_tests, length-take-le at keys, get_or-take at keys i 0, none bytes, fails, apart bytes i j)

-- of keys that are apart one alone leads to a row with some bytes
one_apart : (slab : Slab Entry) (keys : List ℕ) → AreApart slab keys (length keys) → (bytes : List ℕ) (k l : ℕ)
    → list_any (λ j. j == k) keys ≡ true → list_any (λ j. j == l) keys ≡ true
    → stands_under false slab 0 bytes k ≡ true → stands_under false slab 0 bytes l ≡ true → l ≡ k
one_apart slab keys apart bytes k l has also stands too =
    let a = Any-from_list_any (λ j. j == k) keys has in
    let b = Any-from_list_any (λ j. j == l) keys also in
    grind (arith, nat_tests, a, b, get_or_default keys a.0 a.1 0 a.2, get_or_default keys b.0 b.1 0 b.2, apart bytes a.0 b.0, apart bytes b.0 a.0)

-- no key stands beside the places
module _ (u : UnstableTree) (alone : u.others.entries ≡ []) where
  -- the keys in the place of bytes
  abbrev here : List ℕ → List ℕ
  here b = unwrap_or (keys_at u b) []

  none : (t : ℕ) (b : List ℕ) → number_of t b u.others.entries ≡ None
  none t b = ap (number_of t b) alone

  -- a search that comes to a key finds it in its place, and so does one from the same bytes in another tree
  met : (t : ℕ) (b : List ℕ) (k : ℕ) → meets u t b k ≡ true → list_any (λ j. j == k) (here b) ≡ true
  met t b k is = grind (arith, none t b)

  found : (t : ℕ) (b : List ℕ) (k : ℕ) → list_any (λ j. j == k) (here b) ≡ true → meets u t b k ≡ true
  found t b k is = grind (arith, none t b)

  -- then the tree is right too once each node has one of its own
  pub led_split : {slab : Slab Entry} → AreLed false slab u → AreLed true slab u
  led_split {slab} led = record {
    at = λ t b k stands.
        let was = led.at 0 b k (grind arith) in
        (was.0, found t b k (met 0 b k was.1), λ l also. was.2 l (grind arith));
  }

  -- and once all have one, where the keys of each place are apart
  pub led_joined : {slab : Slab Entry} → All (λ keys. AreApart slab keys (length keys)) u.places.items → AreLed true slab u → AreLed false slab u
  led_joined {slab} apart led = record {
    at = λ t b k stands.
        let it = own t b k stands in (
          it.0,
          found t b k it.1,
          λ l also.
              let other = own t b l also in
              one_apart slab (here b) (apart_here b (keys_at u b) refl) b k l it.1 other.1 it.2 other.2,
        );
  }
    where
      home_of : Option Entry → ℕ
      home_of None = 0
      home_of (Some e) = e.home

      own : (t : ℕ) (b : List ℕ) (k : ℕ) → stands_as false t b (get slab k) ≡ true
          → (nat_lt k GONE ≡ true) × (list_any (λ j. j == k) (here b) ≡ true) × (stands_under false slab 0 b k ≡ true)
      own t b k stands =
          let was = led.at (home_of (get slab k)) b k (grind (arith, nat_tests, stands)) in
          (was.0, met _ b k was.1, grind (arith, was.0, stands))

      apart_here : (b : List ℕ) (o : Option (List ℕ)) → keys_at u b ≡ o → AreApart slab (unwrap_or o []) (length (unwrap_or o []))
      apart_here b None is = λ c i j lt below. absurd (omega arith)
      apart_here b (Some keys) is =
          let at = place (length u.places.items) b in
          subst (λ ks. AreApart slab ks (length ks)) (get_or_from_slice_get u.places.items at keys [] is)
          (apart at [] (slice_get_within u.places.items at keys is))

-- where a key of a list passes a test, the test finds one
found_any : (p : ℕ → Bool) {key : ℕ} → p key ≡ true → (keys : List ℕ) → list_any (λ k. k == key) keys ≡ true → find p keys ≡ None → ⊥
found_any p passes [] has none = grind arith
found_any p {key} passes (k ∷ keys) has none = grind (arith, nat_tests, found_any p {key = key} passes keys)

module _ (by_node : Bool) (slab : Slab Entry) (u : UnstableTree) (t : ℕ) (b : List ℕ) where
  -- the key that a search finds is that of an entry in the tree with the tree and bytes
  pub holder_stands : {key : ℕ} → holder by_node slab u t b ≡ Some key → stands_under by_node slab t b key ≡ true
  holder_stands is = grind (arith, find_passes)

  -- where it finds none, there is no such entry
  pub holder_none : AreLed by_node slab u → holder by_node slab u t b ≡ None → (k : ℕ) → stands_as by_node t b (get slab k) ≡ false
  holder_none led none k = grind (arith, false_from_ne_true, nat_tests, found_any)

module _ (s : Inside) (are : AreRows s) where
  -- a row that waits is in the tree
  pub rows_led : AreWaitersLed (all_held s)
  rows_led = rows_all s are (λ h. waiting_state h.row.state ≡ true → is_in h.in_tree ≡ true) (λ k e stands. grind arith)

  -- what holds of all rows holds of that of each entry
  holds_at : (P : Held → Type 0) → All P (all_held s) → (key : ℕ) (e : Entry) → get s.entries key ≡ Some e → P (held_of s.pass e)
  holds_at P all key e stands =
      find_all (holds e.page) P (all_held s) (held_of s.pass e) (row_found s are key e stands) all

  abbrev has : ℕ → List ℕ → Held → Bool
  has t b h = has_content s.by_node t b h

  -- the row found with a tree and bytes is of the page of each entry in the tree that has these
  pub page_found : AreLed s.by_node s.entries s.unstable → (t : ℕ) (b : List ℕ) (key : ℕ) (e : Entry) → get s.entries key ≡ Some e
      → has t b (held_of s.pass e) ≡ true → page_in_tree (view_of s) t b ≡ Some e.page
  page_found led t b key e stands is =
      let it = led.at t b key (grind arith) in
      let alike = find_alike (has t b) (holds e.page) (all_held s) (rows_all s are (λ h. has t b h ≡ holds e.page h)
      (λ k f there. grind (arith, it.2 k, there, stands, one_key s.entries s.order are.filed there stands, same_page_eq, same_page_refl))) in
      grind (arith, alike, row_found s are key e stands)

  -- each row in the tree is found by its tree and bytes
  pub rows_found : AreLed s.by_node s.entries s.unstable → AreInTree (view_of s)
  rows_found led =
      rows_all s are (λ h. is_in h.in_tree ≡ true → page_in_tree (view_of s) (tree_by s.by_node h.row.home) h.row.bytes ≡ Some h.row.page)
      (λ k e stands in_tree. page_found led _ _ k e stands (grind (arith, bytes_eq-Decides e.bytes e.bytes)))

  -- where no entry in the tree has a tree and bytes, no row is found with these
  pub none_found : (t : ℕ) (b : List ℕ) → ((k : ℕ) → stands_as s.by_node t b (get s.entries k) ≡ false) → find (has t b) (all_held s) ≡ None
  none_found t b none =
      find_nothing _ _ (rows_all s are (λ h. has t b h ≡ false) (λ k e stands. grind (arith, none k)))

  -- no entry in the tree has the tree and bytes of one that is not in it, where no other row has these
  pub free_none : (key : ℕ) (e : Entry) → get s.entries key ≡ Some e → is_in e.in_tree ≡ false → IsFree (view_of s) e.page (held_of s.pass e)
      → (k : ℕ) → stands_as s.by_node (tree_by s.by_node e.home) e.bytes (get s.entries k) ≡ false
  free_none key e stands out free k =
      let one = λ (f : Entry) (stood : get s.entries k ≡ Some f). one_key s.entries s.order are.filed stood stands in
      grind (arith, holds_at (λ g. holds e.page g ≡ false → has (tree_by s.by_node e.home) e.bytes g ≡ false) free k, one, stands, out, same_page_eq)
