-- The unstable tree: to which row it leads from a tree and bytes (mm/ksm; how it is kept is own).
use Rattle.std.specs.Prelude.{◌≡◌, ℕ, ◌+◌, ◌*◌, ◌/◌, ◌%◌, ◌^◌, Bool, true, false, length, nat_lt, slice_get, ◌&&◌, ◌||◌, ◌==◌, bytes_eq, is_some, not, List, [], ◌∷◌, find, Option, None, Some}
use Rattle.std.specs.Prelude.{if◌then◌else◌, slice_index_or, ◌<◌}
use Rattle.std.specs.List.{list_any}
use Rattle.slab.specs.Slab.{Slab, Updates, get}
use Rattle.ksm_pages.specs.Terms.{number_of}
use Rattle.ksm_pages.specs.declared.row.Entry.{Entry}
use Rattle.ksm_pages.specs.declared.unstable.TheConstants.{GONE, NO_KEY, SPREAD}
use Rattle.ksm_pages.specs.declared.unstable.UnstableTree.{UnstableTree}
use Rattle.ksm_pages.specs.Held.{is_in, tree_by}

-- a number of 64 bits with its halves in each other's place
abbrev pub turned : ℕ → ℕ
turned number = (number * 2 ^ 32 % 2 ^ 64 + number / 2 ^ 32) % 2 ^ 64

-- a number that hangs on a first one and on each word
abbrev pub digest : ℕ → List ℕ → ℕ
digest first [] = first
digest first (word ∷ bytes) = digest ((turned first + word) % 2 ^ 64 * SPREAD % 2 ^ 64) bytes

-- the number of the place of bytes, in a table of so many
abbrev pub place : ℕ → List ℕ → ℕ
place places bytes = turned (digest 0 bytes) * SPREAD % 2 ^ 64 / 2 ^ 32 * places % 2 ^ 64 / 2 ^ 32

-- the keys that stand in that place, if there is one
abbrev pub keys_at : UnstableTree → List ℕ → Option (List ℕ)
keys_at u bytes = slice_get u.places.items (place (length u.places.items) bytes)

-- whether there is an entry, and it is said that the tree leads to it
abbrev pub is_in_tree : Option Entry → Bool
is_in_tree None = false
is_in_tree (Some e) = is_in e.in_tree

-- whether the entry under a key is such a one
abbrev pub is_led : Slab Entry → ℕ → Bool
is_led slab key = nat_lt key GONE && is_in_tree (get slab key)

-- whether there is an entry to which the tree leads, with a tree and bytes
abbrev pub stands_as : Bool → ℕ → List ℕ → Option Entry → Bool
stands_as by_node tree bytes None = false
stands_as by_node tree bytes (Some e) = is_in e.in_tree && (tree_by by_node e.home == tree && bytes_eq e.bytes bytes)

-- whether such an entry is under a key
abbrev pub stands_under : Bool → Slab Entry → ℕ → List ℕ → ℕ → Bool
stands_under by_node slab tree bytes key = nat_lt key GONE && stands_as by_node tree bytes (get slab key)

-- a key, if it passes a test
abbrev pub if_passes : (ℕ → Bool) → Option ℕ → Option ℕ
if_passes test None = None
if_passes test (Some key) = if test key then Some key else None

-- the key of the row, where it does not stand in its place
abbrev pub other_holder : Bool → Slab Entry → UnstableTree → ℕ → List ℕ → Option ℕ
other_holder by_node slab u tree bytes = if_passes (stands_under by_node slab tree bytes) (number_of tree bytes u.others.entries)

-- the key that was found in a place, or else the other one, unless a key of the place was never taken
abbrev pub found_or : Option ℕ → List ℕ → Option ℕ → Option ℕ
found_or (Some key) keys other = Some key
found_or None keys other = if list_any (λ k. k == NO_KEY) keys then None else other

-- the key that passes a test in a place, or else the other one
abbrev pub in_place : (ℕ → Bool) → Option (List ℕ) → Option ℕ → Option ℕ
in_place test None other = other
in_place test (Some keys) other = found_or (find test keys) keys other

-- the key of the row to which the tree leads from a tree and bytes
abbrev pub holder : Bool → Slab Entry → UnstableTree → ℕ → List ℕ → Option ℕ
holder by_node slab u tree bytes =
    in_place (stands_under by_node slab tree bytes) (keys_at u bytes) (other_holder by_node slab u tree bytes)

-- whether a search from a tree and bytes comes to a key: it stands in the place, or beside it where each key there was taken
abbrev pub comes_to : ℕ → Option (List ℕ) → Option ℕ → Bool
comes_to key None other = is_some (if_passes (λ k. k == key) other)
comes_to key (Some keys) other =
    list_any (λ k. k == key) keys || (not (list_any (λ k. k == NO_KEY) keys) && is_some (if_passes (λ k. k == key) other))

-- the same in the table and the map of a tree
abbrev pub meets : UnstableTree → ℕ → List ℕ → ℕ → Bool
meets u tree bytes key = comes_to key (keys_at u bytes) (number_of tree bytes u.others.entries)

-- a search comes to each entry to which the tree is said to lead, and no other has its tree and bytes
pub record AreLed (by_node : Bool) (slab : Slab Entry) (u : UnstableTree) : Type 0 where
  pub at : (tree : ℕ) (bytes : List ℕ) (key : ℕ) → stands_as by_node tree bytes (get slab key) ≡ true
      → (nat_lt key GONE ≡ true) × (meets u tree bytes key ≡ true)
      × ((k : ℕ) → stands_as by_node tree bytes (get slab k) ≡ true → k ≡ key)

-- no two of the first keys lead to rows of the same bytes
abbrev pub AreApart : Slab Entry → List ℕ → ℕ → Type 0
AreApart slab keys many = (bytes : List ℕ) (i j : ℕ) → i < j → j < many
    → stands_under false slab 0 bytes (slice_index_or keys i 0) ≡ true
    → stands_under false slab 0 bytes (slice_index_or keys j 0) ≡ false

-- a search comes to each entry to which it came
abbrev pub Keeps : Bool → Slab Entry → UnstableTree → UnstableTree → Type 0
Keeps by_node slab old new = (tree : ℕ) (bytes : List ℕ) (key : ℕ) → stands_under by_node slab tree bytes key ≡ true
    → meets old tree bytes key ≡ true → meets new tree bytes key ≡ true

-- each content but one has the number that it had
abbrev pub KeepsOthers : ℕ → List ℕ → UnstableTree → UnstableTree → Type 0
KeepsOthers tree bytes old new = (t : ℕ) (b : List ℕ) → (t == tree && bytes_eq b bytes) ≡ false
    → number_of t b new.others.entries ≡ number_of t b old.others.entries

-- no entry in the tree has the tree and bytes of the one under a key, if that is not in the tree
abbrev pub IsFreeAt : Bool → Slab Entry → ℕ → Type 0
IsFreeAt by_node slab key = (d : Entry) → get slab key ≡ Some d → is_in d.in_tree ≡ false
    → (k : ℕ) → stands_as by_node (tree_by by_node d.home) d.bytes (get slab k) ≡ false

-- once the entry under a key is in the tree, with its home and its bytes, the tree leads to all that are in it
abbrev pub LeadsAt : Bool → Slab Entry → UnstableTree → ℕ → Type 0
LeadsAt by_node slab u key = (d e : Entry) (later : Slab Entry) → get slab key ≡ Some d → Updates slab later key (Some e)
    → e.home ≡ d.home → e.bytes ≡ d.bytes → is_in e.in_tree ≡ true → AreLed by_node later u
