-- Items in the order of their keys.
use Rattle.std.specs.Prelude.{◌≡◌, ◌≢◌, ℕ, ◌+◌, ◌<◌, Bool, false, not, ◌&&◌, ◌==◌, List, [], ◌∷◌, ◌++◌, All, AllPairs, count_by, filter, flat_map, drop, if◌then◌else◌, length, map, nat_lt, take}
use Rattle.std.specs.List.{list_any}
use Rattle.std.specs.Prelude.{slice_get, true, Option, option_map, ◌||◌}
use Rattle.ksm_order.specs.declared.item.Item.{Item}

-- the keys ascend, so none stands twice
abbrev pub AreAscending : List Item → Type 0
AreAscending xs = AllPairs (λ x y. x.key < y.key) xs

-- whether it has the key
abbrev pub is_at : ℕ → Item → Bool
is_at key x = x.key == key

-- whether its key is not below a key
abbrev pub is_from : ℕ → Item → Bool
is_from key x = not (nat_lt x.key key)

-- how many are marked
abbrev pub many : List Item → ℕ
many xs = count_by (λ x. x.marked) xs

-- the marked ones
abbrev pub marked : List Item → List Item
marked xs = filter (λ x. x.marked) xs

-- how many marked ones come before a key
abbrev pub up_to : ℕ → List Item → ℕ
up_to key xs = count_by (λ x. x.marked && nat_lt x.key key) xs

-- the key at a place of a list
abbrev pub key_at : List Item → ℕ → Option ℕ
key_at xs place = option_map (λ x. x.key) (slice_get xs place)

-- the first comes behind a key
abbrev pub begins_behind : ℕ → List Item → Bool
begins_behind key [] = false
begins_behind key (x ∷ xs) = nat_lt key x.key

-- the keys ascend, and so many are marked
pub record IsCounted (xs : List Item) (count : ℕ) : Type 0 where
  pub ascending : AreAscending xs
  pub counted : count ≡ many xs

-- all keys come before a key
abbrev pub AreBefore : ℕ → List Item → Type 0
AreBefore key xs = All (λ x. x.key < key) xs

-- all keys come behind a key
abbrev pub AreBehind : ℕ → List Item → Type 0
AreBehind key xs = All (λ x. key < x.key) xs

-- a key comes behind some item, or it is told that it comes behind all ahead of these; and so it is with what is behind
pub record IsAmong (key : ℕ) (ahead behind : Bool) (xs : List Item) : Type 0 where
  pub over : (ahead || list_any (λ x. nat_lt x.key key) xs) ≡ true
  pub under : (behind || list_any (λ x. nat_lt key x.key) xs) ≡ true

-- with an item at its place in the order
abbrev pub with_item : Item → List Item → List Item
with_item x xs = filter (λ y. nat_lt y.key x.key) xs ++ x ∷ filter (λ y. nat_lt x.key y.key) xs

-- without the item of a key
abbrev pub without : ℕ → List Item → List Item
without key xs = filter (λ y. not (is_at key y)) xs

-- with the item of a key marked, or not
abbrev pub with_mark : ℕ → Bool → List Item → List Item
with_mark key mark xs = map (λ y. if is_at key y then record y { marked = mark } else y) xs

-- no part is empty, and the keys ascend within the parts and from part to part
pub record AreParts {P : Type 0} (items : P → List Item) (parts : List P) : Type 0 where
  pub filled : All (λ p. items p ≢ []) parts
  pub ascending : AreAscending (flat_map items parts)

-- a list is cut in two, of which neither is empty
pub record IsCut (xs front back : List Item) : Type 0 where
  pub whole : xs ≡ front ++ back
  pub front_filled : front ≢ []
  pub back_filled : back ≢ []

-- the part of a key: those before it have keys before that key, those behind it keys behind
pub record IsPartOf {P : Type 0} (items : P → List Item) (key : ℕ) (parts : List P) (at : ℕ) : Type 0 where
  pub within : at < length parts
  pub ahead : AreBefore key (flat_map items (take at parts))
  pub behind : AreBehind key (flat_map items (drop (at + 1) parts))
