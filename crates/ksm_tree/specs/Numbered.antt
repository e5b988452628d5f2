-- Contents, each with a number: a tree with the bytes of a page. Under the number stands the group: the places of its
-- dups. How many have a number: those that were in use when the others lost theirs, and a reserve. (own)
use Rattle.std.specs.Prelude.{[], Bool, bytes_eq, false, is_some, length, List, nat_lt, None, Option, option_map, Some, true, ℕ, ◌&&◌, ◌+◌, ◌==◌, ◌↔◌, ◌≡◌, ◌≢◌, ◌≤◌, ◌⊎◌}
use Rattle.ksm_tree.specs.Terms.{Content, get, is_at, lookup, MOST_SPARE, Ordering, Slab}
use Rattle.ksm_tree.specs.declared.groups.Group.{Group}
use Rattle.ksm_tree.specs.contracts.content.ContentOrd.TheImpl as content_ord

-- contents in their order, each with its number
abbrev pub Numbers : Type 0
Numbers = List (Content × ℕ)

abbrev pub content_order : Content → Content → Ordering
content_order = content_ord.ghosts.cmp

abbrev pub content_of : ℕ → List ℕ → Content
content_of tree bytes = record { tree = tree; bytes = bytes }

-- the number of a tree and bytes, if they have one
abbrev pub number_of : ℕ → List ℕ → Numbers → Option ℕ
number_of tree bytes numbers = lookup (is_at (content_order (content_of tree bytes))) numbers

-- no content has the number
abbrev pub IsUnused : ℕ → Numbers → Type 0
IsUnused number numbers = (tree : ℕ) (bytes : List ℕ) → number_of tree bytes numbers ≢ Some number

abbrev pub content_in : Option Group → Option Content
content_in group = option_map (λ g. g.content) group

-- the places of the dups of a group, none where there is no group
abbrev pub places_in : Option Group → List ℕ
places_in None = []
places_in (Some g) = g.places.list.items

-- a dup stands in a group
abbrev pub has_place : Option Group → Bool
has_place group = nat_lt 0 (length (places_in group))

-- a content has a number exactly where its group stands under it
abbrev pub AreGroups : Numbers → Slab Group → Type 0
AreGroups numbers groups = (content : Content) (number : ℕ)
    → (number_of content.tree content.bytes numbers ≡ Some number) ↔ (content_in (get groups number) ≡ Some content)

-- every other content that has a number is in use, and at most so many more may get one as the reserve has
pub record HaveSwept (in_use : ℕ → List ℕ → Bool) (tree : ℕ) (bytes : List ℕ) (numbers : Numbers) (room : ℕ) : Type 0 where
  pub used : (t : ℕ) (b : List ℕ) → is_some (number_of t b numbers) ≡ true
      → (t == tree && bytes_eq b bytes) ≡ false → in_use t b ≡ true
  pub limit : room ≤ length numbers + MOST_SPARE

-- a tree and bytes were asked for their number: no content got one, or no more have one than may;
-- and so many may have one as before, or the contents that were not in use lost theirs
pub record KeepsReserve (in_use : ℕ → List ℕ → Bool) (tree : ℕ) (bytes : List ℕ) (old new : Numbers) (before after : ℕ) : Type 0 where
  pub many : (new ≡ old) ⊎ (length new ≤ after)
  pub limit : (after ≡ before) ⊎ HaveSwept in_use tree bytes new after
