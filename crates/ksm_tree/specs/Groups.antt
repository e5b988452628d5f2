-- The groups: the dups of one tree and one content (mm/ksm: a chain links the copies of one content), and how many are chains.
use Rattle.std.specs.Prelude.{[], Bool, bytes_eq, count_by, if◌then◌else◌, is_some, length, List, nat_lt, None, Option, Some, true, ℕ, ◌&&◌, ◌+◌, ◌<◌, ◌==◌, ◌^◌, ◌≡◌, ◌≤◌}
use Rattle.ksm_tree.specs.Terms.{DupRow, ForSome, get, in_chain, leads_group, MOST_SPARE}
use Rattle.smallvec.specs.SmallVec.{HasRoomFor}
use Rattle.ksm_tree.specs.declared.groups.Groups.{Groups}
use Rattle.ksm_tree.specs.Numbered.{KeepsReserve, number_of, places_in}
use Rattle.ksm_tree.specs.declared.totals.Totals.{Totals}

-- how many chains a group of so many dups is: one, if they are two or more
abbrev pub chains_of : ℕ → ℕ
chains_of n = if nat_lt 1 n then 1 else 0

-- how many dups of a group of so many are in a chain: all, if they are two or more
abbrev pub chained_of : ℕ → ℕ
chained_of n = if nat_lt 1 n then n else 0

-- the totals count a group of so many dups, and are small
pub record Tells (n : ℕ) (totals : Totals) : Type 0 where
  pub chains : chains_of n ≤ totals.chains
  pub dups : chained_of n ≤ totals.dups
  pub few : totals.chains < 2 ^ 32
  pub small : totals.dups < 2 ^ 32

-- the totals once a group of `before` dups has `after`
pub record IsRegrouped (before after : ℕ) (old new : Totals) : Type 0 where
  pub chains : new.chains + chains_of before ≡ old.chains + chains_of after
  pub dups : new.dups + chained_of before ≡ old.dups + chained_of after

-- the totals are the book's: a chain is counted by its first dup
pub record AreTotals (rows : List DupRow) (totals : Totals) : Type 0 where
  pub chains : totals.chains ≡ count_by (λ d. in_chain rows d && leads_group rows d) rows
  pub dups : totals.dups ≡ count_by (in_chain rows) rows

-- what stands under a number, where there is one
abbrev pub under : {X : Type 0} → X → (ℕ → X) → Option ℕ → X
under none at None = none
under none at (Some number) = at number

-- the number of a tree and bytes, if they have one
abbrev pub number_in : ℕ → List ℕ → Groups → Option ℕ
number_in tree bytes groups = number_of tree bytes groups.numbers.entries

-- the places of the group of a tree and bytes
abbrev pub chain_in : ℕ → List ℕ → Groups → List ℕ
chain_in tree bytes groups = under [] (λ number. places_in (get groups.groups number)) (number_in tree bytes groups)

-- dups of the tree and bytes are there
abbrev pub is_used_in : Groups → ℕ → List ℕ → Bool
is_used_in groups tree bytes = nat_lt 0 (length (chain_in tree bytes groups))

-- every content that has a number is in use, and at most so many more may get one as the reserve has
pub record IsSwept (groups : Groups) : Type 0 where
  pub used : (tree : ℕ) (bytes : List ℕ) → is_some (number_in tree bytes groups) ≡ true
      → is_used_in groups tree bytes ≡ true
  pub least : length groups.numbers.entries ≤ groups.most
  pub most : groups.most ≤ length groups.numbers.entries + MOST_SPARE

-- each content has the number that it had, and as many may have one
pub record SameNumbers (old new : Groups) : Type 0 where
  pub numbers : new.numbers.entries ≡ old.numbers.entries
  pub most : new.most ≡ old.most

-- the chains are as they were
pub record SameChains (old new : Groups) : Type 0 where
  pub chains : (tree : ℕ) (bytes : List ℕ) → chain_in tree bytes new ≡ chain_in tree bytes old
  pub totals : new.totals ≡ old.totals

-- the group with a number, if there is one, has room for one more place
abbrev pub HasRoomAt : ℕ → Groups → Type 0
HasRoomAt number groups = ForSome (get groups.groups number) (λ g. HasRoomFor g.places.list 1)

-- the chains are as they were, but for a change of that of a tree and bytes
abbrev pub IsMoved : ℕ → List ℕ → (List ℕ → List ℕ) → Groups → Groups → Type 0
IsMoved tree bytes change old new = (t : ℕ) (b : List ℕ)
    → chain_in t b new ≡ (if t == tree && bytes_eq b bytes then change (chain_in t b old) else chain_in t b old)

-- the totals count the chain of a tree and bytes
abbrev pub IsCounted : ℕ → List ℕ → Groups → Type 0
IsCounted tree bytes groups = Tells (length (chain_in tree bytes groups)) groups.totals

-- the totals count the chain of a tree and bytes with as many dups as it has then
abbrev pub IsCountedAnew : ℕ → List ℕ → Groups → Groups → Type 0
IsCountedAnew tree bytes old new =
    IsRegrouped (length (chain_in tree bytes old)) (length (chain_in tree bytes new)) old.totals new.totals

-- a tree and bytes were asked for their number, and the reserve is kept
abbrev pub GroupsKeepReserve : ℕ → List ℕ → Groups → Groups → Type 0
GroupsKeepReserve tree bytes old new =
    KeepsReserve (is_used_in new) tree bytes old.numbers.entries new.numbers.entries old.most new.most
