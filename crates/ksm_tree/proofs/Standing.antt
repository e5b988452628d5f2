-- What a change of one group makes of the chains, and which contents are in use.
use Rattle.ksm_tree.proofs.Names.{[], ap, AreGroups, arith, BTreeMap, bytes_eq, bytes_eq-Decides, Content, content_in, content_of, content_order, false, get, Group, Groups, has_place, if◌then◌else◌}
use Rattle.ksm_tree.proofs.Names.{is_some, IsUnused, List, None, number_of, Numbers, Option, places_in, Slab, Some, sym, true, Updates, Updates-with_value, with_value, ℕ, ◌&&◌, ◌==◌, ◌≡◌, ◌⊎◌}
use Rattle.ksm_tree.specs.Groups.{chain_in, GroupsKeepReserve, is_used_in, IsSwept, number_in, SameNumbers, under}
use Rattle.slab.specs.Slab.{Updates as Fills}
use Rattle.ksm_tree.proofs.Numbering.{same_content, told_equal}
use Rattle.ksm_tree.proofs.Rows.{eq_bytes}
use Rattle.ksm_tree.specs.declared.places.Places.{Places}

-- the places of the group of a tree and bytes
abbrev chain_by : Numbers → Slab Group → ℕ → List ℕ → List ℕ
chain_by numbers groups t b = under [] (λ n. places_in (get groups n)) (number_of t b numbers)

-- under the number of a tree and bytes a group stands
pub stands_under : (g : Groups) (t : ℕ) (b : List ℕ) {n : ℕ} → number_in t b g ≡ Some n → None ≡ get g.groups n → ⊥
stands_under g t b {n} is none = grind (arith, (g.lawful (content_of t b) n).0 is)

-- a group that stands under a number has it
pub not_unused : (g : Groups) (n : ℕ) {group : Group} → Some group ≡ get g.groups n → IsUnused n g.numbers.entries → ⊥
not_unused g n {group} stands unused = unused _ _ ((g.lawful group.content n).1 (ap content_in (sym stands)))

-- under a number, where a group stood, the group stands with other places
module _ (g : Groups) (number : ℕ) (was : Group) (places : Places) (stood : Some was ≡ get g.groups number) where
  abbrev new : Slab Group
  new = with_value g.groups number (record was { places = places })

  fills : Fills g.groups new number (Some (record was { places = places }))
  fills = Updates-with_value g.groups number _ (sym (ap is_some stood))

  -- the groups keep their numbers
  pub rewritten : AreGroups g.numbers.entries new
  rewritten k n = grind (arith, fills, g.lawful k n)

  -- the chain of the group's content is changed as its places are, and no other
  pub rechained : (change : List ℕ → List ℕ) → places.list.items ≡ change was.places.list.items → (tree : ℕ) (bytes : List ℕ) → number_in tree bytes g ≡ Some number
      → (t : ℕ) (b : List ℕ) → chain_by g.numbers.entries new t b ≡ (if t == tree && bytes_eq b bytes then change (chain_in t b g) else chain_in t b g)
  rechained change is tree bytes named t b =
      let here = (g.lawful (content_of tree bytes) number).0 named in
      grind (arith, fills, g.lawful (content_of t b), (bytes_eq-Decides b bytes).0, (bytes_eq-Decides b bytes).1)

-- a group without a dup has come, or one has gone: the groups are right, and the chains are as they were
pub record Keeps (g : Groups) (later : Slab Group) (numbers : BTreeMap Content ℕ) : Type 0 where
  pub lawful : AreGroups numbers.entries later
  pub chains : (t : ℕ) (b : List ℕ) → chain_by numbers.entries later t b ≡ chain_in t b g

module _ (g : Groups) {later : Slab Group} (numbers : BTreeMap Content ℕ) (k : Content) {number : ℕ} {named : Option ℕ} {slot : Option Group}
    (updates : Updates content_order g.numbers numbers k named) (fills : Fills g.groups later number slot)
    (was : places_in (get g.groups number) ≡ []) (now : places_in slot ≡ []) where
  -- a group without a dup came with a content that had no number, or went, and its content lost its number
  pub keeps : ((number_in k.tree k.bytes g ≡ None) × (get g.groups number ≡ None) × (named ≡ Some number) × (content_in slot ≡ Some k))
      ⊎ ((content_in (get g.groups number) ≡ Some k) × (slot ≡ None) × (named ≡ None)) → Keeps g later numbers
  keeps change = record {
    lawful = λ q n. grind (arith, same_content {p = k} {q = q}, updates.0 q, g.lawful q n, fills);
    chains = λ t b.
        grind (arith, updates.0 (content_of t b), same_content {p = k} {q = content_of t b}, fills, fills.changed, (g.lawful k number).1);
  }

-- where a dup stands in each group, each content with a number is in use
pub all_used : (g : Groups) → ((n : ℕ) → is_some (get g.groups n) ≡ true → has_place (get g.groups n) ≡ true)
    → (t : ℕ) (b : List ℕ) → is_some (number_in t b g) ≡ true → is_used_in g t b ≡ true
all_used g occupied t b has = grind (arith, g.lawful (content_of t b))

-- where one content gets a number, every other content that has one had it
pub no_other : (old new : BTreeMap Content ℕ) (tree : ℕ) (bytes : List ℕ) (key : ℕ) → Updates content_order old new (content_of tree bytes) (Some key)
    → (t : ℕ) (b : List ℕ) → is_some (number_of t b new.entries) ≡ true → (t == tree && bytes_eq b bytes) ≡ false → is_some (number_of t b old.entries) ≡ true
no_other old new tree bytes key updates t b has apart = grind (arith, told_equal (content_of tree bytes) (content_of t b), eq_bytes b bytes)

-- where the others lost their numbers, or nothing happened, and no content got one, the reserve is kept
pub reserve_left : (old : Groups) {g : Groups} {tree : ℕ} {bytes : List ℕ} → (IsSwept g ⊎ SameNumbers old g) → GroupsKeepReserve tree bytes old g
reserve_left old is = grind arith

-- what a number and a content say of the groups
pub ruleset steps = (not_unused, reserve_left, rewritten, stands_under)
