-- The best dup to join: a walk over a group, keeping the better of two, ends at the one that the definition chooses of all.
use Rattle.ksm_tree.proofs.Names.{[], All, All-filter, All-map, ap, ArePlacesToJoin, arith, best_of, Bool, candidate_of, cases_Bool, count_by, drop, drop_more, Dup, dup_at, false, filter, filter_map}
use Rattle.ksm_tree.proofs.Names.{filter_passes, find, find_nothing, get_or, group_places, if◌then◌else◌, in_group, inl, InPlaceOrder, inr, is_live, is_no_worse, is_open, items_in, length, List, list_all, Lower, map}
use Rattle.ksm_tree.proofs.Names.{may_join, nat_le, nat_lt, nat_tests, None, none_counted, not, Option, pairs_head, pairs_tail, refl, rows_of, Some, suc, sym, true, zero, ℕ, ◌%◌, ◌&&◌, ◌+◌, ◌-◌, ◌<◌, ◌==◌, ◌^◌}
use Rattle.ksm_tree.proofs.Names.{◌||◌, ◌∙◌, ◌∷◌, ◌≡◌, ◌≤◌}
use Rattle.std.specs.Option.{option_or}
use Rattle.ksm_tree.proofs.Alike.{filter_mapped, map_mapped}
use Rattle.ksm_tree.proofs.Changes.{all_rows}

-- a walk that keeps the better of two, over dups that pass a test
module _ (may : Dup → Bool) where
  abbrev rival : Dup → Dup → Bool
  rival d e = not (may e) || is_no_worse d e

  abbrev top : List Dup → Dup → Bool
  top dups d = may d && list_all (rival d) dups

  abbrev kept : Option Dup → Dup → Option Dup
  kept None d = if may d then Some d else None
  kept (Some best) d = if may d && not (is_no_worse best d) then Some d else Some best

  abbrev walked : Option Dup → List Dup → Option Dup
  walked acc [] = acc
  walked acc (d ∷ dups) = walked (kept acc d) dups

  -- what a dup is no worse than, another is not that is no worse than that
  through : (e b d : Dup) → may b ≡ true → rival e b ≡ true → rival b d ≡ true → rival e d ≡ true
  through e b d passes above r = grind arith

  -- a walk from a dup on ends at the best of it and the others
  walk_from : (b : Dup) (dups : List Dup) → may b ≡ true → walked (Some b) dups ≡ find (top (b ∷ dups)) (b ∷ dups)
  walk_from b [] first = grind arith
  walk_from b (d ∷ dups) first =
      elim (cases_Bool (rival b d)) [
        | inl above ↦
            let same : (e : Dup) → top (b ∷ dups) e ≡ top (b ∷ d ∷ dups) e = λ e. grind (arith, through e b d first) in
            let other : top (b ∷ dups) b ≡ false → top (b ∷ dups) d ≡ false = λ fails. grind (arith, nat_tests) in
            grind arith ∙ walk_from b dups first ∙ grind (arith, other) ∙ (λ i. find (λ e. same e i) (b ∷ d ∷ dups))
        | inr worse ↦
            let passes : may d ≡ true = grind arith in
            let over = λ (e : Dup). through e d b passes in
            let same : (e : Dup) → top (d ∷ dups) e ≡ top (b ∷ d ∷ dups) e = λ e. grind (arith, nat_tests) in
            grind (arith, walk_from d dups passes) ∙ (λ i. find (λ e. same e i) (d ∷ dups)) ∙ grind arith
      ]

  -- a walk that keeps the better of two dups ends at the first that may be joined and to which none is better
  walk_top : (dups : List Dup) → walked None dups ≡ find (top dups) dups
  walk_top [] = refl
  walk_top (d ∷ dups) = grind (arith, walk_from, walk_top dups)

  -- dups that fail the test change nothing of the walk
  walk_passing : (test : Dup → Bool) → ((d : Dup) → may d ≡ true → test d ≡ true) → (acc : Option Dup) (dups : List Dup) → walked acc (filter test dups) ≡ walked acc dups
  walk_passing test passes acc [] = refl
  walk_passing test passes acc (d ∷ dups) = grind (arith, passes d, walk_passing test passes (kept acc d) dups)

-- where no dup has an item, none may be joined
pub none_live : (tree : ℕ) (bytes : List ℕ) (limit : ℕ) (dups : List Dup) → count_by is_live dups ≡ 0 → best_of tree bytes limit dups ≡ None
none_live tree bytes limit dups none = grind (arith, find_nothing, none_counted)

-- in dups in order, each dup is what is found at its place
found_self : (dups : List Dup) → InPlaceOrder (rows_of dups) → All (λ d. dup_at d.row.place dups ≡ Some d) dups
found_self [] rise k e lt = absurd (omega arith)
found_self (d ∷ dups) rise zero e lt = grind arith
found_self (d ∷ dups) rise (suc k) e lt =
    let behind = all_rows (Lower d.row) dups (pairs_head Lower _ _ rise) k e (omega arith) in
    grind (arith, behind.0, found_self dups (pairs_tail Lower d.row _ rise) k e)

-- the dups at the places of a list
abbrev pub at_places : List Dup → List ℕ → List Dup
at_places dups places = filter_map (λ p. dup_at p dups) places

-- the dups at the places of some dups are these
at_own : (all dups : List Dup) → All (λ d. dup_at d.row.place all ≡ Some d) dups → at_places all (map (λ d. d.row.place) dups) ≡ dups
at_own all [] found = refl
at_own all (d ∷ dups) found =
    grind (arith, found 0 d (omega arith), at_own all dups (λ k e lt. found (suc k) e (omega arith)))

-- how many items a dup must have to be joined where a best dup so far was found, or none
abbrev pub least_of : Option Dup → ℕ
least_of None = 1
least_of (Some d) = length d.items

-- one comparison tells of a count whether it is the least or more, and below the limit
pub in_room : (items least limit : ℕ) → items < 2 ^ 32 → least < 2 ^ 32 → limit < 2 ^ 32
    → nat_lt ((items + (2 ^ 32 - least)) % 2 ^ 32) (limit - least) ≡ (nat_le least items && nat_lt items limit)
in_room items least limit fits least_fits limit_fits = grind arith

module _ (t : ℕ) (b : List ℕ) (limit : ℕ) (dups : List Dup) where
  -- the best of the dup so far and those at places
  abbrev pub walked_at : Option Dup → List ℕ → Option Dup
  walked_at acc places = walked (may_join t b limit) acc (at_places dups places)

  -- the dup at a place is taken where it is the better one
  pub stepped : (acc : Option Dup) (places : List ℕ) (i : ℕ) {items least : ℕ} → i < length places → items ≡ length (items_in (dup_at (get_or places i 0) dups)) → least ≡ least_of acc → 1 ≤ least
      → walked_at (if nat_le least items && nat_lt items limit then option_or (candidate_of t b (if items == least then acc else None) false (dup_at (get_or places i 0) dups)) acc else acc) (drop (i + 1) places)
      ≡ walked_at acc (drop i places)
  stepped acc places i within has is one = grind (arith, drop_more)

  -- the dups at whose places the walk looks: those of the group, or all that are open
  abbrev tried : Bool → Dup → Bool
  tried true d = in_group t b d.row
  tried false d = is_open limit (length d.items)

  listed : (found : List ℕ) (is_chain : Bool) → ArePlacesToJoin (group_places t b (rows_of dups)) limit dups found is_chain → found ≡ map (λ d. d.row.place) (filter (tried is_chain) dups)
  listed found true is =
      is ∙ ap (map (λ r. r.place)) (filter_mapped _ _ _ dups (λ k d lt. refl)) ∙ map_mapped _ _ _ _ (λ k d lt. refl)
  listed found false is = is

  module _ (found : List ℕ) (is_chain : Bool) (join : ArePlacesToJoin (group_places t b (rows_of dups)) limit dups found is_chain) where
    -- the places of dups to join are places of the tree
    pub candidates_within : (places : ℕ) → All (λ r. r.place < places) (rows_of dups) → All (λ p. p < places) found
    candidates_within places below = rw (listed found is_chain join) (All-map (λ p. p < places) _ _
        (All-filter _ (λ d. d.row.place < places) _ (all_rows (λ r. r.place < places) dups below)))

    module _ (rise : InPlaceOrder (rows_of dups)) where
      each_found : All (λ d. dup_at d.row.place dups ≡ Some d) (filter (tried is_chain) dups)
      each_found = All-filter (tried is_chain) (λ d. dup_at d.row.place dups ≡ Some d) dups (found_self dups rise)

      -- a dup of the chain needs no comparison: its place is one of the group
      pub candidate_is : (rival : Option Dup) (i : ℕ) → i < length found → candidate_of t b rival is_chain (dup_at (get_or found i 0) dups) ≡ candidate_of t b rival false (dup_at (get_or found i 0) dups)
      candidate_is rival i within =
          let Same : ℕ → Type 0 = λ p. candidate_of t b rival is_chain (dup_at p dups) ≡ candidate_of t b rival false (dup_at p dups) in
          let each : All Same found = rw (listed found is_chain join)
          (All-map Same (λ d. d.row.place) (filter (tried is_chain) dups)
          (λ k d lt. grind (arith, each_found k d lt, filter_passes (tried is_chain) dups k d lt))) in
          each i 0 within

      -- the walk over the places to join ends at the best dup
      pub walk_best : walked_at None found ≡ best_of t b limit dups
      walk_best =
          ap (walked_at None) (listed found is_chain join)
          ∙ ap (walked (may_join t b limit) None) (at_own dups _ each_found)
          ∙ walk_passing (may_join t b limit) (tried is_chain) (λ d may. grind (arith, may)) None dups
          ∙ walk_top (may_join t b limit) dups

  -- where none of the dups at some places is open, a walk over these finds none
  none_walked : (places : List ℕ) → All (λ p. is_open limit (length (items_in (dup_at p dups))) ≡ false) places → walked_at None places ≡ None
  none_walked [] closed = refl
  none_walked (p ∷ places) closed =
      grind (arith, closed 0 0 (omega arith), none_walked places (λ k q lt. closed (suc k) q (omega arith)))

  -- where none of the dups at the places of a tree and bytes is open, none is best
  pub closed_best : {places : List ℕ} → InPlaceOrder (rows_of dups) → places ≡ group_places t b (rows_of dups) → All (λ p. is_open limit (length (items_in (dup_at p dups))) ≡ false) places → best_of t b limit dups ≡ None
  closed_best {places} rise group closed = sym (walk_best places true group rise) ∙ none_walked places closed
