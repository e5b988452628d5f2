-- Which dup a page joins, and where a new dup goes:
-- the book's own words, with the items of a dup in place of the rows merged into it.
use Rattle.std.specs.Prelude.{Bool, bytes_eq, false, find, if◌then◌else◌, length, List, nat_le, nat_lt, None, not, Option, Some, true, ℕ, ◌&&◌, ◌==◌, ◌||◌, ◌≡◌}
use Rattle.ksm_tree.specs.Terms.{Best, Choice, Dup, DupRow, Empty, empty_from, list_all, Stale}
use Rattle.ksm_tree.specs.Dups.{DupsState, is_stale, places_open, rows_of}
use Rattle.ksm_tree.specs.Chains.{in_group}

-- a dup of the tree and the bytes, with an item, and below the limit
abbrev pub may_join : ℕ → List ℕ → ℕ → Dup → Bool
may_join tree bytes limit d =
    d.row.tree == tree && bytes_eq d.row.bytes bytes && nat_le 1 (length d.items) && nat_lt (length d.items) limit

-- d has more items than e, or as many and no greater number
abbrev pub is_no_worse : Dup → Dup → Bool
is_no_worse d e =
    nat_lt (length e.items) (length d.items)
    || (length e.items == length d.items && nat_le d.row.number e.row.number)

-- d may be joined, and no other dup is better to join
abbrev pub is_best : ℕ → List ℕ → ℕ → List Dup → Dup → Bool
is_best tree bytes limit dups d =
    may_join tree bytes limit d && list_all (λ e. not (may_join tree bytes limit e) || is_no_worse d e) dups

-- the dup that a page of the tree and the bytes joins
abbrev pub best_of : ℕ → List ℕ → ℕ → List Dup → Option Dup
best_of tree bytes limit dups = find (is_best tree bytes limit dups) dups

-- where a dup is found
abbrev pub found_at : Dup → Best
found_at d = record { number = d.row.number; place = d.row.place }

-- the least of so many places that no dup has
abbrev pub empty_place : ℕ → List DupRow → Option ℕ
empty_place places dups = if nat_lt (empty_from 0 dups) places then Some (empty_from 0 dups) else None

-- the least empty place, or where there is none that of the first stale dup
abbrev pub chosen : Option ℕ → Option Dup → Option Choice
chosen (Some place) stale = Some (Empty place)
chosen None (Some d) = Some (Stale d.row.place)
chosen None None = None

-- where a new dup goes
abbrev pub choice_of : DupsState → Option Choice
choice_of s = chosen (empty_place s.places (rows_of s.dups)) (find is_stale s.dups)

-- a rival has a number that is no greater than that of d
abbrev pub is_behind : Dup → Option Dup → Bool
is_behind d None = false
is_behind d (Some rival) = nat_le rival.row.number d.row.number

-- a dup, if it does not stand behind a rival, and is of the tree and the bytes, unless it is known that it is
abbrev pub candidate_of : ℕ → List ℕ → Option Dup → Bool → Option Dup → Option Dup
candidate_of tree bytes rival known None = None
candidate_of tree bytes rival known (Some d) =
    if not (is_behind d rival) && (known || in_group tree bytes d.row) then Some d else None

-- the places of a group, or those of all dups with an item and fewer than the limit:
-- the best is at one of them, if there is one
abbrev pub ArePlacesToJoin : List ℕ → ℕ → List Dup → List ℕ → Bool → Type 0
ArePlacesToJoin chain limit dups places true = places ≡ chain
ArePlacesToJoin chain limit dups places false = places ≡ places_open limit dups
