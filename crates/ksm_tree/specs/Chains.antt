-- Where the dups of a tree and bytes stand, and what callers see of the dups by place and of the groups. (own)
use Rattle.std.specs.Prelude.{Bool, bytes_eq, filter, length, List, map, nat_lt, ℕ, ◌&&◌, ◌==◌, ◌≡◌, ◌≤◌}
use Rattle.ksm_tree.specs.Terms.{DupRow, MOST_FRAMES}
use Rattle.ksm_tree.specs.declared.groups.Groups.{Groups}
use Rattle.ksm_tree.specs.Dups.{AreDups, DupsState, rows_of}
use Rattle.ksm_tree.specs.Groups.{AreTotals, chain_in}
use Rattle.ksm_tree.specs.Slots.{SlotsState}

abbrev pub in_group : ℕ → List ℕ → DupRow → Bool
in_group tree bytes r = r.tree == tree && bytes_eq r.bytes bytes

-- the places of a group, in their order
abbrev pub group_places : ℕ → List ℕ → List DupRow → List ℕ
group_places tree bytes rows = map (λ r. r.place) (filter (in_group tree bytes) rows)

abbrev pub dups_seen : SlotsState → ℕ → Groups → DupsState
dups_seen s next groups = record {
  places = s.places;
  dups = s.dups;
  next = next;
  numbers = groups.numbers.entries;
  most = groups.most;
}

-- dups of the tree and bytes are there
abbrev pub is_in_use : DupsState → ℕ → List ℕ → Bool
is_in_use s tree bytes = nat_lt 0 (length (group_places tree bytes (rows_of s.dups)))

-- the dups are lawful, and the groups have and count just them
pub record AreChained (s : SlotsState) (next : ℕ) (groups : Groups) : Type 0 where
  pub few : s.places ≤ MOST_FRAMES
  pub lawful : AreDups (dups_seen s next groups)
  pub counted : AreTotals (rows_of s.dups) groups.totals
  pub grouped : (tree : ℕ) (bytes : List ℕ) → chain_in tree bytes groups ≡ group_places tree bytes (rows_of s.dups)
