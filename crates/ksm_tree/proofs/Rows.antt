-- Dup rows in the order of their places: whose group a row is of, and what a new row changes of the places of a group.
use Rattle.ksm_tree.proofs.Names.{arith, bytes_eq, bytes_eq-Decides, DupRow, dups_parted, false, filter-append, group_places, in_group, InPlaceOrder, List, map-append, nat_lt, not, true, with_dup}
use Rattle.ksm_tree.proofs.Names.{with_place, without, ℕ, ◌&&◌, ◌==◌, ◌≡◌}
use Rattle.ksm_tree.proofs.Alike.{chosen}

-- a comparison of bytes is the same in either order
pub eq_bytes : (xs ys : List ℕ) → bytes_eq xs ys ≡ bytes_eq ys xs
eq_bytes xs ys = grind (arith, bytes_eq-Decides)

-- a row is in the group of a tree and bytes exactly where its tree and its bytes are equal to these
pub own_group : (t : ℕ) (b : List ℕ) (row : DupRow) → in_group t b row ≡ (t == row.tree && bytes_eq b row.bytes)
own_group t b row = grind (arith, eq_bytes row.bytes b)

-- a dup is in the group of its own tree and bytes
pub self_group : (row : DupRow) → in_group row.tree row.bytes row ≡ true
self_group row = grind (arith, bytes_eq-Decides row.bytes)

-- a new row of a group adds its place to the places of the group
pub group_joined : (t : ℕ) (b : List ℕ) (row : DupRow) (rows : List DupRow) → in_group t b row ≡ true → group_places t b (with_dup row rows) ≡ with_place row.place (group_places t b rows)
group_joined t b row rows inside =
    let by = chosen (λ (r : DupRow). r.place) (in_group t b) in
    grind (arith, filter-append, map-append, by (λ q. nat_lt q row.place) rows, by (nat_lt row.place) rows)

-- a new dup of another group takes its place out of a group, if the group had that place
pub group_passed : (t : ℕ) (b : List ℕ) (row : DupRow) (rows : List DupRow) → InPlaceOrder rows → in_group t b row ≡ false → group_places t b (with_dup row rows) ≡ without row.place (group_places t b rows)
group_passed t b row rows rise outside =
    grind (arith, filter-append, map-append, chosen (λ (r : DupRow). r.place) (in_group t b) (λ q. not (q == row.place)) rows, dups_parted row.place rows rise)
