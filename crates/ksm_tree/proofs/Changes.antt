-- Dups and their rows: what a dup that comes or goes and a change of items changes of the rows, and where a dup is found.
use Rattle.ksm_tree.proofs.Names.{All, arith, Bool, change_items, Dup, dup_of, DupRow, filter, find, find_all, find_passes, get_or, get_or-map, GuestPage, has_number, if◌then◌else◌, InPlaceOrder}
use Rattle.ksm_tree.proofs.Names.{length-map, let_out, List, Lower, map, map-append, Merged, nat_tests, None, not, one_of_each, Option, option_map, PageState, place_of, refl, rows_of, Some, stands_at}
use Rattle.ksm_tree.proofs.Names.{subst, true, with_dup, with_new, without_place, ℕ, ◌==◌, ◌||◌, ◌≡◌}
use Rattle.ksm_tree.proofs.Alike.{filter_mapped, find_mapped, map_mapped}

-- the row of a new dup is added to the rows
pub rows_new : (dup : Dup) (dups : List Dup) → rows_of (with_new dup dups) ≡ with_dup dup.row (rows_of dups)
rows_new dup dups = grind (arith, filter_mapped, map-append)

-- a place that is dropped takes its row out of the rows
pub rows_without : (p : ℕ) (dups : List Dup) → rows_of (without_place p dups) ≡ filter (λ r. not (r.place == p)) (rows_of dups)
rows_without p dups = grind (arith, filter_mapped)

-- other items of the dups that pass a test change no row
pub rows_same : (test : Dup → Bool) (f : List GuestPage → List GuestPage) (dups : List Dup) → rows_of (map (λ d. if test d then record d { items = f d.items } else d) dups) ≡ rows_of dups
rows_same test f dups = map_mapped _ _ _ dups (λ k d lt. grind arith)

-- other items of a dup change no row
pub rows_items : (number : ℕ) (f : List GuestPage → List GuestPage) (dups : List Dup) → rows_of (change_items number f dups) ≡ rows_of dups
rows_items number = rows_same _

-- a page let out of its dup changes no row
pub rows_out : (state : PageState) (page : GuestPage) (dups : List Dup) → rows_of (let_out state page dups) ≡ rows_of dups
rows_out (Merged number) page dups = rows_items _ _ _
rows_out state page dups = refl

-- a dup is found where its row is
pub row_found : (test : Dup → Bool) (by : DupRow → Bool) → ((d : Dup) → test d ≡ by d.row) → (dups : List Dup) → option_map (λ d. d.row) (find test dups) ≡ find by (rows_of dups)
row_found test by same dups = grind (arith, find_mapped)

-- what holds of all rows holds of each dup's row
pub all_rows : (P : DupRow → Type 0) (dups : List Dup) → All P (rows_of dups) → All (λ d. P d.row) dups
all_rows P dups each k d lt =
    subst P (get_or-map (λ (d : Dup). d.row) dups k d) (each k d.row (rw (length-map dups (λ d. d.row)) lt))

-- a row with the place or the number of another is that one
abbrev IsOne : DupRow → DupRow → Type 0
IsOne e r = (r.place == e.place || r.number == e.number) ≡ true → r ≡ e

-- a dup that is found is the only one of its place, and the only one of its number
pub alone : (test : Dup → Bool) (dups : List Dup) (e : Dup) → InPlaceOrder (rows_of dups) → find test dups ≡ Some e → All (λ d. IsOne e.row d.row) dups
alone test dups e rise found =
    let each = one_of_each Lower (λ r s. r.place == s.place || r.number == s.number) (rows_of dups)
    (λ r s h. grind (arith, nat_tests)) (λ r s h. grind (arith, nat_tests)) rise in
    find_all test (λ e. All (λ d. IsOne e.row d.row) dups) dups e found
    (all_rows (λ r. All (λ d. IsOne r d.row) dups) dups (λ k r lt. all_rows (IsOne (get_or (rows_of dups) k r)) dups (each k r lt)))

-- number and place tell one dup
pub one_dup : (q : ℕ) {p : ℕ} (dups : List Dup) → InPlaceOrder (rows_of dups) → Some p ≡ place_of (dup_of q dups) → All (λ d. has_number q d ≡ stands_at p d) dups
one_dup q {p} dups rise is = by (dup_of q dups) refl
  where
    by : (o : Option Dup) → dup_of q dups ≡ o → All (λ d. has_number q d ≡ stands_at p d) dups
    by None none = grind arith
    by (Some e) found = λ k d lt. grind (arith, find_passes, alone (has_number q) dups e rise found k d lt)
