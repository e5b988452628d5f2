-- Tests over dups with items are the book's tests over rows, where the items are counted.
use Rattle.ksm_tree.proofs.Names.{[], All, AreCounted, arith, best_of, Bool, Choice, choice_of, count_by, Dup, DupRow, DupsState, find, has_items, is_best, is_live, is_some, is_stale, item_count}
use Rattle.ksm_tree.proofs.Names.{length, List, list_all, option_map, place_in, refl, Row, rows_of, Some, stands_at, suc, true, ℕ, ◌&&◌, ◌<◌, ◌==◌, ◌∷◌, ◌≡◌}
use Rattle.ksm_base.specs.Visit.{best_dup, is_best as is_best_row, new_place}
use Rattle.ksm_base.specs.declared.knobs.Knobs.{Knobs}
use Rattle.ksm_base.specs.State.{tree_of}
use Rattle.ksm_tree.proofs.Alike.{count_mapped, find_mapped}
use Rattle.ksm_base.specs.Rows.{is_stale as is_stale_row}

all_alike : (test : Dup → Bool) (by : DupRow → Bool) (dups : List Dup) → All (λ d. test d ≡ by d.row) dups → list_all test dups ≡ list_all by (rows_of dups)
all_alike test by [] same = refl
all_alike test by (d ∷ dups) same =
    grind (arith, same 0 d (omega arith), all_alike test by dups (λ k e lt. same (suc k) e (omega arith)))

module _ (rows : List Row) where
  -- the first stale dup is the first row that no row of a page is merged into
  pub stale_alike : (dups : List Dup) → AreCounted rows dups → option_map (λ d. d.row) (find is_stale dups) ≡ find (is_stale_row rows) (rows_of dups)
  stale_alike dups counted = grind (arith, find_mapped)

  -- as many dups have items as rows of dups have pages merged into them
  pub live_count : (dups : List Dup) → AreCounted rows dups → count_by is_live dups ≡ count_by (has_items rows) (rows_of dups)
  live_count dups counted = grind (arith, count_mapped)

  -- a dup with items at a place is the row of a dup there that pages are merged into
  pub live_placed : (place : ℕ) (dups : List Dup) → AreCounted rows dups → option_map (λ d. d.row) (find (λ d. stands_at place d && is_live d) dups) ≡ find (λ d. d.place == place && has_items rows d) (rows_of dups)
  live_placed place dups counted = grind (arith, find_mapped)

  module _ (knobs : Knobs) (row : Row) where
    best_alike : (dups : List Dup) → AreCounted rows dups → (d : Dup) → length d.items ≡ item_count rows d.row → is_best (tree_of knobs row) row.bytes knobs.max_page_sharing dups d ≡ is_best_row knobs rows (rows_of dups) row d.row
    best_alike dups counted d n = grind (arith, all_alike)

    -- the dup that a page joins best is, by its row, the best dup row by the rules of the book
    pub best_found : (dups : List Dup) → AreCounted rows dups → option_map (λ d. d.row) (best_of (tree_of knobs row) row.bytes knobs.max_page_sharing dups) ≡ best_dup knobs rows (rows_of dups) row
    best_found dups counted = grind (arith, find_mapped, best_alike)

  -- the place that is chosen for a new dup is the one that the book's definition gives
  pub choice_alike : (s : DupsState) (c : Choice) → AreCounted rows s.dups → choice_of s ≡ Some c → place_in c ≡ new_place s.places rows (rows_of s.dups)
  choice_alike s c counted is = grind (arith, stale_alike s.dups counted)

  -- where the book's definition gives a place of the table, one is chosen
  pub choice_exists : (s : DupsState) → AreCounted rows s.dups → new_place s.places rows (rows_of s.dups) < s.places → is_some (choice_of s) ≡ true
  choice_exists s counted inside = grind (arith, stale_alike s.dups counted)
