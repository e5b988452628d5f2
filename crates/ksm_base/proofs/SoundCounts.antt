-- What a sound book's counts and searches tell.
use Rattle.std.proofs.Common.{◌≡◌, ℕ, ◌+◌, Bool, false, List, Some, arith}
use Rattle.std.proofs.lemmas.Bool.Decides.{nat_tests}
use Rattle.ksm_base.specs.declared.row.PageState.{PageState}
use Rattle.ksm_base.specs.declared.row.PageState.TheVariants.{Merged}
use Rattle.ksm_base.specs.declared.row.Row.{Row}
use Rattle.ksm_base.specs.declared.row.DupRow.{DupRow}
use Rattle.ksm_base.specs.Rows.{row_at, InPageOrder, merged_state, merged_into, item_count, change_row}
use Rattle.ksm_base.proofs.RowCounts.{count_change_row}

-- a row that is not merged is an item of no dup
pub not_an_item : (number : ℕ) (state : PageState) → merged_state state ≡ false → merged_into number state ≡ false
not_an_item number state single = grind arith

-- a dup that a page joins has one item more
pub joined_count : (rows : List Row) (row : Row) (dup : DupRow) → InPageOrder rows → row_at row.page rows ≡ Some row → merged_state row.state ≡ false → item_count (change_row row.page (λ r. record r { state = Merged dup.number }) rows) dup ≡ item_count rows dup + 1
joined_count rows row dup rise found single =
    let p : Row → Bool = λ r. merged_into dup.number r.state in
    grind (arith, nat_tests, count_change_row p row.page (λ r. record r { state = Merged dup.number }) rows row rise found, not_an_item dup.number row.state single)
