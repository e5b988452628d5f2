-- Each item of a dup has its bytes and stands in its tree.
use Rattle.std.proofs.Common.{arith, ◌≡◌, ℕ, true, get_or}
use Rattle.std.specs.Prelude.{All}
use Rattle.std.proofs.lemmas.Bool.Decides.{nat_tests}
use Rattle.ksm_base.specs.declared.row.PageState.{PageState}
use Rattle.ksm_base.specs.declared.row.PageState.TheVariants.{Merged}
use Rattle.ksm_base.specs.Rows.{merged_into}
use Rattle.ksm_base.specs.State.{BookState}
use Rattle.ksm_base.specs.Sound.{IsDupOf, IsSound}
use Rattle.ksm_base.proofs.Orders.{each_has_number}

merged_number : (number : ℕ) (state : PageState) → merged_into number state ≡ true → state ≡ Merged number
merged_number number state into = grind (arith, nat_tests)

-- a row that is merged into a dup's number has that dup
pub dup_of_item : (b : BookState) → IsSound b
    → All (λ d. All (λ r. merged_into d.number r.state ≡ true → IsDupOf b.knobs b.dups r d.number d) b.rows) b.dups
dup_of_item b s k d lt j e lt_e into =
    let item = s.items j e lt_e (get_or b.dups k d).number (merged_number (get_or b.dups k d).number (get_or b.rows j e).state into) in
    grind (arith, each_has_number b.dups s.dups_rise k d lt)

-- where each node has trees of its own, the home of each item is the tree of its dup
pub home_of_item : (b : BookState) → IsSound b → b.knobs.merge_across_nodes ≡ 0
    → All (λ d. All (λ r. merged_into d.number r.state ≡ true → r.home ≡ d.tree) b.rows) b.dups
home_of_item b s apart k d lt j e lt_e into = grind (arith, nat_tests, (dup_of_item b s k d lt j e lt_e into).tree)
