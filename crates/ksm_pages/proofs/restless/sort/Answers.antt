use Rattle.ksm_pages.proofs.Names.{IsNonDecreasingBy-from_sort_by_key, rules}
use Rattle.ksm_pages.proofs.Spots.{sorted_rise}
use Rattle.ksm_pages.proofs.restless.sort.Goals as goal

pub returns-in_ok-sort_by_key-clause-order : goal.returns-in_ok-sort_by_key-clause-order
returns-in_ok-sort_by_key-clause-order c =
    sorted_rise _ (IsNonDecreasingBy-from_sort_by_key (λ l. l.page) _ c.in_ok-sort_by_key.ensures.sorted (λ a r q k. search rules))

pub returns-else-in_runs-clause-order : goal.returns-else-in_runs-clause-order
returns-else-in_runs-clause-order c =
    sorted_rise _ (IsNonDecreasingBy-from_sort_by_key (λ l. l.page) _ c.sort_unstable_by_key.ensures.sorted (λ a r q k. search rules))
