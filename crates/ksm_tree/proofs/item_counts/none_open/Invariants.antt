use Rattle.ksm_tree.proofs.Names.{get_or, is_open, list_all, not, take, true, ◌≡◌}
use Rattle.ksm_tree.proofs.item_counts.none_open.Given as goal

-- none of the places so far is open
abbrev pub invariant-loop-place : goal.invariant-loop-place
invariant-loop-place l = list_all (λ p. not (is_open l.limit (get_or l.counts p 0))) (take l.place-index l.places) ≡ true
