use Rattle.ksm_tree.proofs.Names.{drop, None, option_copied, ◌-◌, ◌≡◌, ◌≤◌}
use Rattle.ksm_tree.proofs.Joining.{least_of, walked_at}
use Rattle.ksm_tree.proofs.dups.Dups.best_in.Given as goal

-- the walk goes on over what is left of the group, and the least is what the best so far has
abbrev pub invariant-loop-place : goal.invariant-loop-place
invariant-loop-place l =
    (1 ≤ l.least)
    × (l.least ≡ least_of (option_copied l.best))
    × (l.room ≡ l.limit - l.least)
    × (walked_at l.tree l.bytes l.limit l.self.dups (option_copied l.best) (drop l.place-index l.places) ≡ walked_at l.tree l.bytes l.limit l.self.dups None l.places)
