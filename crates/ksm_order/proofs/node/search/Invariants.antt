use Rattle.ksm_order.proofs.{AreBefore, AreBehind, drop, flat_map, Item, length, List, take, ℕ, ◌-◌, ◌≤◌}
use Rattle.ksm_order.proofs.node.search.Given as goal

-- the parts in front of the last below `low` come before the key, and those from `high` on come behind it
pub record IsSearched {P : Type 0} (f : P → List Item) (parts : List P) (key low high : ℕ) : Type 0 where
  pub ordered : low ≤ high
  pub within : high ≤ length parts
  pub ahead : AreBefore key (flat_map f (take (low - 1) parts))
  pub behind : AreBehind key (flat_map f (drop high parts))

abbrev pub invariant-loop-low : goal.invariant-loop-low
invariant-loop-low g l = IsSearched g.P.Part.items l.parts l.key l.low l.high

abbrev pub decreases-loop-low : goal.decreases-loop-low
decreases-loop-low g l = l.high - l.low
