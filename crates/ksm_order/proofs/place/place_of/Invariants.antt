use Rattle.std.specs.List.{AllWithin}
use Rattle.ksm_order.proofs.Names.{length, ◌+◌, ◌<◌, ◌≤◌}
use Rattle.ksm_order.proofs.place.place_of.Given as goal

-- those in front come before the key, and those behind the ones that are left do not
abbrev pub invariant-loop-left : goal.invariant-loop-left
invariant-loop-left g l = (l.at + l.left ≤ length l.items)
    × AllWithin (λ x. g.T.Keyed.key_of x < l.key) l.items 0 l.at
    × AllWithin (λ x. l.key ≤ g.T.Keyed.key_of x) l.items (l.at + l.left) (length l.items)

abbrev pub decreases-loop-left : goal.decreases-loop-left
decreases-loop-left g l = l.left
