use Rattle.ksm_tree.proofs.Names.{get, has_place, is_some, length, true, ℕ, ◌<◌, ◌≡◌}
use Rattle.ksm_tree.specs.Groups.{SameChains}
use Rattle.ksm_tree.proofs.groups.Groups.make_room.Given as goal

-- a dup stands in each of the groups so far
abbrev pub invariant-loop-number : goal.invariant-loop-number
invariant-loop-number l =
    SameChains l.fn.self l.self
    × (length l.self.groups.slots ≡ length l.fn.self.groups.slots)
    × ((n : ℕ) → n < l.number → is_some (get l.self.groups n) ≡ true → has_place (get l.self.groups n) ≡ true)
