use Rattle.ksm_pages.proofs.Names.{drop, find, stands_under, ◌≡◌}
use Rattle.ksm_pages.proofs.unstable.standing_in.Given as goal

-- the first of the keys that are left is the first of all
abbrev pub invariant-loop-key : goal.invariant-loop-key
invariant-loop-key l =
    let stands = stands_under l.by_node l.entries l.tree l.bytes in
    find stands (drop l.key-index l.keys) ≡ find stands l.keys
