use Rattle.ksm_tree.proofs.Names.{bytes_eq, drop, ◌&&◌, ◌≡◌}
use Rattle.ksm_tree.proofs.content.same_bytes.Given as goal

-- the pages are alike where the words so far are, and those that are left
abbrev pub invariant-loop-i : goal.invariant-loop-i
invariant-loop-i l = bytes_eq l.fn.one l.fn.other ≡ (l.same && bytes_eq (drop l.i l.fn.one) (drop l.i l.fn.other))
