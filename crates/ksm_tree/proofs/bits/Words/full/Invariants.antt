use Rattle.ksm_tree.proofs.Names.{has, length, nat_lt, ℕ, ◌≡◌}
use Rattle.ksm_tree.proofs.bits.Words.full.Given as goal

-- the numbers so far are in the upper set, and no others
abbrev pub invariant-loop-at : goal.invariant-loop-at
invariant-loop-at g l =
    (length (g.S.Bits.words l.all) ≡ length (g.S.Bits.words l.fn.summary)) × ((n : ℕ) → has (g.S.Bits.words l.all) n ≡ nat_lt n l.at)
