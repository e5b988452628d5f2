use Rattle.ksm_pages.proofs.Names.{AreApart}
use Rattle.ksm_pages.proofs.unstable.are_apart.Given as goal

-- the keys so far are apart
abbrev pub invariant-loop-at : goal.invariant-loop-at
invariant-loop-at l = AreApart l.entries l.keys l.at
