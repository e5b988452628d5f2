use Rattle.ksm_pages.proofs.Names.{AreApart, get_or, length, List, ℕ, ◌<◌}
use Rattle.ksm_pages.proofs.unstable.UnstableTree.fits.Given as goal

-- the keys of each place so far are apart
abbrev pub invariant-loop-keys : goal.invariant-loop-keys
invariant-loop-keys l = (at : ℕ) (d : List ℕ) → at < l.keys-index
    → let keys = get_or l.self.places.items at d in AreApart l.entries keys (length keys)
