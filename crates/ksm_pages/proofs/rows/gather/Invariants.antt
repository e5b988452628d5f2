use Rattle.ksm_pages.proofs.Names.{after_cursor, filter, length}
use Rattle.ksm_pages.proofs.Spots.{AreListedUpTo}
use Rattle.ksm_pages.proofs.rows.gather.Given as goal

-- the pages up to the last are listed
abbrev pub invariant-loop-named : goal.invariant-loop-named
invariant-loop-named l = AreListedUpTo l.entries l.last l.restless

-- how many are behind it
abbrev pub decreases-loop-named : goal.decreases-loop-named
decreases-loop-named l = length (filter (λ n. after_cursor l.last n.page) l.order)
