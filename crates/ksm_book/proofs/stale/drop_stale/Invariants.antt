use Rattle.ksm_book.proofs.Names.{count_by, is_stale, seen}
use Rattle.ksm_book.proofs.Sharing.{Drops}
use Rattle.ksm_book.proofs.stale.drop_stale.Given as goal

abbrev pub invariant-stale : goal.invariant-stale
invariant-stale l = Drops (seen l.fn.pages) (seen l.pages) l.fn.keeper l.keeper l.count

abbrev pub decreases-stale : goal.decreases-stale
decreases-stale l = count_by (is_stale l.fn.pages.rows) l.pages.dups
