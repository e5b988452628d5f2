use Rattle.ksm_book.proofs.Names.{seen, ◌-◌}
use Rattle.ksm_book.proofs.Along.{position}
use Rattle.ksm_book.proofs.Singles.{IsUnsharing}
use Rattle.ksm_book.proofs.unmerging.unshare_each.Given as goal

abbrev pub invariant-pages : goal.invariant-pages
invariant-pages l = IsUnsharing (seen l.fn.pages) (seen l.pages) l.fn.keeper l.keeper l.guest l.count l.last

abbrev pub decreases-pages : goal.decreases-pages
decreases-pages l = 281474976710656 - position l.last
