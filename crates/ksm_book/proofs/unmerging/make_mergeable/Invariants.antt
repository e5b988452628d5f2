use Rattle.ksm_book.proofs.Names.{is_of, seen, ◌-◌, ◌≡◌}
use Rattle.ksm_book.proofs.Along.{IsAlong, position}
use Rattle.ksm_book.proofs.Singles.{in_scan}
use Rattle.ksm_book.proofs.unmerging.make_mergeable.Given as goal

abbrev pub invariant-pages : goal.invariant-pages
invariant-pages l = record {
  along : IsAlong (is_of l.guest) in_scan l.fn.pages.rows l.pages.rows l.last;
  pages : seen l.pages ≡ record (seen l.fn.pages) { rows = l.pages.rows };
}

abbrev pub decreases-pages : goal.decreases-pages
decreases-pages l = 281474976710656 - position l.last
