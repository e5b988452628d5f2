use Rattle.ksm_pages.proofs.Names.{ap, arith, row_at, same_page_eq, ◌∙◌}
use Rattle.ksm_pages.proofs.Visiting.{partner_by, waits_page}
use Rattle.ksm_pages.proofs.Leaving.{row_seen}
use Rattle.ksm_pages.proofs.pages.Pages.waiting_beside.Goals as goal

pub returns-in_ok-other-in-Merged : goal.returns-in_ok-other-in-Merged
returns-in_ok-other-in-Merged c =
    let by = partner_by c.self.inside c.self.invariant c.self.view_is c.args.spot.page c.in_ok-entry.entry.now c.in_ok-entry.ensures
    c.are_lawful.ensures.led c.are_lawful.ensures.found c.tree_in-tree.ensures in
    let here = row_seen c.self.inside c.self.view_is _ c.in_ok-entry.ensures in
    let other = c.in_ok-other-in-Merged.other.page in
    let beside = waits_page c.args.self.now.rows c.args.spot.page other c.waits.result c.waits.ensures
    (λ own. grind (arith, ap (λ q. row_at q c.args.self.now.rows) (same_page_eq other c.args.spot.page own) ∙ here, c.waits.ensures)) in
    grind (arith, by, here, beside)
