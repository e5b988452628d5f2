use Rattle.ksm_pages.proofs.Names.{arith, find_passes, held_of, same_page_eq}
use Rattle.ksm_pages.proofs.Paging.{first_at}
use Rattle.ksm_pages.proofs.Leaving.{row_seen}
use Rattle.ksm_pages.proofs.pages.Pages.following.Goals as goal

pub returns : goal.returns
returns c =
    let s = c.self.inside in
    let r = (held_of s.rows.pass c.in_ok-at.field-0.now).row in
    let found = row_seen s c.self.view_is _ c.in_ok-at.ensures in
    grind (arith, first_at, same_page_eq, find_passes)
