use Rattle.ksm_pages.proofs.Names.{live_count, rows_of, tied_counted, ◌∙◌}
use Rattle.ksm_pages.proofs.pages.Pages.count_shared.Goals as goal

pub returns : goal.returns
returns c =
    let rows = rows_of c.self.inside.rows.held in
    rw (← c.self.view_is) (c.count_shared.ensures ∙ live_count rows _ (tied_counted rows _ c.self.invariant.tied))
