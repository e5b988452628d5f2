use Rattle.ksm_pages.proofs.Names.{live_placed, rows_of, tied_counted, ◌∙◌}
use Rattle.ksm_pages.proofs.pages.Pages.live_at.Goals as goal

pub returns : goal.returns
returns c =
    let rows = rows_of c.self.inside.rows.held in
    rw (← c.self.view_is) (c.live_at.ensures ∙ live_placed rows _ _ (tied_counted rows _ c.self.invariant.tied))
