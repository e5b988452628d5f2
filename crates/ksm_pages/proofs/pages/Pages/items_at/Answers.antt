use Rattle.ksm_pages.proofs.Names.{ap, is_some, on_err, rows_of, sym, ◌∙◌}
use Rattle.ksm_pages.proofs.Options.{some_mapped}
use Rattle.ksm_pages.proofs.Paging.{items_there}
use Rattle.ksm_pages.proofs.pages.Pages.items_at.Goals as goal

pub returns-in_err-items_at-in-Some-clause-refused : goal.returns-in_err-items_at-in-Some-clause-refused
returns-in_err-items_at-in-Some-clause-refused c =
    let rows = rows_of c.self.inside.rows.held in
    let there = items_there rows _ _ c.self.invariant.tied c.at.ensures.lawful.in_place_order c.in-Some.ensures in
    rw (← c.self.view_is) (on_err _ (sym (some_mapped _ _) ∙ ap is_some there))
