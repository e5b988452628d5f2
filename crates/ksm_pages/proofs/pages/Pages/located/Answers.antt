use Rattle.ksm_pages.proofs.Names.{arith, dup_rows, lodging, ◌∙◌}
use Rattle.ksm_pages.proofs.Changing.{frame_by, row_told}
use Rattle.ksm_pages.proofs.pages.Pages.located.Goals as goal

pub returns : goal.returns
returns c =
    let s = c.self.inside in
    let of_dup = lodging (dup_rows s.dups.dups) s.frames.items in
    let page = c.in_ok-spot.ensures.0 ∙ c.guess.ensures in
    let told = row_told c.guess.result.page _ c.in_ok-spot.ensures.1 in
    rw (← c.self.view_is)
    (page, grind (arith, told, c.guess.ensures), grind (arith, frame_by of_dup s.rows.held c.args.page, c.guess.ensures, c.deref.ensures.value))
