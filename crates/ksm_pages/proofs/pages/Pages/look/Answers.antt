use Rattle.ksm_pages.proofs.Names.{arith, dup_rows, lodging}
use Rattle.ksm_pages.proofs.Changing.{frame_by}
use Rattle.ksm_pages.proofs.Leaving.{row_seen}
use Rattle.ksm_pages.proofs.pages.Pages.look.Goals as goal

pub returns-then-not-is_in : goal.returns-then-not-is_in
returns-then-not-is_in c =
    let s = c.self.inside in
    let row = row_seen s c.self.view_is c.guess-spot.result.page c.in-Some.ensures in (
      c.guess-spot.ensures,
      grind (arith, row, c.guess-spot.ensures),
      rw (← c.self.view_is) (grind (arith, frame_by (lodging (dup_rows s.dups.dups) s.frames.items) s.rows.held c.args.page, c.in-Some.ensures, c.guess-spot.ensures)),
    )
