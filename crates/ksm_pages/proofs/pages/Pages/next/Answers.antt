use Rattle.ksm_pages.proofs.Paging.{told_next}
use Rattle.ksm_pages.proofs.pages.Pages.next.Goals as goal

pub returns-in-Some : goal.returns-in-Some
returns-in-Some c = told_next _ c.args.guest c.args.cursor c.lie_in_order.ensures.rise c.in-Some.ensures _ c.told.ensures
