use Rattle.ksm_pages.proofs.Names.{arith, sym, unwrap_or, ◌∙◌}
use Rattle.ksm_pages.proofs.Paging.{items_lodge}
use Rattle.ksm_pages.proofs.pages.Pages.dup_frame.Goals as goal

pub returns : goal.returns
returns c =
    rw (← c.self.view_is) (items_lodge _ _ c.self.invariant.order c.at.ensures.lawful (c.self.invariant.places ∙ sym c.self.invariant.room)
    (grind (arith, unwrap_or)))
