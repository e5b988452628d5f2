use Rattle.ksm_pages.proofs.Spots.{listed_next}
use Rattle.ksm_pages.proofs.rows.Rows.next_restless.Goals as goal

pub returns-then-is_ready-clause-next : goal.returns-then-is_ready-clause-next
returns-then-is_ready-clause-next c =
    rw (← c.self.view_is) (listed_next c.self.inside c.self.invariant.0 (c.is_ready.ensures.known c.if-is_ready.true) _ _ c.after.ensures.none c.after.ensures.next)
