use Rattle.ksm_pages.proofs.Names.{arith, ◌∙◌}
use Rattle.ksm_pages.proofs.Spots.{next_behind, none_added, none_behind}
use Rattle.ksm_pages.proofs.restless.Restless.after.Goals as goal

pub returns-then-at-len-clause-none : goal.returns-then-at-len-clause-none
returns-then-at-len-clause-none c =
    let at = rw c.as_slice.ensures.value at c.place_by-at.ensures in
    let ready = (c.self.invariant.3 ((λ i. (c.self.view_is i).ready) ∙ c.requires)).1 in
    rw (← c.self.view_is, none_added c.self.inside.listed.items ready) (none_behind c.args.cursor c.from_of.ensures at (omega (arith, c.if-at-len.true, c.len.ensures)))

pub returns-clause-next : goal.returns-clause-next
returns-clause-next c =
    let at = rw c.as_slice.ensures.value at c.place_by-at.ensures in
    rw (← c.self.view_is, none_added c.self.inside.listed.items ((c.self.invariant.3 ((λ i. (c.self.view_is i).ready) ∙ c.requires)).1), c.page_of.ensures)
    (next_behind c.args.cursor c.from_of.ensures at c.self.invariant.0 c.index-next.result.now (omega (arith, c.if-at-len.false, c.len.ensures)) (grind (arith, c.index-next.ensures)))
