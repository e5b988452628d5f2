use Rattle.ksm_book.proofs.Names.{refl, seen}
use Rattle.ksm_book.proofs.Singles.{carried_so, guest_refused, lawful, unmerge_carried}
use Rattle.ksm_book.proofs.state.State.unmerge.Goals as goal

pub returns-then-is_none : goal.returns-then-is_none
returns-then-is_none c = rw (← c.self.view_is) (guest_refused (seen c.self.inside.pages) _ c.next.ensures c.if-is_none.ensures).0

pub invariant_of-self : goal.invariant_of-self
invariant_of-self c =
    lawful c.self.invariant.0 (unmerge_carried _ _ c.next.ensures c.if-is_none.ensures c.unshare_each-pages.ensures)

pub returns : goal.returns
returns c =
    carried_so c.self.view_is refl
    (unmerge_carried _ _ c.next.ensures c.if-is_none.ensures c.unshare_each-pages.ensures).0
