use Rattle.ksm_book.proofs.Names.{refl, sym, ◌∙◌}
use Rattle.ksm_book.proofs.Singles.{carried_so, lawful, unshare_ends, unshare_none, unshare_stops}
use Rattle.ksm_book.proofs.state.State.unshare.Goals as goal

pub invariant_of-self : goal.invariant_of-self
invariant_of-self c =
    lawful c.self.invariant.0 (unshare_stops _ _ c.unshare_each-pages.ensures c.knobs-knobs.ensures
    (sym c.is_some.ensures ∙ c.if-is_some.true) c.set_knobs.ensures)

pub returns-then-is_some : goal.returns-then-is_some
returns-then-is_some c =
    carried_so c.self.view_is refl (unshare_stops _ _ c.unshare_each-pages.ensures c.knobs-knobs.ensures
    (sym c.is_some.ensures ∙ c.if-is_some.true) c.set_knobs.ensures).0

pub unshare_all-requires : goal.unshare_all-requires
unshare_all-requires c = unshare_none c.self.inside.cursor c.self.inside.passes c.unshare_each-pages.ensures c.knobs-knobs.ensures
    (sym c.is_some.ensures ∙ c.if-is_some.false)

pub invariant_of-self-2 : goal.invariant_of-self-2
invariant_of-self-2 c =
    lawful c.self.invariant.0 (unshare_ends _ _ c.unshare_each-pages.ensures c.knobs-knobs.ensures
    (sym c.is_some.ensures ∙ c.if-is_some.false) c.unshare_all.ensures c.set_knobs-2.ensures)

pub returns : goal.returns
returns c =
    carried_so c.self.view_is refl (unshare_ends _ _ c.unshare_each-pages.ensures c.knobs-knobs.ensures
    (sym c.is_some.ensures ∙ c.if-is_some.false) c.unshare_all.ensures c.set_knobs-2.ensures).0
