use Rattle.ksm_book.proofs.Names.{arith, BookValue, change_row, IsAlone, IsSound, PagesView, seen, settled, settled_calmer, sound_changed, state_of, subst, sym, ◌≡◌}
use Rattle.ksm_book.proofs.DuePasses.{alone_settled}
use Rattle.ksm_book.proofs.Laying.{laid_mapped}
use Rattle.ksm_book.proofs.state.State.stop_waiting.Goals as goal

-- only the row of the page changes: it waits no more
goes : (c : goal.After-stop_waiting) → seen c.stop_waiting.new.self
    ≡ record (seen c.self.inside.pages) { rows = change_row c.args.spot.page settled c.self.inside.pages.rows }
goes c =
    let s = c.self.inside in
    let alone = subst (λ (v : BookValue). IsAlone c.args.spot.page v.state.rows) (sym c.self.view_is) c.requires in
    rw (← alone_settled _ _ c.self.invariant.0.rows_rise alone) c.stop_waiting.ensures

pub invariant_of-self : goal.invariant_of-self
invariant_of-self c = (
  subst (λ (p : PagesView). IsSound (state_of p c.self.inside.cursor c.self.inside.passes)) (sym (goes c))
      (sound_changed _ _ _ settled_calmer (λ r home. home) c.self.invariant.0),
  rw (goes c) (laid_mapped c.self.invariant.1 _ (grind arith) (grind arith)),
)

pub returns : goal.returns
returns c = grind (arith, goes c, c.self.view_is)
