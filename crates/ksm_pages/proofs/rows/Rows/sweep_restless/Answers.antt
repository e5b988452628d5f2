use Rattle.ksm_pages.proofs.Names.{All, ap, rows_of, RowsView, rules, shared_state, subst, sym, true, ◌≡◌}
use Rattle.ksm_pages.proofs.Writing.{none_restless, swept_rows}
use Rattle.ksm_pages.proofs.rows.Rows.sweep_restless.Goals as goal

pub invariant_of-self : goal.invariant_of-self
invariant_of-self c =
    let shared = subst (λ (v : RowsView). All (λ r. shared_state r.state ≡ true) (rows_of v.held)) (sym c.self.view_is)
    (c.count_alone.ensures c.if-count_alone-eq0.true) in
    (none_restless c.self.inside c.self.invariant.0 shared (ap (λ l. l.pages) c.clear.ensures), c.self.invariant.1)

pub invariant_of-self-else-count_alone-eq0 : goal.invariant_of-self-else-count_alone-eq0
invariant_of-self-else-count_alone-eq0 c = search (rules, swept_rows)
