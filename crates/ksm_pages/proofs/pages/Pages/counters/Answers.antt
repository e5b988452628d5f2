use Rattle.ksm_pages.proofs.Names.{All, arith, count_by, false, live_count, PagesValue, private_state, rows_of, states-add, subst, sym, tied_counted, true, ◌&&◌, ◌∙◌, ◌≡◌}
use Rattle.ksm_pages.proofs.pages.Pages.counters.Goals as goal

pub returns : goal.returns
returns c =
    let s = c.self.inside in
    let rows = rows_of s.rows.held in
    let tally = c.tally-tally.ensures in
    let shared = c.count_shared-shared.ensures ∙ live_count rows _ (tied_counted rows _ c.self.invariant.tied) in
    let states = states-add _ (subst (λ (v : PagesValue). All (λ r. private_state r.state ≡ false → r.mergeable ≡ true) v.rows) (sym c.self.view_is) c.requires) in
    let volatile : c.saturating_sub-volatile.result ≡ count_by (λ r. r.mergeable && private_state r.state) rows =
    omega (arith, states, c.mergeable.ensures, tally.merged, tally.waiting, tally.zero, c.saturating_sub.ensures, c.saturating_sub-2.ensures, c.saturating_sub-volatile.ensures) in
    rw (← c.self.view_is) (grind (arith, shared, volatile, tally, c.count_chains.ensures, c.count_grouped.ensures, c.saturating_sub-3.ensures))
