use Rattle.ksm_script.proofs.Names.{ap, Caller, Counters, counters_of, SessionView, state_seen, ◌∙◌}
use Rattle.ksm_script.proofs.session.Session.counters.Goals as goal

pub returns-clause-reply : goal.returns-clause-reply
returns-clause-reply g c =
    ap (λ counters. Counters counters) (
    c.counters_alone.ensures.counters
    ∙ ap (λ (s : Caller). counters_of (state_seen g.N.Naming.parts s)) (c.counters_alone.ensures.shown.alone c.self.invariant.0)
    ∙ ap (λ (v : SessionView). counters_of v.state.book) c.self.view_is
    )
