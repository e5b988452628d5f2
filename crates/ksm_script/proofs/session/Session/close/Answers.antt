use Rattle.ksm_script.proofs.Names.{sym, ◌∙◌}
use Rattle.ksm_script.proofs.session.Session.close.Goals as goal

pub close-passes-requires : goal.close-passes-requires
close-passes-requires g c = record { own = λ k d lt. c.self.invariant.2 k d lt ∙ sym c.table.ensures }

pub close-requires-clause-passes : goal.close-requires-clause-passes
close-requires-clause-passes g c = λ k d lt. c.close-passes.ensures.own k d lt ∙ c.table.ensures
