use Rattle.ksm_script.proofs.Slots.{ends_idle}
use Rattle.ksm_script.proofs.script.run_heard.Goals as goal

pub returns-clause-ran : goal.returns-clause-ran
returns-clause-ran g c =
    record { last = c.run_lines-ended.new.session.state; goes = c.run_lines-ended.ensures.0; given = c.give_back.ensures.given }

pub returns-clause-idle : goal.returns-clause-idle
returns-clause-idle g c = ends_idle c.run_lines-ended.new.session.state.passes c.give_back.new.self.state.passes c.give_back.ensures.given.0
