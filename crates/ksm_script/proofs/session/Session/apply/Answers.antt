use Rattle.ksm_script.proofs.Names.{Commands, reply_to, script_of, ScriptState, SessionView, Some, subst}
use Rattle.ksm_script.proofs.Journaled.{commands}
use Rattle.ksm_script.proofs.session.Session.apply.Goals as goal

pub returns : goal.returns
returns g c =
    let parts = g.N.Naming.parts in
    let did = c.carry_out_alone.ensures in
    let answer = c.carry_out_alone.result in
    let now : ScriptState = script_of parts c.carry_out_alone.new.share c.self.inside.passes in
    let made = commands parts c.self.inside.share c.carry_out_alone.new.share c.args.command.now answer c.self.invariant.0 did.seen c.self.inside.passes did.alone in
    record { answers = subst (λ (v : SessionView). Commands c.args.command.now v.state (Some (reply_to answer)) now) c.self.view_is made }
