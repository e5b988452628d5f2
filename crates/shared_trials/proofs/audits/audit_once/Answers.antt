use Rattle.std.proofs.Common.{subst, arith}
use Rattle.ksm_audit.specs.Answered.{Faulted}
use Rattle.ksm_audit.proofs.Callers.{as_many_back, still_own}
use Rattle.shared_trials.proofs.audits.audit_once.Goals as goal

pub returns-in-Ok-clause-own : goal.returns-in-Ok-clause-own
returns-in-Ok-clause-own g c = still_own g.N.Naming.parts.frames c.args.passes.items c.in-Ok.passes.items c.in-Ok.ensures.report.gain c.requires.own

pub returns-in-Err-Gate-clause-count : goal.returns-in-Err-Gate-clause-count
returns-in-Err-Gate-clause-count g c =
    let f = subst (Faulted (g.G.Gate.may_refuse c.args.gate.now) g.N.Naming.parts.frames.shape c.args.passes.items) c.in-Err-Gate.field-0-is c.in-Err-Gate.ensures.fault in
    omega (arith, as_many_back c.args.passes.items c.in-Err-Gate.passes.items f.0.gain, c.in-Err-Gate.passes.ok.0, c.args.passes.ok.0)

pub returns-in-Err-Gate-clause-own : goal.returns-in-Err-Gate-clause-own
returns-in-Err-Gate-clause-own g c =
    let f = subst (Faulted (g.G.Gate.may_refuse c.args.gate.now) g.N.Naming.parts.frames.shape c.args.passes.items) c.in-Err-Gate.field-0-is c.in-Err-Gate.ensures.fault in
    still_own g.N.Naming.parts.frames c.args.passes.items c.in-Err-Gate.passes.items f.0.gain c.requires.own
