use Rattle.ksm_script.proofs.Names.{All, ap, arith, as_many_back, length, List, PassView, rules, still_own, subst, sym, ◌≡◌}
use Rattle.ksm_script.proofs.Auditing.{audited_all, refused_all}
use Rattle.ksm_script.proofs.passes.audit_by.Goals as goal

pub returns-in-Ok : goal.returns-in-Ok
returns-in-Ok g c = record {
  audited = audited_all g.N.Naming.parts.frames _ c.args.idle.items _ _ c.if-is_empty.ensures (omega (arith, c.args.idle.ok.0)) c.requires.own c.in-Ok.ensures.report;
  own = still_own g.N.Naming.parts.frames c.args.idle.items c.in-Ok.back.items c.in-Ok.ensures.report.gain c.requires.own;
  count = as_many_back c.args.idle.items c.in-Ok.back.items c.in-Ok.ensures.report.gain;
  room = search rules;
}

pub returns-in-Memory : goal.returns-in-Memory
returns-in-Memory g c =
    let back = rw c.in-Memory.is at c.in-Err.ensures.fault in record {
      audited = refused_all _ c.args.idle.items _ c.if-is_empty.ensures (omega (arith, c.args.idle.ok.0)) back;
      own = subst (All (λ (p : PassView). p.table ≡ g.N.Naming.parts.frames)) (sym back) c.requires.own;
      count = ap (λ (l : List PassView). length l) back;
      room = rw c.in-Memory.is at c.in-Err.ensures.room;
    }
