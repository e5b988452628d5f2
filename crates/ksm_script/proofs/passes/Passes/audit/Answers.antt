use Rattle.ksm_script.proofs.Names.{[], All, ap, arith, AuditedBy, gaps, idle_of, length, List, PassState, PassView, present, rules, subst, sym, table_of, vec_capacity, vec_len, ◌∙◌, ◌≡◌, ◌≤◌}
use Rattle.ksm_script.proofs.Slots.{idle_own, gaps_idle, put_back}
use Rattle.ksm_script.proofs.passes.Passes.audit.Goals as goal

pub audit_by-reply-requires-clause-own : goal.audit_by-reply-requires-clause-own
audit_by-reply-requires-clause-own g c κs within =
    let t = g.N.Naming.parts.frames in
    subst (All (λ (v : PassView). v.table ≡ t)) (sym {A = List PassView} c.take_idle.ensures.idle) (idle_own t (present c.self.inside.slots.items) (subst (All (λ (s : PassState). table_of s ≡ t)) (sym c.self.view_is) c.requires.own))

pub put_idle-requires : goal.put_idle-requires
put_idle-requires g c =
    let gap = ap gaps c.take_idle.ensures.slots ∙ gaps_idle c.self.inside.slots.items c.self.invariant.0 in
    omega (arith, gap, ap (λ (l : List PassView). length l) c.take_idle.ensures.idle, c.audit_by-reply.ensures.count, c.audit_by-reply.result.1.ok.0)

pub invariant_of-self : goal.invariant_of-self
invariant_of-self g c =
    let count = c.audit_by-reply.ensures.count ∙ ap (λ (l : List PassView). length l) c.take_idle.ensures.idle in
    let back = put_back g.N.Naming.parts.frames c.self.inside.slots.items c.take_idle.new.slots.items c.put_idle.new.slots.items _ c.audit_by-reply.result.1.items c.self.invariant.0 c.self.view_is c.requires.own c.take_idle.ensures.slots count c.audit_by-reply.ensures.own c.put_idle.ensures.slots in
    let empty : c.replace-unused.new.dest.items ≡ [] = search rules in
    let room : vec_len c.put_idle.new.slots ≤ vec_capacity c.replace-unused.new.dest = search rules in
    (back.0, empty, room)

pub returns : goal.returns
returns g c =
    let count = c.audit_by-reply.ensures.count ∙ ap (λ (l : List PassView). length l) c.take_idle.ensures.idle in
    let back = put_back g.N.Naming.parts.frames c.self.inside.slots.items c.take_idle.new.slots.items c.put_idle.new.slots.items _ c.audit_by-reply.result.1.items c.self.invariant.0 c.self.view_is c.requires.own c.take_idle.ensures.slots count c.audit_by-reply.ensures.own c.put_idle.ensures.slots in
    let reply = c.audit_by-reply.result.0 in
    let audited = subst (λ (l : List PassView). AuditedBy l reply c.audit_by-reply.result.1.items) (c.take_idle.ensures.idle ∙ ap idle_of c.self.view_is) c.audit_by-reply.ensures.audited in
    record { audits = (subst (AuditedBy _ reply) (sym back.1.1) audited, back.1.0); own = back.1.2; count = back.1.3 }
