use Rattle.std.proofs.Common.{◌∙◌, ap, arith}
use Rattle.frame_table.proofs.Above.{all_left, one_taken}
use Rattle.ksm_audit.specs.declared.job.Job.{Job}
use Rattle.ksm_audit.specs.Working.{Sat}
use Rattle.ksm_audit.specs.Gathering.{IsThrough}
use Rattle.ksm_audit.proofs.Dealing.{merges, draws}
use Rattle.ksm_audit.proofs.Gathering.{gathers_more}
use Rattle.ksm_audit.proofs.gather.unload.Goals as goal

pub join_seat-requires : goal.join_seat-requires
join_seat-requires c =
    let i = c.jobs.invariant in
    let t = one_taken (λ (j : Job). IsThrough c.args.claims.now.table_id j) c.jobs.jobs.items c.pop.new.self.items c.pop.result c.in-Some.job c.pop.ensures.items c.in-Some.is i.through in
    (i.own, t.seat, t.held, c.requires.words.1, merges _ _ _ _ _ (omega (arith, i.vain)))

pub jobs-preserved : goal.jobs-preserved
jobs-preserved c =
    let i = c.jobs.invariant in
    let through = λ (j : Job). IsThrough c.args.claims.now.table_id j in
    let t = one_taken through c.jobs.jobs.items c.pop.new.self.items c.pop.result c.in-Some.job c.pop.ensures.items c.in-Some.is i.through in
    let joined = c.join_seat.ensures.2 in
    let parts = ap (λ (m : Sat). m.0.parts) joined in
    let past = ap (λ (m : Sat). m.0.past) joined in
    let workers = ap (λ (m : Sat). m.0.deal.workers) joined in
    record {
      own = c.join_seat.ensures.0 ∙ i.own;
      parts = omega (arith, parts, workers, t.parts, i.parts, c.in-Some.ensures.cases);
      vain = omega (arith, parts, past, t.parts, t.vain, i.vain);
      through = all_left through c.jobs.jobs.items c.pop.new.self.items c.pop.result c.pop.ensures.items i.through;
      capacity = c.push_reserved.ensures.capacity ∙ i.capacity;
      room = omega (arith, i.room, c.in-Some.ensures.cases, c.push_reserved.ensures.len, c.push_reserved.ensures.capacity);
      gathered = gathers_more c.args.jobs.items c.jobs.jobs.items c.pop.new.self.items c.in-Some.job c.args.passes.now.items c.jobs.passes.items c.push_reserved.new.self.items c.in-Some-pass.pass c.jobs.own.me c.join_seat.new.seat.me i.gathered c.in-Some.ensures.items c.in-Some-pass.is c.push_reserved.ensures.items joined;
    }

pub fetch_add-requires : goal.fetch_add-requires
fetch_add-requires c =
    let i = c.jobs.invariant in
    (i.own, c.requires.words.1, draws _ _ _ _ _ i.vain)
