use Rattle.std.proofs.Common.{◌≡◌, ◌∙◌, [], ap, refl, arith}
use Rattle.std.specs.Global.{Vec}
use Rattle.ksm_base.specs.Values.{frames_of}
use Rattle.frame_table.specs.Named.{PassView}
use Rattle.frame_table.proofs.Above.{all_put, all_left, one_taken}
use Rattle.ksm_audit.specs.declared.job.Job.{Job}
use Rattle.ksm_audit.specs.declared.job.Line.{Line}
use Rattle.ksm_audit.specs.Claims.{worker_hand}
use Rattle.ksm_audit.specs.Working.{Sat, IsReady, IsEmpty}
use Rattle.ksm_audit.proofs.Dealing.{forks}
use Rattle.ksm_audit.proofs.Gathering.{loaded_on, remaining_less}
use Rattle.ksm_audit.proofs.room.load.Goals as goal

pub split_seat-seat-requires : goal.split_seat-seat-requires
split_seat-seat-requires c =
    let r = c.passes.invariant.rest in
    let p = ap (λ (m : Sat). m.0.parts) r in
    let l = ap (λ (m : Sat). m.0.past) r in
    let n = c.passes.invariant.count in
    let one = c.in-Some.ensures.cases in
    let all = c.requires.deal.1 in
    (c.passes.invariant.own, c.requires.words.1, forks _ _ _ (omega (arith, p, n, one, all)) (omega (arith, p, l, n, one, all)))

pub passes-preserved : goal.passes-preserved
passes-preserved c =
    let i = c.passes.invariant in
    let s = c.split_seat-seat.ensures in
    let own = λ (p : PassView). p.table ≡ c.args.table.now in
    let empty = λ (ls : Vec Line). IsEmpty (frames_of c.args.table.now.shape) ls in
    let pass = one_taken own c.passes.passes.items c.pop.new.self.items c.pop.result c.in-Some.pass c.pop.ensures.items c.in-Some.is i.passes in
    let lines = one_taken empty c.passes.lists.items c.pop-in-Some.new.self.items c.pop-in-Some.result c.in-Some-pop.lines c.pop-in-Some.ensures.items c.in-Some-pop.is i.empty in
    record {
      own = s.0 ∙ i.own;
      rest = remaining_less _ _ _ c.passes.own.me c.split_seat-seat.new.seat.me i.rest c.push_reserved.ensures.len s.2;
      count = omega (arith, i.count, c.in-Some.ensures.cases, c.push_reserved.ensures.len);
      passes = all_left own c.passes.passes.items c.pop.new.self.items c.pop.result c.pop.ensures.items i.passes;
      lists = omega (arith, i.lists, c.in-Some.ensures.cases, c.in-Some-pop.ensures.cases);
      empty = all_left empty c.passes.lists.items c.pop-in-Some.new.self.items c.pop-in-Some.result c.pop-in-Some.ensures.items i.empty;
      room = omega (arith, i.room, c.push_reserved.ensures.capacity);
      ready = all_put (λ (j : Job). IsReady c.args.claims.now.table_id c.args.claims.now.key c.args.table.now j) c.passes.jobs.items c.push_reserved.new.self.items _ c.push_reserved.ensures.items i.ready
          record { pass = (c.in-Some.pass, refl, pass); seat = s.3 ∙ i.own; fresh = s.4 ∙ ap (λ (m : Sat). let z : Sat = (worker_hand m.0.deal, []) in z) c.passes.invariant.rest; lines = lines.0; room = lines.1; refused = refl };
      loaded = loaded_on _ c.passes.passes.items c.pop.new.self.items c.passes.jobs.items c.push_reserved.new.self.items _ c.in-Some.pass i.loaded c.in-Some.ensures.items c.push_reserved.ensures.items refl;
      back = c.pop.ensures.capacity ∙ i.back;
    }
