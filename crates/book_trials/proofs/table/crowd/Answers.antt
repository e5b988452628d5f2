use Rattle.std.proofs.Common.{rules, ◌≡◌}
use Rattle.std.specs.Prelude.{IsSomeAnd}
use Rattle.frame_table.specs.Named.{PassView}
use Rattle.book_trials.specs.declared.table.Worker.{Worker}
use Rattle.frame_table.proofs.Above.{all_put, all_left, one_taken}
use Rattle.book_trials.proofs.table.crowd.Goals as goal

pub loop-pass-preserved : goal.loop-pass-preserved
loop-pass-preserved g c =
    let own = λ (p : PassView). p.table ≡ c.in-Ok.opened.0 in
    let has = λ (w : Worker). IsSomeAnd w.pass own in
    let one = one_taken own c.loop-pass.passes.items c.pop.new.self.items c.pop.result c.in-Some.pass c.pop.ensures.items c.in-Some.is c.loop-pass.invariant.passes in
    record {
      passes = all_left own c.loop-pass.passes.items c.pop.new.self.items c.pop.result c.pop.ensures.items c.loop-pass.invariant.passes;
      workers = all_put has c.loop-pass.workers.items c.push_reserved.new.self.items _ c.push_reserved.ensures.items c.loop-pass.invariant.workers one;
      all = search rules;
      room = search rules;
      back = search rules;
    }
