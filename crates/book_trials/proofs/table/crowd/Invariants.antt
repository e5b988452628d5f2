use Rattle.std.proofs.Common.{◌≡◌, ◌+◌, ◌≤◌, vec_len, vec_capacity}
use Rattle.std.specs.Prelude.{All, IsSomeAnd}
use Rattle.frame_table.specs.Named.{PassView}
use Rattle.book_trials.specs.declared.table.Worker.{Worker}
use Rattle.book_trials.proofs.table.crowd.Given as goal

-- the passes that are left, and the workers that have one
abbrev pub invariant-loop-pass : goal.invariant-loop-pass
invariant-loop-pass g l = record {
  passes : All (λ (p : PassView). p.table ≡ l.table) l.passes.items;
  workers : All (λ (w : Worker). IsSomeAnd w.pass (λ p. p.table ≡ l.table)) l.workers.items;
  all : vec_len l.passes + vec_len l.workers ≡ 16;
  room : 16 ≤ vec_capacity l.workers;
  back : 16 ≤ vec_capacity l.passes;
}

abbrev pub decreases-loop-pass : goal.decreases-loop-pass
decreases-loop-pass g l = goal.left-loop-pass g l
