use Rattle.std.proofs.Common.{◌≡◌, ◌+◌, ◌≤◌, vec_len, vec_capacity}
use Rattle.std.specs.Prelude.{All, IsSomeAnd}
use Rattle.frame_table.specs.Named.{PassView}
use Rattle.book_trials.specs.declared.table.Worker.{Worker}
use Rattle.book_trials.proofs.table.take_back.Given as goal

-- the passes taken back, and the workers that still have one
abbrev pub invariant-loop-worker : goal.invariant-loop-worker
invariant-loop-worker l = record {
  passes : All (λ (p : PassView). p.table ≡ l.table) l.passes.items;
  workers : All (λ (w : Worker). IsSomeAnd w.pass (λ p. p.table ≡ l.table)) l.workers.items;
  all : vec_len l.passes + vec_len l.workers ≡ vec_len l.fn.passes + vec_len l.fn.workers;
  room : vec_len l.passes + vec_len l.workers ≤ vec_capacity l.passes;
}

abbrev pub decreases-loop-worker : goal.decreases-loop-worker
decreases-loop-worker l = goal.left-loop-worker l
