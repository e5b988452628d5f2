use Rattle.std.proofs.Common.{◌≡◌, ◌+◌, ◌≤◌, vec_len, vec_capacity}
use Rattle.std.specs.Prelude.{All, IsSomeAnd}
use Rattle.frame_table.specs.Named.{PassView}
use Rattle.crowded_frame.specs.declared.reader.Reader.{Reader}
use Rattle.crowded_frame.proofs.table.run.Given as goal

-- the passes that are left, and the readers that have one
abbrev pub invariant-loop-pass : goal.invariant-loop-pass
invariant-loop-pass g l = record {
  passes : All (λ (p : PassView). p.table ≡ l.table) l.passes.items;
  readers : All (λ (w : Reader). IsSomeAnd w.pass (λ p. p.table ≡ l.table)) l.readers.items;
  all : vec_len l.passes + vec_len l.readers ≡ 16;
  room : 16 ≤ vec_capacity l.readers;
  back : 16 ≤ vec_capacity l.passes;
}

abbrev pub decreases-loop-pass : goal.decreases-loop-pass
decreases-loop-pass g l = goal.left-loop-pass g l
