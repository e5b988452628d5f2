use Rattle.std.proofs.Common.{◌≡◌, ◌+◌, ◌≤◌, vec_len, vec_capacity}
use Rattle.std.specs.Prelude.{All, IsSomeAnd}
use Rattle.frame_table.specs.Named.{PassView}
use Rattle.crowded_frame.specs.declared.reader.Reader.{Reader}
use Rattle.crowded_frame.proofs.table.take_back.Given as goal

-- the passes taken back, and the readers that still have one
abbrev pub invariant-loop-reader : goal.invariant-loop-reader
invariant-loop-reader l = record {
  passes : All (λ (p : PassView). p.table ≡ l.table) l.passes.items;
  readers : All (λ (w : Reader). IsSomeAnd w.pass (λ p. p.table ≡ l.table)) l.readers.items;
  all : vec_len l.passes + vec_len l.readers ≡ vec_len l.fn.passes + vec_len l.fn.readers;
  room : vec_len l.passes + vec_len l.readers ≤ vec_capacity l.passes;
}

abbrev pub decreases-loop-reader : goal.decreases-loop-reader
decreases-loop-reader l = goal.left-loop-reader l
