use Rattle.ksm_book.proofs.Names.{drop, frame_at, holding, puts, stepped, take, with_frame, ◌++◌, ◌≡◌}
use Rattle.ksm_book.proofs.frames.write.Given as goal

abbrev pub invariant-loop-i : goal.invariant-loop-i
invariant-loop-i l =
    let old = frame_at l.fn.keeper.ledger l.frame in
    record {
      wrote : l.keeper ≡ stepped l.fn.keeper (puts l.frame 0 (take l.i l.bytes));
      ledger : l.keeper.ledger ≡ with_frame l.fn.keeper.ledger l.frame (holding old (take l.i l.bytes ++ drop l.i old.content));
      kind : (frame_at l.keeper.ledger l.frame).kind ≡ old.kind;
    }
