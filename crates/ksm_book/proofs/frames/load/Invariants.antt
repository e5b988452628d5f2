use Rattle.ksm_book.proofs.Names.{drop, frame_at, loads, PAGE_WORDS, replicate, stepped, take, ◌++◌, ◌≡◌}
use Rattle.ksm_book.proofs.frames.load.Given as goal

abbrev pub invariant-loop-i : goal.invariant-loop-i
invariant-loop-i l = record {
  loaded : l.keeper ≡ stepped l.fn.keeper (loads l.frame 0 (take l.i (frame_at l.fn.keeper.ledger l.frame).content));
  ledger : l.keeper.ledger ≡ l.fn.keeper.ledger;
  bytes : l.bytes ≡ take l.i (frame_at l.fn.keeper.ledger l.frame).content ++ drop l.i (replicate PAGE_WORDS 0);
}
