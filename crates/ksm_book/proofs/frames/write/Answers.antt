use Rattle.ksm_book.proofs.Names.{ap, arith, filled, frame_at, get_or, holding, length, PAGE_WORDS, rules, sym, with_frame, ◌∙◌, ◌≡◌}
use Rattle.ksm_book.proofs.Made.{along_one, at_again, follow, word_written}
use Rattle.ksm_book.proofs.frames.write.Goals as goal

pub loop-i-preserved : goal.loop-i-preserved
loop-i-preserved c =
    let k = c.args.keeper.now.ledger in
    let frame = c.args.frame in
    let i = c.loop-i.i in
    let bytes = c.args.bytes.now in
    let old = frame_at k frame in
    let wide : length bytes ≡ PAGE_WORDS = search rules in
    let ledger = follow k _ c.requires.within _ (filled i (get_or bytes i 0)) (rw c.put.ensures) c.loop-i.invariant.ledger
    ∙ ap (λ cs. with_frame k frame (holding old cs)) (word_written _ _ i (c.requires.wide ∙ sym wide) (omega arith)) in
    record {
      wrote = grind (arith, along_one);
      ledger = ledger;
      kind = rw (ledger, at_again k _ c.requires.within _);
    }
