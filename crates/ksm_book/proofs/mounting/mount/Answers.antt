use Rattle.ksm_book.proofs.Names.{ap, arith, get_or-set_same, holding, KeeperView, opened, set-set, with_more, ◌-◌, ◌∙◌}
use Rattle.ksm_book.proofs.Made.{follow, words_kept}
use Rattle.ksm_book.proofs.mounting.mount.Goals as goal

pub returns-clause-ledger : goal.returns-clause-ledger
returns-clause-ledger c =
    let k = c.args.keeper.now.ledger in
    let g = c.args.frame in
    let may = c.requires.may in
    let raises = ap (λ (z : KeeperView). z.ledger) c.raise.ensures.1 in
    let writes = follow k g may.known _ (λ x. holding x c.load-bytes.result) c.write.ensures.ledger (c.load-bytes.ensures.ledger ∙ raises) in
    let opens = follow k g may.known _ opened (rw c.open.ensures) writes in
    let adds = follow k g may.known _ (λ x. with_more x (c.args.count - 1)) c.add_times.ensures.ledger opens in
    let words = c.load-bytes.ensures.bytes ∙ words_kept _ _ _ g _ may.free may.dying c.raise.ensures.1 in
    rw (c.publish.ensures, adds) (grind (arith, set-set, get_or-set_same))
