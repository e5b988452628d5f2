use Rattle.std.proofs.Common.{◌∙◌, ap, sym}
use Rattle.ksm_shared.proofs.Chain.{cuts_moves}
use Rattle.ksm_shared.proofs.beginning.cut.Goals as goal

pub compare_exchange-found-requires : goal.compare_exchange-found-requires
compare_exchange-found-requires c =
    let word = c.requires in
    let mark = c.again-mark.ensures in
    let pen = c.no_pen-pen.ensures in
    let offer = c.plain-offer.ensures in
    let own = ap (λ s. s.book) mark ∙ sym (ap (λ w. w.book) word) in (
      ap (λ w. w.tracked) word,
      own,
      pen.0 ∙ own,
      offer.0,
      rw (ap (λ w. w.key) word, pen.1, offer.3) (cuts_moves c.again-mark.result.log),
    )
