use Rattle.std.proofs.Common.{◌∙◌, ap, sym}
use Rattle.ksm_shared.specs.declared.beginning.Link.{Link}
use Rattle.ksm_shared.specs.Chained.{first_key, first_word, next_key}
use Rattle.ksm_shared.proofs.Chain.{adds_moves, last_key}
use Rattle.ksm_shared.proofs.beginning.Scribe.add.Goals as goal

pub compare_exchange-requires : goal.compare_exchange-requires
compare_exchange-requires c =
    let word = c.self.invariant.0 in
    let mine = c.self.invariant.1 in
    let own = sym (ap (λ w. w.book) word) in
    let offer = c.plain-offer.ensures in (
      ap (λ w. w.tracked) word,
      own,
      mine.0 ∙ own,
      offer.0,
      rw (ap (λ w. w.key) word, offer.3) (adds_moves c.self.inside.seen.log c.self.inside.pen.nib c.plain-offer.result.ask mine.1 mine.2),
    )

pub invariant_of-self : goal.invariant_of-self
invariant_of-self c =
    let moved = c.compare_exchange.ensures in
    let pen = c.cut-pen.ensures.pen in
    let last = ap (next_key first_key) moved.7 ∙ last_key first_key c.self.inside.seen.log c.plain-offer.result.ask ∙ ap (λ (l : Link). l.key) c.plain-offer.ensures.1 in
    (c.self.invariant.0 ∙ ap first_word (sym moved.0), (pen.0 ∙ sym moved.0, pen.1, sym last))
