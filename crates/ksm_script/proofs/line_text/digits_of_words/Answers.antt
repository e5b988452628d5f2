use Rattle.ksm_script.proofs.Names.{[], ap, arith, get_or, length, length-set, map, map-append, sym, take, take_all, take_more, take_more_set, word_digits, ◌++◌, ◌<◌, ◌∙◌, ◌∷◌}
use Rattle.ksm_script.proofs.line_text.digits_of_words.Goals as goal

pub loop-i-preserved : goal.loop-i-preserved
loop-i-preserved c =
    let words = c.args.content.now in
    let i = c.loop-i.i in
    let inside : i < length c.loop-i.digits = omega (arith, c.loop-i.invariant.0, c.loop-i-test.true) in
    let within : i < length words = omega (arith, c.told-content, c.loop-i-test.true) in (
      length-set c.loop-i.digits i c.digits_of.result ∙ c.loop-i.invariant.0,
      take_more_set c.loop-i.digits i c.digits_of.result inside
          ∙ (λ t. c.loop-i.invariant.1 t ++ c.digits_of.ensures t ∷ [])
          ∙ sym (ap (map word_digits) (take_more words i 0 within) ∙ map-append word_digits (take i words) (get_or words i 0 ∷ [])),
    )

pub returns : goal.returns
returns c =
    let words = c.args.content.now in
    let i = c.loop-i.i in
    sym (take_all i c.loop-i.digits (omega (arith, c.loop-i.invariant.0, c.loop-i-test.false))) ∙ c.loop-i.invariant.1
    ∙ ap (map word_digits) (take_all i words (omega (arith, c.told-content, c.loop-i-test.false)))
