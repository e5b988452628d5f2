use Rattle.ksm_script.proofs.Names.{ap, ◌++◌, ◌∙◌}
use Rattle.ksm_script.proofs.Hex.{flat_digits}
use Rattle.ksm_script.proofs.line_text.LineText.put_content.Goals as goal

pub returns-clause-text : goal.returns-clause-text
returns-clause-text g c = c.put_bytes.ensures ∙ ap (λ t. t ++ c.args.self.now) (flat_digits _ c.as_flattened.ensures.value c.digits_of_words-digits.ensures)
