use Rattle.ksm_script.proofs.Names.{◌∙◌}
use Rattle.ksm_script.proofs.Hex.{woven_digits, woven_small}
use Rattle.ksm_script.proofs.line_text.digits_of.Goals as goal

pub digits_of_values-requires-clause-small : goal.digits_of_values-requires-clause-small
digits_of_values-requires-clause-small c = woven_small c.args.word c.to_le_bytes-bytes.result c.to_le_bytes-bytes.ensures

pub returns : goal.returns
returns c = c.digits_of_values.ensures ∙ woven_digits c.args.word c.to_le_bytes-bytes.result c.to_le_bytes-bytes.ensures
