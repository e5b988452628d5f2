use Rattle.ksm_script.proofs.Names.{arith, refl, Took}
use Rattle.ksm_script.proofs.Pieces.{form_taken}
use Rattle.ksm_script.proofs.input.take_page.Goals as goal

pub returns-clause-taken : goal.returns-clause-taken
returns-clause-taken g c = form_taken _ (Took g.M.Lane.remaining g.M.Lane.takes c.args.reader.now c.consume.new.reader) _ _ _ c.min.result c.at_hand-bytes.ensures c.in_ok-line.ensures (omega arith) (c.consume.ensures.bytes, c.consume.ensures.took)

pub returns-in_err-line-clause-taken : goal.returns-in_err-line-clause-taken
returns-in_err-line-clause-taken g c = rw c.from_residual.ensures tt

pub returns-in_err-line-clause-none : goal.returns-in_err-line-clause-none
returns-in_err-line-clause-none g c = rw c.from_residual.ensures refl
