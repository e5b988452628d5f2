use Rattle.ksm_script.proofs.Names.{arith, Took}
use Rattle.ksm_script.proofs.Pieces.{form_taken}
use Rattle.ksm_script.proofs.input.take_rare.Goals as goal

pub returns-clause-taken : goal.returns-clause-taken
returns-clause-taken g c = form_taken _ (Took g.M.Lane.remaining g.M.Lane.takes c.args.reader.now c.consume.new.reader) _ _ _ c.min.result c.at_hand-bytes.ensures c.in-Some.ensures (omega arith) (c.consume.ensures.bytes, c.consume.ensures.took)
