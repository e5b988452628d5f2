use Rattle.ksm_tree.proofs.Names.{[], arith, ◌∷◌}
use Rattle.ksm_tree.proofs.NumberBits.{marks_less}
use Rattle.ksm_tree.proofs.bits.WordBits.remove.Goals as goal

pub returns : goal.returns
returns c = grind (arith, marks_less (c.self.inside.word ∷ []) c.args.number)
