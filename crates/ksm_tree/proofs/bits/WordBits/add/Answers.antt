use Rattle.ksm_tree.proofs.Names.{[], arith, ◌∷◌}
use Rattle.ksm_tree.proofs.NumberBits.{marks_more}
use Rattle.ksm_tree.proofs.bits.WordBits.add.Goals as goal

pub returns : goal.returns
returns c = grind (arith, marks_more (c.self.inside.word ∷ []) c.args.number)
