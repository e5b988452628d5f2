use Rattle.ksm_tree.proofs.Names.{arith, get_or_default}
use Rattle.ksm_tree.proofs.NumberBits.{further}
use Rattle.ksm_tree.proofs.bits.WordsBits.first_from.Goals as goal

pub returns-in-None : goal.returns-in-None
returns-in-None g c = further _ _ c.word_of-at.ensures (grind (arith, get_or_default)) _ c.first_behind.ensures
