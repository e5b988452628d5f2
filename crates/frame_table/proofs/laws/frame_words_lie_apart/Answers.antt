use Rattle.std.proofs.Common.{arith}
use Rattle.frame_table.proofs.laws.frame_words_lie_apart.Goals as goal

pub returns-clause-frames : goal.returns-clause-frames
returns-clause-frames c = λ begin places f g apart same. apart (omega (arith, same))

pub returns-clause-pages : goal.returns-clause-pages
returns-clause-pages c = λ begin places f g i below same. omega (arith, below, same)
