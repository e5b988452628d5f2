use Rattle.std.proofs.Common.{arith, length, ◌<◌}
use Rattle.std.proofs.lemmas.List.{length-map}
use Rattle.frame_table.specs.Notes.{use_of}
use Rattle.frame_table.proofs.Notes.{uses_get, uses_set}
use Rattle.frame_table.proofs.keeper.fill.Goals as goal

pub returns-clause-uses : goal.returns-clause-uses
returns-clause-uses c = λ notes x are is.
    let below : c.args.frame < length notes = grind (arith, c.requires.uses, are, length-map notes use_of) in
    grind (arith, uses_set notes c.args.frame x, uses_get notes c.args.frame c.index_mut-2.result.now below, is, are)
