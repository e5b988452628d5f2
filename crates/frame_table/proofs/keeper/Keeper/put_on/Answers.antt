use Rattle.std.proofs.Common.{rules, refl}
use Rattle.frame_table.proofs.CoreNames.{filled, frame_at}
use Rattle.frame_table.proofs.Names.{ledger_in}
use Rattle.frame_table.specs.Notes.{generation_of, use_of}
use Rattle.frame_table.proofs.Notes.{notes_kept}
use Rattle.frame_table.proofs.keeper.Keeper.put_on.Goals as goal

pub invariant_of-self : goal.invariant_of-self
invariant_of-self c =
    let k = ledger_in c.self.inside.seat.me in
    let uses = notes_kept use_of k.frames c.args.frame (filled c.args.i c.args.word (frame_at k c.args.frame)) refl in
    let generations = notes_kept generation_of k.frames c.args.frame (filled c.args.i c.args.word (frame_at k c.args.frame)) refl in
    search rules
