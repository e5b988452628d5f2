use Rattle.ksm_tree.proofs.Names.{arith, get_or_past, has_number}
use Rattle.ksm_tree.proofs.OneSlot.{first_found}
use Rattle.ksm_tree.proofs.shelf.Shelf.numbered.Goals as goal

pub returns : goal.returns
returns c =
    grind (arith, get_or_past, first_found (has_number c.args.number) c.loop-place.place c.args.self.now.slots c.loop-place.invariant)
