use Rattle.ksm_tree.proofs.Names.{arith, Kept, refl}
use Rattle.ksm_tree.proofs.Shelved.{filled, many}
use Rattle.ksm_tree.proofs.shelf.Shelf.put.Goals as goal

pub returns : goal.returns
returns c =
    let kept : Kept = record { dup = c.args.dup; group = c.args.group } in
    filled _ _ _ c.self.view_is kept refl (omega (arith, c.requires.place, many c.args.dup.row.place _ _ c.self.view_is))
    c.insert_reserved-key.ensures.was_vacant c.insert_reserved-key.ensures.updates
