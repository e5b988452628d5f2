use Rattle.ksm_tree.proofs.Names.{arith}
use Rattle.ksm_tree.proofs.Shelved.{seen_by}
use Rattle.ksm_tree.proofs.shelf.Shelf.at.Goals as goal

pub returns-in_err-kept : goal.returns-in_err-kept
returns-in_err-kept c =
    grind (arith, c.from_residual-in_err-kept.ensures, c.in_ok-key.ensures.lookup.3.0, c.in_ok-key.ensures.lookup.3.1 0, seen_by c.args.place c.self.inside.keys.items c.self.inside.dups c.self.view_is)

pub returns : goal.returns
returns c =
    grind (arith, c.in_ok-kept.ensures, c.in_ok-key.ensures.lookup.3.0, c.in_ok-key.ensures.lookup.3.1 0, seen_by c.args.place c.self.inside.keys.items c.self.inside.dups c.self.view_is)
