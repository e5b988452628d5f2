use Rattle.ksm_pages.proofs.Names.{arith, sym}
use Rattle.ksm_pages.proofs.Leading.{holder_none, holder_stands, none_found, page_found}
use Rattle.ksm_pages.proofs.rows.Rows.in_tree.Goals as goal

pub returns-in_err-key : goal.returns-in_err-key
returns-in_err-key c =
    let none = none_found c.self.inside c.self.invariant.0 c.args.tree c.args.bytes.now (holder_none _ _ _ c.args.tree c.args.bytes.now c.self.invariant.1 (sym c.in_err-key.ensures)) in
    grind (arith, none, c.from_residual.ensures)

pub index-requires : goal.index-requires
index-requires c =
    grind (arith, holder_stands c.self.inside.by_node c.self.inside.entries c.self.inside.unstable c.args.tree c.args.bytes.now (sym c.in_ok-key.ensures))

pub returns : goal.returns
returns c =
    let s = c.self.inside in
    let found = page_found s c.self.invariant.0 c.self.invariant.1 c.args.tree c.args.bytes.now c.in_ok-key.field-0 c.index.result.now
    c.index.ensures (grind (arith, holder_stands s.by_node s.entries s.unstable c.args.tree c.args.bytes.now (sym c.in_ok-key.ensures), c.index.ensures)) in
    grind (arith, found)
