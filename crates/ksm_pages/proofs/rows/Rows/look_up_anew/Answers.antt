use Rattle.ksm_pages.proofs.Names.{ap, arith, is_some, sym}
use Rattle.ksm_pages.proofs.Filing.{under}
use Rattle.ksm_pages.proofs.Writing.{row_there}
use Rattle.ksm_pages.proofs.rows.Rows.look_up_anew.Goals as goal

pub index-requires : goal.index-requires
index-requires c = ap is_some (under c.self.inside.entries _ c.self.invariant.0.filed (sym c.in_ok-key.ensures)).stands

pub returns : goal.returns
returns c =
    grind (arith, row_there c.self.inside c.self.invariant.0 (under _ _ c.self.invariant.0.filed (sym c.in_ok-key.ensures)) c.index.ensures)
