use Rattle.ksm_pages.proofs.Names.{after_cursor, arith}
use Rattle.ksm_pages.proofs.Filing.{page_found}
use Rattle.ksm_pages.proofs.rows.Rows.after.Goals as goal

pub returns-in_err-named : goal.returns-in_err-named
returns-in_err-named c = grind (arith, page_found c.self.inside c.self.invariant.0 (after_cursor c.args.cursor), c.from_residual.ensures)

pub returns : goal.returns
returns c = grind (arith, page_found c.self.inside c.self.invariant.0 (after_cursor c.args.cursor))
