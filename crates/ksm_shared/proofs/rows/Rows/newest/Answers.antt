use Rattle.std.proofs.Common.{subst}
use Rattle.ksm_shared.specs.Published.{IsRowOf, ShownRow}
use Rattle.ksm_shared.proofs.rows.Rows.newest.Goals as goal

pub returns : goal.returns
returns g c = (c.self.view_is, subst (λ (r : ShownRow). IsRowOf g.N.Naming.parts r) c.self.view_is c.self.invariant.0)
