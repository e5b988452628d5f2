use Rattle.std.proofs.Common.{[], ◌∷◌, subst, sym}
use Rattle.ksm_shared.specs.Published.{RowsGoOn, ShownRow, no_sight}
use Rattle.ksm_shared.proofs.Showing.{begins}
use Rattle.ksm_shared.proofs.rows.two_copies.Goals as goal

pub new-requires-clause-rule : goal.new-requires-clause-rule
new-requires-clause-rule g c =
    let parts = g.N.Naming.parts in
    subst (λ (x : ShownRow). RowsGoOn parts x (no_sight parts ∷ [])) (sym c.again.ensures) (begins parts c.args.row.now c.requires.row)
