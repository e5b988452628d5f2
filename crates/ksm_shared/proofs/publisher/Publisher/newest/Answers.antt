use Rattle.std.proofs.Common.{◌∙◌, subst, sym}
use Rattle.ksm_shared.specs.Published.{IsRowOf, ShownRow}
use Rattle.ksm_shared.proofs.publisher.Publisher.newest.Goals as goal

pub returns-clause-row : goal.returns-clause-row
returns-clause-row g c = subst (λ (x : ShownRow). IsRowOf g.N.Naming.parts x) (sym (c.again.ensures ∙ c.newest.ensures.0)) c.newest.ensures.1
