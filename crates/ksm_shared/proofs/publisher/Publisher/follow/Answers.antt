use Rattle.std.proofs.Common.{◌∙◌, ◌++◌, List, ap}
use Rattle.ksm_base.specs.Journal.{Entry}
use Rattle.ksm_shared.specs.Chained.{Reached}
use Rattle.ksm_shared.specs.Published.{list_of}
use Rattle.ksm_shared.proofs.Showing.{makes_row}
use Rattle.ksm_shared.proofs.publisher.Publisher.follow.Goals as goal

pub show-requires-clause-row : goal.show-requires-clause-row
show-requires-clause-row g c =
    let next = list_of c.args.next.now in
    let reached = c.reached-reached.ensures in
    let wrote = c.write.ensures in
    let logbook = ap (λ (r : Reached). r.logbook) reached ∙ wrote.logbook ∙ c.self.invariant.1 in
    let journal = ap (λ (r : Reached). r.journal) reached ∙ wrote.journal ∙ ap (λ (r : Reached). r.journal ++ next) c.self.invariant.0 ∙ ap (λ (l : List Entry). l ++ next) c.self.view_is in
    makes_row g.N.Naming.parts _ _ _ logbook journal c.requires.legal c.requires.leads
