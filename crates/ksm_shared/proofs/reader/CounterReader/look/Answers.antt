use Rattle.std.proofs.Common.{rules, ◌∙◌, ap, length, subst}
use mathlib.Core.List.{IsPrefix}
use Rattle.ksm_shared.specs.Chained.{Reached}
use Rattle.ksm_shared.specs.Published.{ReaderView}
use Rattle.ksm_shared.proofs.Showing.{either_row}
use Rattle.ksm_shared.proofs.reader.CounterReader.look.Goals as goal

pub invariant_of-self-2 : goal.invariant_of-self-2
invariant_of-self-2 g c = (c.self.invariant.0, either_row g.N.Naming.parts _ _ _ c.rise.ensures.one c.self.invariant.1 (search rules))

pub returns-clause-shown : goal.returns-clause-shown
returns-clause-shown g c =
    let row = (invariant_of-self-2 g c).1 in
    let now = c.rise.new.self.reached.journal in (
      subst (λ (old : ReaderView). IsPrefix old.journal now) c.self.view_is c.rise.ensures.rises.0,
      record {
        legal = row.legal;
        number = c.len.ensures ∙ ap (λ (r : Reached). length r.journal) c.beginning.ensures;
        counters = c.counters.ensures ∙ row.counters c.self.invariant.0;
      },
    )
