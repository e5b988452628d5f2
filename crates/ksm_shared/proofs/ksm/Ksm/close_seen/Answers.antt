use Rattle.std.proofs.Common.{◌∙◌, List, ap, subst, sym}
use Rattle.ksm_base.specs.Journal.{Entry}
use Rattle.frame_table.specs.Named.{KeeperView}
use Rattle.frame_table.specs.Seats.{Ends}
use Rattle.ksm_shared.specs.declared.seen.Caller.{Caller}
use Rattle.ksm_shared.specs.Locked.{EndsAfter, Locked}
use Rattle.ksm_shared.specs.Seen.{entries}
use Rattle.ksm_shared.proofs.ksm.Ksm.close_seen.Goals as goal

pub close-requires-2-clause-passes : goal.close-requires-2-clause-passes
close-requires-2-clause-passes g c k d within = c.requires.passes k d within ∙ sym c.self.invariant

pub returns-clause-ends : goal.returns-clause-ends
returns-clause-ends g c =
    let law = c.lies_lawfully.ensures in
    let seen = ap (λ (l : Locked). entries l.log) c.show.ensures.kept ∙ ap (λ (s : Caller). entries s.seen) (sym c.show.ensures.share) in
    let ends = subst (λ (k : KeeperView). Ends k.ledger c.close-2.result) c.close.ensures c.close-2.ensures.ends in
    subst (λ (journal : List Entry). EndsAfter g.N.Naming.parts journal c.close-2.result) seen
    (record { book = c.show.new.self.book; own = law.own; journal_is = law.journal; legal = law.legal; placed = law.placed; ends = ends })
