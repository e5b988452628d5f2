use Rattle.std.proofs.Common.{◌∙◌, ℕ, ap, subst, sym}
use Rattle.ksm_shared.specs.Locked.{Locked}
use Rattle.ksm_shared.specs.Seen.{CallersFit}
use Rattle.ksm_shared.proofs.Gathering.{still_gathered}
use Rattle.ksm_shared.proofs.merge.Merge.is_gathered.Goals as goal

pub returns-clause-log : goal.returns-clause-log
returns-clause-log g c =
    let i = c.self.invariant in
    let all = c.tally.invariant.1 in
    let log = c.self.inside.seat.me.0.log in
    let cs = c.tally.inside.seat.me.0.callers in
    let knows = c.rejoin.ensures.knows in
    let fits = subst (λ (n : ℕ). CallersFit log n cs) (ap (λ m. m.0.shares) i.seat) knows.callers in
    sym c.tally.view_is ∙ still_gathered g.N.Naming.parts.callers log cs fits knows.once i.owners all.enough all.gathered ∙ ap (λ (l : Locked). l.log) c.self.view_is
