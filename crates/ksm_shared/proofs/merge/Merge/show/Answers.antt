use Rattle.std.proofs.Common.{◌∙◌, ◌<◌, [], ℕ, List, ap, subst, sym}
use Rattle.std.proofs.lemmas.List.{append-nil}
use Rattle.ksm_shared.specs.declared.seen.Caller.{Caller}
use Rattle.ksm_shared.specs.declared.seen.Owned.{Owned}
use Rattle.ksm_shared.specs.Seen.{OwnersBelow, entries, first}
use Rattle.ksm_shared.specs.Locked.{SeesOn}
use Rattle.ksm_shared.proofs.Extended.{answers_seen, part_stays, same_log, sees_on, shown_all, shows_nothing}
use Rattle.ksm_shared.proofs.merge.Merge.show.Goals as goal

pub returns-clause-shown : goal.returns-clause-shown
returns-clause-shown g c =
    let i = c.self.invariant in
    let w = c.look.ensures in
    let number = (first c.share.inside.seat.me.0.callers).number in
    let same = same_log _ c.share.inside.seat.me _ _ c.share.invariant.1 w.wrote in
    let below = subst (λ (n : ℕ). number < n) (ap (λ m. m.0.shares) i.seat) w.wrote.number in
    let owners = subst (λ (l : List Owned). OwnersBelow g.N.Naming.parts.callers l) (sym same) i.owners in
    let legal = answers_seen g.N.Naming.parts c.self.inside.book _ i.own (i.journal ∙ ap entries (sym same)) c.lies_lawfully.ensures.legal in
    let seen : SeesOn g.N.Naming.parts c.args.share.now _ [] =
    subst (λ (o : Caller). SeesOn g.N.Naming.parts o (first c.look.new.share.me.0.callers) []) c.share.view_is
    (sees_on g.N.Naming.parts (first c.share.inside.seat.me.0.callers) _ _ _ [] (same ∙ sym (append-nil _)) (shown_all _ _ _ _ _ w.wrote) w.wrote.begins below owners legal) in
    record { seen = seen; part = part_stays _ _ _ seen; alone = shows_nothing _ _ _ seen }
