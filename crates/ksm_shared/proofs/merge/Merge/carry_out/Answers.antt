use Rattle.std.proofs.Common.{◌≡◌, ◌∙◌, ◌++◌, ◌<◌, ℕ, ap, subst, sym}
use Rattle.ksm_shared.specs.declared.seen.Caller.{Caller}
use Rattle.ksm_shared.specs.Seen.{entries, first}
use Rattle.ksm_shared.specs.Locked.{SeesOn, made_by}
use Rattle.ksm_shared.proofs.Extended.{answers_seen, book_seat_is, follows_book, follows_on, leads_seen, new_journal, new_log, new_owners, part_grows, sees_on, shown_all, steps_alone}
use Rattle.ksm_shared.proofs.merge.Merge.carry_out.Given.{Over}
use Rattle.ksm_shared.proofs.merge.Merge.carry_out.Goals as goal

module _ (g : Over) (c : goal.After-follow g) where
  abbrev number : ℕ
  number = (first c.share.inside.seat.me.0.callers).number

  log : c.write.new.book.me.0.log ≡ c.self.inside.seat.me.0.log ++ made_by number c.args.command.now c.apply-result.result
  log = new_log _ c.share.inside.seat.me _ _ _ c.args.command.now c.apply-result.result c.share.invariant.1 c.said-said.ensures c.write.ensures.wrote

  count : c.self.inside.seat.me.0.shares ≡ g.N.Naming.parts.callers
  count = ap (λ m. m.0.shares) c.self.invariant.seat

  below : number < g.N.Naming.parts.callers
  below = subst (λ (n : ℕ). number < n) count c.write.ensures.wrote.number

  follows : c.follow.new.self ≡ entries c.write.new.book.me.0.log
  follows = follows_on _ _ _ _ number _ _ _ log c.said-said.ensures c.self.invariant.shown c.follow.ensures

pub follow-requires-clause-legal : goal.follow-requires-clause-legal
follow-requires-clause-legal g c =
    let i = c.self.invariant in
    let a = c.apply-result in
    let next = follows_book _ _ _ _ _ _ (i.shown ∙ sym i.journal) a.ensures.journal c.said-said.ensures in
    answers_seen g.N.Naming.parts a.new.self _ (a.ensures.carried.own ∙ i.own) next c.lies_lawfully.ensures.legal

pub follow-requires-clause-leads : goal.follow-requires-clause-leads
follow-requires-clause-leads g c =
    let i = c.self.invariant in
    let a = c.apply-result in
    let next = follows_book _ _ _ _ _ _ (i.shown ∙ sym i.journal) a.ensures.journal c.said-said.ensures in
    leads_seen g.N.Naming.parts a.new.self _ (a.ensures.carried.own ∙ i.own) next c.lies_lawfully.ensures.legal

pub follow-requires-clause-whole : goal.follow-requires-clause-whole
follow-requires-clause-whole g c =
    let i = c.self.invariant in
    follows_book _ _ _ _ _ _ (i.shown ∙ sym i.journal) c.apply-result.ensures.journal c.said-said.ensures

pub returns-clause-published : goal.returns-clause-published
returns-clause-published g c = follows g c

pub invariant_of-self : goal.invariant_of-self
invariant_of-self g c =
    let i = c.self.invariant in
    let w = c.write.ensures in
    record {
      own = c.apply-result.ensures.carried.own ∙ i.own;
      journal = new_journal _ _ _ _ _ _ _ i.journal c.apply-result.ensures.journal (log g c);
      kept = c.apply-result.ensures.kept ∙ i.kept;
      seen = i.seen;
      word = i.word;
      seated = w.table.0 ∙ i.seen;
      seat = book_seat_is _ _ _ c.write.new.book.me _ _ w.book w.wrote (count g c);
      owners = new_owners _ _ _ (number g c) _ _ (below g c) i.owners (log g c);
      callers = i.callers;
      shown = follows g c;
    }

pub returns-clause-seen : goal.returns-clause-seen
returns-clause-seen g c =
    let w = c.write.ensures in
    let now = invariant_of-self g c in
    let legal = answers_seen g.N.Naming.parts c.apply-result.new.self _ now.own now.journal c.lies_lawfully.ensures.legal in
    subst (λ (o : Caller). SeesOn g.N.Naming.parts o (first c.write.new.share.me.0.callers) (made_by o.number c.args.command.now c.apply-result.result)) c.share.view_is
    (sees_on g.N.Naming.parts (first c.share.inside.seat.me.0.callers) _ _ _ _ (log g c) (shown_all _ _ _ _ _ w.wrote) w.wrote.begins (below g c) now.owners legal)

pub returns-clause-part : goal.returns-clause-part
returns-clause-part g c = part_grows _ _ _ _ _ (returns-clause-seen g c)

pub returns-clause-alone : goal.returns-clause-alone
returns-clause-alone g c =
    let law = c.a_journal_goes_on.ensures in
    steps_alone law.state (λ b earlier later. (law.answers b earlier later).0) _ _ _ _ _ (returns-clause-seen g c)
