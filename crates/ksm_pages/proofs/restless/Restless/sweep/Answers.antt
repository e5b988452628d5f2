use Rattle.ksm_pages.proofs.Names.{All-filter, AllPairs-filter, filter, filter_same, has_item, Listed, pages_of, rules, ◌<◌, ◌^◌, ◌∙◌, ◌≡◌}
use Rattle.ksm_pages.proofs.Spots.{stays, swept_beside, Up}
use Rattle.ksm_pages.proofs.restless.Restless.sweep.Goals as goal

left : (c : goal.After-self-1) → c.retain.new.self.items ≡ filter (stays c.args.entries.now c.args.order.now) c.self.inside.listed.items
left c = filter_same _ _ _ (λ s b g t. search rules) _ _ c.retain.ensures.filtered

pub invariant_of-self : goal.invariant_of-self
invariant_of-self c =
    let kept = stays c.args.entries.now c.args.order.now in (
      rw (left c) (AllPairs-filter Up kept _ c.self.invariant.0),
      rw (left c) (All-filter kept (λ (l : Listed). l.page < 2 ^ 48) _ c.self.invariant.1),
      c.self.invariant.2,
      c.self.invariant.3,
    )

pub returns-then-self-len-clause-kept : goal.returns-then-self-len-clause-kept
returns-then-self-len-clause-kept c page has gone =
    swept_beside c.args.entries.now c.args.order.now c.self.inside.listed.items c.self.invariant.1 (pages_of c.self.inside.added.items) page
    ((λ i. has_item page (c.self.view_is i).pages) ∙ has) (rw (left c) at gone)
