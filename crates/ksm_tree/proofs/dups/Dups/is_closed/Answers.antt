use Rattle.ksm_tree.proofs.Names.{AllPass-from_list_all, arith, get_or, is_open, not, sym, true, ◌∙◌}
use Rattle.ksm_tree.proofs.Chained.{group_found, group_here}
use Rattle.ksm_tree.proofs.Joining.{candidates_within, closed_best}
use Rattle.ksm_tree.proofs.dups.Dups.is_closed.Goals as goal

pub none_open-requires : goal.none_open-requires
none_open-requires c k d within =
    let chain = c.as_slice-chain.ensures ∙ group_found c.self.invariant _ c.in-Some.ensures in
    let below = candidates_within _ _ c.args.limit c.self.inside.slots.dups _ true chain _ c.self.invariant.lawful.places_below k d within in
    omega (arith, c.counts.ensures.places)

pub returns-then-chain-le-SHORT_CHAIN : goal.returns-then-chain-le-SHORT_CHAIN
returns-then-chain-le-SHORT_CHAIN c closed = rw (← c.self.view_is) (λ t b is.
    let s = c.self.inside in
    let counts = c.counts.result.now in
    let places = c.as_slice-chain.result.now in
    let chain = c.as_slice-chain.ensures ∙ group_here c.self.invariant _ c.in-Some.ensures t b is in
    let each = AllPass-from_list_all (λ p. not (is_open c.args.limit (get_or counts p 0))) places
    (sym c.none_open.ensures ∙ closed) in
    closed_best t b c.args.limit s.slots.dups c.self.invariant.lawful.in_place_order chain
    (λ k d lt. grind (arith, c.counts.ensures.each (get_or places k d))))
