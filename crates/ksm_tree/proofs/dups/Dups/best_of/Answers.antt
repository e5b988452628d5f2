use Rattle.ksm_tree.proofs.Names.{[], ap, arith, content_of, found_at, nil_from_length, option_map, sym, true, ◌∙◌}
use Rattle.ksm_tree.proofs.Chained.{group_found, group_here}
use Rattle.ksm_tree.proofs.Joining.{none_live, walk_best}
use Rattle.ksm_tree.proofs.Standing.{not_unused}
use Rattle.ksm_tree.proofs.dups.Dups.best_of.Goals as goal

pub returns-then-is_empty-clause-best : goal.returns-then-is_empty-clause-best
returns-then-is_empty-clause-best c = rw (← c.self.view_is) (λ tree bytes is.
    let empty = sym (nil_from_length c.as_slice-chain.result.now (grind (arith, c.if-is_empty.ensures))) in
    let none = empty ∙ c.as_slice-chain.ensures ∙ group_here c.self.invariant _ c.in_ok-found.ensures tree bytes is in
    ap (option_map found_at) (walk_best _ _ _ _ [] true none c.self.invariant.lawful.in_place_order))

pub returns-then-count_live-eq0-clause-best : goal.returns-then-count_live-eq0-clause-best
returns-then-count_live-eq0-clause-best c = grind (arith, none_live)

pub best_in-requires : goal.best_in-requires
best_in-requires c =
    rw (← c.self.view_is) (c.as_slice-chain.ensures ∙ group_found c.self.invariant _ c.in_ok-found.ensures)

pub returns-clause-best : goal.returns-clause-best
returns-clause-best c = rw (← c.self.view_is)
    (λ tree bytes is. grind (arith, c.best_in.ensures, c.self.inside.groups.lawful (content_of tree bytes) c.args.group, c.in_ok-found.ensures))

pub returns-clause-none : goal.returns-clause-none
returns-clause-none c = rw (← c.self.view_is)
    (λ unused. absurd (not_unused c.self.inside.groups _ c.in_ok-found.ensures unused))
