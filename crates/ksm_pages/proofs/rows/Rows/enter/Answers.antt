use Rattle.ksm_pages.proofs.Names.{ap, arith, in_tree_by, inr, is_some, refl, rules, Updates-with_value, waiting_in}
use Rattle.ksm_pages.proofs.Leading.{free_none}
use Rattle.ksm_pages.proofs.Writing.{can_be, kept_mark, of_page, row_there, still, viewed}
use Rattle.ksm_pages.proofs.rows.Rows.enter.Goals as goal

pub change-requires : goal.change-requires
change-requires c = search (rules, can_be c.self.inside c.self.invariant.0 c.in-Some.ensures.there)

pub lead_to-requires-clause-free : goal.lead_to-requires-clause-free
lead_to-requires-clause-free c d stood out =
    let s = c.self.inside in
    let are = c.self.invariant.0 in
    let under = c.in-Some.ensures.there in
    free_none s are c.in-Some.key d stood out
    (rw (of_page s are under stood) (rw (row_there s are under stood) at (rw (← c.self.view_is) at c.requires.free)))

pub invariant_of-self-2 : goal.invariant_of-self-2
invariant_of-self-2 c =
    let s = c.self.inside in
    let stood = c.index_mut-entry.ensures.value in (
      still s c.self.invariant.0 c.in-Some.ensures.there stood c.self.view_is _ (search (rules, kept_mark))
          (refl, λ _ own. grind arith) c.state_alone-old.ensures (grind (arith, row_there, c.in_tree_by-entry.ensures)) c.change.ensures (inr (refl, λ may. may)),
      c.in_ok-lead_to.ensures.leads c.index_mut-entry.result.now _ _ stood
          (Updates-with_value _ _ _ (ap is_some stood)) refl refl (grind (arith, c.in_tree_by-entry.ensures)),
    )

pub returns-clause-waits : goal.returns-clause-waits
returns-clause-waits c =
    viewed c.self.inside c.self.invariant.0 c.in-Some.ensures.there c.index_mut-entry.ensures.value c.self.view_is _ (search (rules, kept_mark))
    (refl, λ _ own. grind arith) (waiting_in (in_tree_by c.args.group)) (λ _. grind (arith, row_there, c.in_tree_by-entry.ensures))
