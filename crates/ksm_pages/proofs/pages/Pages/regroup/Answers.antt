use Rattle.ksm_pages.proofs.Names.{[], ap, AreAlone, arith, dup_rows, lodgings_of, rows_of, subst, sym, ◌∙◌, ◌≡◌}
use Rattle.ksm_pages.proofs.Leaving.{of_dup}
use Rattle.ksm_pages.proofs.Turning.{Tuned, tuned_by}
use Rattle.ksm_pages.proofs.Visiting.{waiters_lonely}
use Rattle.ksm_pages.proofs.pages.Pages.regroup.Goals as goal
use Rattle.ksm_pages.proofs.pages.Pages.regroup.Goals.{After-are_lawful}

came : (c : After-are_lawful) → Tuned c.self.inside c.args.knobs c.regroup.new.self
came c =
    let s = c.self.inside in
    let turned = c.regroup.ensures.set c.if-not-regroup.false in
    let held : c.regroup.new.self.held ≡ s.rows.held = λ i. (turned i).held in
    let none : dup_rows s.dups.dups ≡ [] = (λ i. (c.self.view_is i).dups) ∙ c.requires in
    tuned_by s c.self.invariant c.args.knobs (grind arith) c.regroup.new.self (ap rows_of held) (ap (lodgings_of (of_dup s)) held)
    (λ i. (turned i).by_node)
    (subst (AreAlone c.args.knobs c.regroup.new.self.held) (sym none) (λ k d lt _ j e below. absurd (omega arith)))

pub invariant_of-self : goal.invariant_of-self
invariant_of-self c = rw (c.regroup.ensures.kept c.if-not-regroup.true) c.self.invariant

pub invariant_of-self-2 : goal.invariant_of-self-2
invariant_of-self-2 c = rw c.set_limit.ensures (came (goal.at.invariant_of-self-2 c).After-are_lawful).0

pub returns-clause-set : goal.returns-clause-set
returns-clause-set c _ = rw (c.set_limit.ensures, ← c.self.view_is) (came (goal.at.returns-clause-set c).After-are_lawful).1

pub returns-clause-alone : goal.returns-clause-alone
returns-clause-alone c _ =
    waiters_lonely c.args.knobs c.regroup.new.self c.are_lawful.ensures.rise (came (goal.at.returns-clause-alone c).After-are_lawful).0.by_node
    c.are_lawful.ensures.led c.are_lawful.ensures.found
