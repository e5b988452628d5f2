use Rattle.ksm_pages.proofs.Names.{All, arith, false, PagesValue, subst, sym, waiting_state, ◌≡◌, ◌⊎◌}
use Rattle.ksm_pages.proofs.Turning.{tuned, Tuned}
use Rattle.ksm_pages.proofs.pages.Pages.set_knobs.Goals as goal
use Rattle.ksm_pages.proofs.pages.Pages.set_knobs.Goals.{After-set_by_node}

came : (c : After-set_by_node) → Tuned c.self.inside c.args.knobs c.set_by_node.new.self
came c =
    tuned c.self.inside c.self.invariant c.args.knobs (grind arith) c.set_by_node.new.self c.set_by_node.ensures
    (subst (λ (v : PagesValue). (c.args.knobs.merge_across_nodes ≡ v.knobs.merge_across_nodes)
    ⊎ All (λ r. waiting_state r.state ≡ false) v.rows) (sym c.self.view_is) c.requires)

pub invariant_of-self : goal.invariant_of-self
invariant_of-self c = rw c.set_limit.ensures (came (goal.at.invariant_of-self c).After-set_by_node).0

pub returns : goal.returns
returns c = rw (c.set_limit.ensures, ← c.self.view_is) (came (goal.at.returns c).After-set_by_node).1
