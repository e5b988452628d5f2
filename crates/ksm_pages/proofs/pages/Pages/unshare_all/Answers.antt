use Rattle.ksm_pages.proofs.Names.{ap, arith, false, map, map_alike, on_row, refl, Row, seen, settled, ◌∙◌}
use Rattle.ksm_pages.proofs.Changing.{settled_again}
use Rattle.ksm_pages.proofs.Turning.{Comes, held_as, still}
use Rattle.ksm_pages.proofs.pages.Pages.unshare_all.Goals as goal

abbrev at_rest : Row → Row
at_rest r = record (settled r) { unchanged = false }

came : (c : goal.After-unshare_all) → Comes c.self.inside c.unshare_all.new.self c.self.inside.dups (record (seen c.args.self.now) {
  rows = map at_rest c.args.self.now.rows;
})
came c =
    still c.self.inside c.self.invariant c.self.view_is (on_row at_rest) at_rest (λ x. refl) (λ x. refl) (λ r. refl)
    (λ r. settled_again r.state) (λ x lone. lone) c.unshare_all.new.self (held_as c.unshare_all.ensures)

pub invariant_of-self : goal.invariant_of-self
invariant_of-self c = (came c).lawful

pub returns : goal.returns
returns c = (came c).told_as ∙ ap (λ rows. record (seen c.args.self.now) { rows = rows }) (grind (arith, map_alike))
