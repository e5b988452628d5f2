use Rattle.ksm_pages.proofs.Names.{arith}
use Rattle.ksm_pages.proofs.Turning.{known_left, parted}
use Rattle.ksm_pages.proofs.pages.Pages.remove.Goals as goal

pub invariant_of-self : goal.invariant_of-self
invariant_of-self c =
    (parted (known_left {s = c.self.inside} c.self.invariant c.self.view_is c.requires (c.leave.ensures c.self.inside.rows c.args.spot.page c.remove-was.ensures.before)) c.remove-was.ensures.gone).lawful

pub returns-clause-gone : goal.returns-clause-gone
returns-clause-gone c = grind (
  arith,
  (parted (known_left {s = c.self.inside} c.self.invariant c.self.view_is c.requires (c.leave.ensures c.self.inside.rows c.args.spot.page c.remove-was.ensures.before)) c.remove-was.ensures.gone).told_as,
)
