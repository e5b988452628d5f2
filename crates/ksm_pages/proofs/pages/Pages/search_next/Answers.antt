use Rattle.ksm_pages.proofs.Names.{arith, of_guest, Row, true, ◌≡◌}
use Rattle.ksm_pages.proofs.Paging.{next_none, next_past, next_told}
use Rattle.ksm_pages.proofs.pages.Pages.search_next.Goals as goal

pub returns-in_err-spot : goal.returns-in_err-spot
returns-in_err-spot c =
    next_none _ _ _ c.self.inside c.self.invariant c.self.view_is _ c.start_of.ensures.same c.in_err-spot.ensures c.from_residual.ensures

pub returns-in-Some : goal.returns-in-Some
returns-in-Some c =
    next_past _ _ _ c.self.inside c.self.invariant c.self.view_is _ c.start_of.ensures.same
    _ c.in_ok-spot.ensures c.in-Some.is c.if-spot-guest.true (grind arith)

pub returns-in_default : goal.returns-in_default
returns-in_default c =
    let own : (x : Row) → x.page ≡ c.in_ok-spot.spot.page → of_guest c.args.guest x ≡ true = grind arith in
    next_told _ _ _ c.self.inside c.self.invariant c.self.view_is _ c.start_of.ensures.same
    _ c.in_ok-spot.ensures own _ c.told.ensures
