use Rattle.ksm_pages.proofs.Names.{arith, find_all, Held, holds, is_some, not, shared_state, tied_absent, ◌≡◌}
use Rattle.ksm_pages.proofs.Joined.{joins, own_not_merged, room_found, told_joined}
use Rattle.ksm_pages.proofs.Leaving.{row_there}
use Rattle.ksm_pages.proofs.Turning.{is_own, own_frame, own_left}
use Rattle.ksm_pages.proofs.pages.Pages.join.Goals as goal

pub join_at-requires-clause-known : goal.join_at-requires-clause-known
join_at-requires-clause-known c = (room_found c.self.inside c.self.invariant c.self.view_is c.requires.room).0

pub join_at-requires-clause-fewer : goal.join_at-requires-clause-fewer
join_at-requires-clause-fewer c = (room_found c.self.inside c.self.invariant c.self.view_is c.requires.room).1

pub join_at-requires-clause-absent : goal.join_at-requires-clause-absent
join_at-requires-clause-absent c =
    let s = c.self.inside in
    let own = own_left {s = c.self.inside} c.self.invariant c.self.view_is c.requires.alone in
    tied_absent _ _ _ c.self.invariant.order (row_there s c.self.invariant _ own.found) _ _
    (own_not_merged _ (is_own own c.requires.alone)) c.self.invariant.tied

pub unreachable-requires : goal.unreachable-requires
unreachable-requires c =
    let own = own_left {s = c.self.inside} c.self.invariant c.self.view_is c.requires.alone in
    let framed = find_all (holds c.args.spot.page) (λ (h : Held). is_some h.frame ≡ not (shared_state h.row.state)) _ _ own.found c.are_lawful.ensures.framed in
    grind (arith, own.found, framed, is_own own c.requires.alone, c.in_default.ensures.left)

pub invariant_of-self-2 : goal.invariant_of-self-2
invariant_of-self-2 c =
    let own = own_left {s = c.self.inside} c.self.invariant c.self.view_is c.requires.alone in
    (joins c.self.inside c.self.invariant _ own.found (is_own own c.requires.alone) _
    c.in_ok-place.ensures.joined c.in-Some.ensures.merged c.self.view_is).lawful

pub returns : goal.returns
returns c =
    let s = c.self.inside in
    let own = own_left {s = c.self.inside} c.self.invariant c.self.view_is c.requires.alone in
    let told = told_joined s c.self.invariant _ own.found (is_own own c.requires.alone) _ c.in_ok-place.ensures.joined c.in-Some.ensures.merged c.self.view_is in
    grind (arith, told, own_frame own c.requires.alone, c.in-Some.ensures.left)
