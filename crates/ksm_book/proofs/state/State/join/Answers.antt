use Rattle.ksm_book.proofs.Names.{ap, seen, view_of}
use Rattle.ksm_book.proofs.RowVisits.{has_room, joined_leads, Leads, made_by, may_add, may_sub, meets}
use Rattle.ksm_book.proofs.state.State.join.Goals as goal

pub join-requires-clause-room : goal.join-requires-clause-room
join-requires-clause-room c =
    has_room _ (meets c.self.invariant (ap view_of c.self.view_is) c.requires.found) _ c.dup_frame-frame.ensures

pub add-requires-clause-may : goal.add-requires-clause-may
add-requires-clause-may c =
    may_add _ (meets c.self.invariant (ap view_of c.self.view_is) c.requires.found) _ c.dup_frame-frame.ensures

pub sub-requires-clause-may : goal.sub-requires-clause-may
sub-requires-clause-may c = rw c.in_ok-lone.ensures.left at
    (may_sub _ (meets c.self.invariant (ap view_of c.self.view_is) c.requires.found)
    _ c.dup_frame-frame.ensures _ (made_by c.add.ensures))

joined : (c : goal.After-sub) → Leads (view_of c.args.self.now) (seen c.join.new.self) c.sub.new.self c.self.inside.cursor
    c.self.inside.passes c.args.spot.page
joined c =
    joined_leads _ (meets c.self.invariant (ap view_of c.self.view_is) c.requires.found)
    _ c.dup_frame-frame.ensures _ c.in_ok-lone.ensures.left (made_by c.add.ensures) (made_by c.sub.ensures)
    _ c.in_ok-lone.ensures.joined c.in_ok-lone.ensures.frame

pub returns-clause-visited : goal.returns-clause-visited
returns-clause-visited c = (joined c).visits

pub invariant_of-self-2 : goal.invariant_of-self-2
invariant_of-self-2 c = (joined c).lawful
