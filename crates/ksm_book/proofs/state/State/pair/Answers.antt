use Rattle.ksm_book.proofs.Names.{ap, none-some, refl, seen, sym, view_of, ◌∙◌}
use Rattle.ksm_book.proofs.RowVisits.{Leads, made_by, may_add_to, may_publish, may_sub_from, may_withdraw, meets, pair_leads, pair_may, room, waits_one}
use Rattle.ksm_book.proofs.state.State.pair.Goals as goal

pub unreachable-requires : goal.unreachable-requires
unreachable-requires c =
    none-some _ (sym c.in_default.ensures ∙ waits_one (meets c.self.invariant (ap view_of c.self.view_is) c.requires.found) refl refl)

pub new_place-place-requires : goal.new_place-place-requires
new_place-place-requires c =
    record { room = room (meets c.self.invariant (ap view_of c.self.view_is) c.requires.found) refl refl }

pub pair-requires : goal.pair-requires
pair-requires c =
    let may = pair_may (meets c.self.invariant (ap view_of c.self.view_is) c.requires.found) c.in-Some.ensures.spot
    c.new_place-place.ensures in
    record { first = may }

pub clear-requires-clause-may : goal.clear-requires-clause-may
clear-requires-clause-may c =
    may_withdraw (meets c.self.invariant (ap view_of c.self.view_is) c.requires.found) c.in-Some.ensures.spot
    c.new_place-place.ensures

pub publish-requires-clause-may : goal.publish-requires-clause-may
publish-requires-clause-may c =
    may_publish (meets c.self.invariant (ap view_of c.self.view_is) c.requires.found) c.in-Some.ensures.spot
    c.new_place-place.ensures c.in_ok-frame.ensures.first c.has_dup-taken.ensures c.clear.ensures

pub add-requires-clause-may : goal.add-requires-clause-may
add-requires-clause-may c =
    may_add_to (meets c.self.invariant (ap view_of c.self.view_is) c.requires.found) c.in-Some.ensures.spot
    c.new_place-place.ensures c.in_ok-frame.ensures.first c.has_dup-taken.ensures c.clear.ensures c.publish.ensures

pub sub-requires-clause-may : goal.sub-requires-clause-may
sub-requires-clause-may c = rw c.in_ok-frame.ensures.second at
    (may_sub_from (meets c.self.invariant (ap view_of c.self.view_is) c.requires.found) c.in-Some.ensures.spot
    c.new_place-place.ensures c.in_ok-frame.ensures.first c.has_dup-taken.ensures c.clear.ensures c.publish.ensures
    _ (made_by c.add.ensures))

paired : (c : goal.After-sub)
    → Leads (view_of c.args.self.now) (seen c.pair.new.self) c.sub.new.self c.self.inside.cursor c.self.inside.passes c.args.spot.page
paired c =
    pair_leads (meets c.self.invariant (ap view_of c.self.view_is) c.requires.found) c.in-Some.ensures.spot
    c.new_place-place.ensures c.in_ok-frame.ensures.first c.has_dup-taken.ensures c.clear.ensures c.publish.ensures c.in_ok-frame.ensures.second (made_by c.add.ensures) (made_by c.sub.ensures)
    _ c.in_ok-frame.ensures.paired

pub invariant_of-self-2 : goal.invariant_of-self-2
invariant_of-self-2 c = (paired c).lawful

pub returns-clause-visited : goal.returns-clause-visited
returns-clause-visited c = (paired c).visits
