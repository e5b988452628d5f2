use Rattle.ksm_book.proofs.Names.{ap, seen, view_of}
use Rattle.ksm_book.proofs.RowVisits.{Leads, may_empty, meets, zero_leads}
use Rattle.ksm_book.proofs.state.State.become_zero.Goals as goal

pub release_if-requires-clause-may : goal.release_if-requires-clause-may
release_if-requires-clause-may c =
    may_empty (meets c.self.invariant (ap view_of c.self.view_is) c.requires.found) c.become_zero-lone.ensures.left

zeroed : (c : goal.After-release_if)
    → Leads (view_of c.args.self.now) (seen c.become_zero-lone.new.self) c.release_if.new.keeper c.self.inside.cursor c.self.inside.passes
    c.args.spot.page
zeroed c =
    zero_leads (meets c.self.invariant (ap view_of c.self.view_is) c.requires.found)
    _ c.become_zero-lone.ensures.left c.release_if.ensures c.become_zero-lone.ensures.zero

pub returns-clause-visited : goal.returns-clause-visited
returns-clause-visited c = (zeroed c).visits

pub invariant_of-self : goal.invariant_of-self
invariant_of-self c = (zeroed c).lawful
