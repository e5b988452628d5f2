use Rattle.ksm_book.proofs.Names.{arith, Done, Err, NoFrame, Ok, refl, Register, seen}
use Rattle.ksm_book.proofs.Singles.{carried_so, Does, come_found, HasCome, register_come, register_turned, lawful}
use Rattle.ksm_book.proofs.state.State.register.Goals as goal
use Rattle.ksm_book.proofs.state.State.register.Goals.{In_ok-spot}

new : (c : In_ok-spot) → HasCome (seen c.self.inside.pages) (seen c.insert.new.self) c.args.page c.args.node c.args.bytes.now
new c = grind arith

pub remove-requires : goal.remove-requires
remove-requires c = rw (c.in_ok-spot.ensures.spot, come_found (new ((goal.at.remove-requires c).In_ok-spot))) refl

turned : (c : goal.After-remove) → Does c.self.inside (seen c.remove.new.self)
    c.take_frame.new.keeper (Register c.args.page c.args.node c.args.bytes.now) (Err (NoFrame c.args.node))
turned c =
    register_turned {m = seen c.insert.new.self} (grind arith) c.self.invariant.1 c.in_ok-spot.ensures.nowhere
    (rw (← c.in_ok-spot.ensures.spot) c.remove.ensures.gone) c.in_default.ensures.provides

pub returns-in_default : goal.returns-in_default
returns-in_default c = carried_so c.self.view_is refl (turned c).0

pub invariant_of-self-in_default : goal.invariant_of-self-in_default
invariant_of-self-in_default c = lawful c.self.invariant.0 (turned c)

pub lay-requires : goal.lay-requires
lay-requires c = rw (c.in_ok-spot.ensures.spot, come_found (new ((goal.at.lay-requires c).In_ok-spot))) refl

come : (c : goal.After-lay) → Does c.self.inside (seen c.lay.new.self)
    c.take_frame.new.keeper (Register c.args.page c.args.node c.args.bytes.now) (Ok Done)
come c =
    register_come {m = seen c.insert.new.self} (grind arith) c.self.invariant.1
    (rw (← c.in_ok-spot.ensures.spot) c.lay.ensures) c.in-Some.ensures.provides c.in-Some.ensures.took

pub returns : goal.returns
returns c = carried_so c.self.view_is refl (come c).0

pub invariant_of-self-2 : goal.invariant_of-self-2
invariant_of-self-2 c = lawful c.self.invariant.0 (come c)
