use Rattle.ksm_book.proofs.Names.{arith, MayMove, refl, seen, state_of}
use Rattle.ksm_book.proofs.Carried.{place_is}
use Rattle.ksm_book.proofs.Singles.{carried_so, remount_carried}
use Rattle.ksm_book.proofs.state.State.move_dup.Goals as goal
use Rattle.ksm_book.proofs.state.State.move_dup.Goals.{Joined-else-knobs-eq0}

may : (c : Joined-else-knobs-eq0) → MayMove (seen c.self.inside.pages) c.self.inside.keeper c.in-Some.dup c.args.node
may c =
    let s = c.self.inside in
    record {
      laid = c.self.invariant.1;
      sound = grind arith;
      live = grind (arith, place_is (state_of (seen s.pages) s.cursor s.passes) _ _ c.in-Some.ensures);
      exists = grind arith;
      home = grind arith;
    }

pub remount-requires-clause-may : goal.remount-requires-clause-may
remount-requires-clause-may c = grind (arith, may)

pub returns : goal.returns
returns c =
    let there = may ((goal.at.returns c).Joined-else-knobs-eq0) in
    carried_so c.self.view_is refl (remount_carried c.in-Some.ensures there _ c.remount.ensures)
