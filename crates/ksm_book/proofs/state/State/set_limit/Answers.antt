use Rattle.ksm_book.proofs.Names.{arith, Done, inl, IsCarried, Ok, seen, SetLimit, view_of}
use Rattle.ksm_book.proofs.Laying.{retuned}
use Rattle.ksm_book.proofs.Singles.{book, lawful}
use Rattle.ksm_book.proofs.state.State.set_limit.Goals as goal

pub invariant_of-self : goal.invariant_of-self
invariant_of-self c =
    let s = c.self.inside in
    let there = c.drop_stale.ensures.pages in
    let did : IsCarried (view_of c.args.self.now) (book (seen c.set_knobs.new.self) c.drop_stale.new.keeper s.cursor s.passes)
    (SetLimit c.args.limit) (Ok Done) = grind arith in
    lawful {v = view_of c.args.self.now} (rw (← c.self.view_is) c.self.invariant.0) (
      did,
      rw c.set_knobs.ensures
          (retuned (inl (grind (arith, c.knobs-knobs.ensures, there))) c.drop_stale.ensures.laid),
    )
