use Rattle.ksm_pages.proofs.Names.{arith, bytes_eq-Decides, nat_tests, rules}
use Rattle.ksm_pages.proofs.Leading.{apart_more}
use Rattle.ksm_pages.proofs.unstable.are_apart.Goals as goal
use Rattle.ksm_pages.proofs.unstable.are_apart.Goals.{in-Some+else-is_some, in_default}

pub loop-at-preserved : goal.loop-at-preserved
loop-at-preserved c =
    apart_more c.args.entries.now c.args.keys.now c.loop-at.at (search rules) c.loop-at.invariant (λ bytes stands. elim c.match-led.branch [
      | in-Some+else-is_some w ↦
          let same = (bytes_eq-Decides w.in-Some.entry.now.bytes bytes).0 in
          grind (arith, nat_tests, w.in-Some.ensures, w.standing_in.ensures, w.is_some.ensures, w.if-is_some.false, same, stands)
      | in_default w ↦ grind (arith, w.in_default.ensures, stands)
    ])
