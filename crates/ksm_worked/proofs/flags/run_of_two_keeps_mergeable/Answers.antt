-- Line by line: a search for it breaks off where pages have eight words.
use Rattle.std.proofs.Common.{refl}
use Rattle.ksm_worked.proofs.flags.run_of_two_keeps_mergeable.Goals as goal

pub returns : goal.returns
returns c =
    (tt, (tt, (refl, (refl, (tt, (tt, (refl, (refl, (refl, (refl, (refl, (refl, (refl, (refl, (refl, (refl, (refl, (refl, tt))))))))))))))))))
