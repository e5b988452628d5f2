-- Line by line: a search for it breaks off where pages have eight words.
use Rattle.std.proofs.Common.{refl}
use Rattle.ksm_worked.proofs.flags.move_keeps_both_flags.Goals as goal

pub returns : goal.returns
returns c =
    (tt, (tt, (tt, (refl, (refl, (tt, (refl, (tt, (refl, (refl, (tt, (refl, (tt, (refl, (refl, (tt, (refl, tt)))))))))))))))))
