-- Line by line: a search for it breaks off where pages have eight words.
use Rattle.std.proofs.Common.{refl}
use Rattle.ksm_worked.proofs.passes.new_dup_takes_two_pages_alone.Goals as goal

pub returns : goal.returns
returns c =
    (tt, (tt, (tt, (tt, (tt, (tt, (tt, (tt, (refl, (refl, (refl, (tt, (tt, (refl, (tt, (refl, (refl, (refl, (refl, (refl, (refl, (refl, (refl, (refl, (refl, (refl, (refl, (refl, tt))))))))))))))))))))))))))))
