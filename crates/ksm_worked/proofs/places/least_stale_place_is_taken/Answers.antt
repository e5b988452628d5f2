-- Line by line: a search for it breaks off where pages have eight words.
use Rattle.std.proofs.Common.{refl}
use Rattle.ksm_worked.proofs.places.least_stale_place_is_taken.Goals as goal

pub returns : goal.returns
returns c =
    (tt, (tt, (refl, (refl, (tt, (tt, (refl, (refl, (tt, (tt, (refl, (tt, (tt, (refl, (tt, (tt, (refl, (refl, (tt, (tt, (refl, (refl, (refl, (refl, tt))))))))))))))))))))))))
