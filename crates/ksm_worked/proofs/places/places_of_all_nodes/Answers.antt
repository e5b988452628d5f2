-- Line by line: a search for it breaks off where pages have eight words.
use Rattle.std.proofs.Common.{refl}
use Rattle.ksm_worked.proofs.places.places_of_all_nodes.Goals as goal

pub returns : goal.returns
returns c =
    (tt, (tt, (refl, (refl, (tt, (tt, (refl, (tt, (tt, (refl, (refl, tt)))))))))))
