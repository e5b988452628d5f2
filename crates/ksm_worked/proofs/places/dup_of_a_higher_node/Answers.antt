-- Line by line: a search for it breaks off where pages have eight words.
use Rattle.std.proofs.Common.{refl}
use Rattle.ksm_worked.proofs.places.dup_of_a_higher_node.Goals as goal

pub returns : goal.returns
returns c =
    (tt, (tt, (tt, (refl, (refl, (refl, (refl, (tt, (tt, (refl, (refl, (tt, (tt, (refl, (refl, (refl, tt))))))))))))))))
