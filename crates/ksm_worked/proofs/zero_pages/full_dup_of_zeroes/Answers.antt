-- Line by line: a search for it breaks off where pages have eight words.
use Rattle.std.proofs.Common.{refl}
use Rattle.ksm_worked.proofs.zero_pages.full_dup_of_zeroes.Goals as goal

pub returns : goal.returns
returns c =
    (tt, (tt, (tt, (tt, (refl, (refl, (refl, (tt, (refl, (refl, (refl, tt)))))))))))
