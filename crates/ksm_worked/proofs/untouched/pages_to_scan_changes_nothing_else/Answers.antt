-- Line by line: a search for it breaks off where pages have eight words.
use Rattle.std.proofs.Common.{refl}
use Rattle.ksm_worked.proofs.untouched.pages_to_scan_changes_nothing_else.Goals as goal

pub returns : goal.returns
returns c =
    (tt, (tt, (tt, (tt, (tt, (tt, (tt, (tt, (refl, (refl, (refl, (tt, (refl, (refl, (refl, (refl, (refl, (refl, (refl, (refl, (refl, (refl, tt))))))))))))))))))))))
