use Rattle.std.proofs.Common.{◌≡◌, ℕ, List, [], ◌∷◌, replicate, None, refl}
use Rattle.frame_core.proofs.Names.{PAGE_WORDS, aim_at}
use Rattle.frame_core.proofs.worked.a_held_frame_that_is_given_or_written.Goals as goal

pub returns-clause-raised : goal.returns-clause-raised
returns-clause-raised c = λ h. let held : ◌≡◌ {A = List ℕ} (0 ∷ []) [] = h.0 in cc (held)

pub returns-clause-opened : goal.returns-clause-opened
returns-clause-opened c = λ h. let held : ◌≡◌ {A = List ℕ} (0 ∷ []) [] = h.0 in cc (held)

pub returns-clause-written : goal.returns-clause-written
returns-clause-written c = λ h. h.unwritten 0 0 0 0 (aim_at 0 0 1) (replicate PAGE_WORDS None) (λ e. cc (e)) refl refl
