use Rattle.std.proofs.Common.{◌≡◌, List, take, sym, subst}
use Rattle.ksm_base.specs.declared.shape.Shape.{Shape}
use Rattle.ksm_base.specs.Values.{IsShape}
use Rattle.ksm_base.specs.State.{BookState, opening}
use Rattle.ksm_base.specs.Counting.{counters_of, mergeable_count, pages_told}
use Rattle.ksm_base.specs.Journal.{Entry, AreAnswers, replay}
use Rattle.ksm_base.proofs.SoundSteps.{sound_opening, sound_replay}
use Rattle.ksm_base.proofs.Replays.{answers_take}
use Rattle.ksm_base.proofs.Sums.{told_sound}
use Rattle.ksm_base.proofs.laws.the_counters_of_pages_add_up.Goals as goal

abbrev AddUp : BookState → Type 0
AddUp b = pages_told (counters_of b) ≡ mergeable_count b.rows

add_up : (shape : Shape) (journal : List Entry) → IsShape shape → AreAnswers (opening shape) journal
    → AddUp (replay (opening shape) journal)
add_up shape journal small answers =
    told_sound (replay (opening shape) journal) (sound_replay (opening shape) journal answers (sound_opening shape small))

pub returns-clause-state : goal.returns-clause-state
returns-clause-state c =
    λ shape journal b small legal. subst AddUp (sym legal.leads) (add_up shape journal small legal.answers)

pub returns-clause-published : goal.returns-clause-published
returns-clause-published c = λ shape journal n small answers.
    add_up shape (take n journal) small (answers_take (opening shape) journal n answers)
