-- Journals in two parts, one after the other.
use Rattle.std.proofs.Common.{◌≡◌, ℕ, List, [], ◌∷◌, ◌++◌, take, drop, take-append-drop, refl, sym, subst}
use Rattle.ksm_base.specs.State.{BookState}
use Rattle.ksm_base.specs.Apply.{after}
use Rattle.ksm_base.specs.Journal.{Entry, replay, AreAnswers}

-- a journal is replayed part by part
pub replay-append : (b : BookState) (first later : List Entry)
    → replay b (first ++ later) ≡ replay (replay b first) later
replay-append b [] later = refl
replay-append b (e ∷ first) later = replay-append (after b e.0 e.1) first later

-- the answers of a journal are those of its first part, and of its later part from there on
pub answers_first : (b : BookState) (first later : List Entry) → AreAnswers b (first ++ later) → AreAnswers b first
answers_first b [] later h = tt
answers_first b (e ∷ first) later h = (h.0, answers_first (after b e.0 e.1) first later h.1)

-- the later part of a journal has the answers of the state that the first part leads to
pub answers_later : (b : BookState) (first later : List Entry) → AreAnswers b (first ++ later)
    → AreAnswers (replay b first) later
answers_later b [] later h = h
answers_later b (e ∷ first) later h = answers_later (after b e.0 e.1) first later h.1

-- a journal's parts, each with its answers from where it begins, make one journal with its answers
pub answers_both : (b : BookState) (first later : List Entry) → AreAnswers b first → AreAnswers (replay b first) later
    → AreAnswers b (first ++ later)
answers_both b [] later h k = k
answers_both b (e ∷ first) later h k = (h.0, answers_both (after b e.0 e.1) first later h.1 k)

-- the first entries of a journal have the answers that they had
pub answers_take : (b : BookState) (journal : List Entry) (n : ℕ) → AreAnswers b journal → AreAnswers b (take n journal)
answers_take b journal n h =
    answers_first b (take n journal) (drop n journal) (subst (AreAnswers b) (sym (take-append-drop n journal)) h)
