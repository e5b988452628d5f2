-- A comparison reads the words one after another.
use Rattle.std.proofs.Common.{◌≡◌, ℕ, ◌+◌, ◌<◌, List, [], ◌∷◌, ◌++◌, Option, Some, None, get_or, set, sym, refl, ap, ◌∙◌, subst, arith, append-nil, append_assoc, get_or-set_other}
use mathlib.Core.Logic.{dite}
use native.Mathlib.Decide.{ℕ_discrete}
use Rattle.frame_core.specs.declared.event.ReaderStep.TheVariants.{LoadWord}
use Rattle.frame_table.proofs.Names.{HeldView, ReaderLog, ReadsWord, SameHold, IsRead, word_steps, known_after}

steps_more : (xs : List (ℕ × ℕ)) (i word : ℕ) → word_steps (xs ++ (i, word) ∷ []) ≡ word_steps xs ++ (LoadWord i, word) ∷ []
steps_more [] i word = refl
steps_more (x ∷ xs) i word = ap (λ (l : ReaderLog). (LoadWord x.0, x.1) ∷ l) (steps_more xs i word)

known_more : (known : List (Option ℕ)) (xs : List (ℕ × ℕ)) (i word : ℕ) → known_after known (xs ++ (i, word) ∷ []) ≡ set (known_after known xs) i (Some word)
known_more known [] i word = refl
known_more known (x ∷ xs) i word = known_more (set known x.0 (Some x.1)) xs i word

-- a hold is the same hold as itself
pub same_hold : (v : HeldView) → SameHold v v
same_hold v = ([], let e : v.log ++ [] ≡ v.log = append-nil v.log in λ i. let z : HeldView = record v { log = sym e i } in z)

-- a hold that reads one word more is still the same hold
pub reads_more : (v w x : HeldView) (i word : ℕ) → SameHold v w → ReadsWord w i word x → SameHold v x
reads_more v w x i word h r =
    let xs = h.0 in
    let read = λ (z : HeldView). let next : HeldView = record z { log = z.log ++ (LoadWord i, word) ∷ []; known = set z.known i (Some word) } in next in
    let log : (v.log ++ word_steps xs) ++ (LoadWord i, word) ∷ [] ≡ v.log ++ word_steps (xs ++ (i, word) ∷ []) = append_assoc v.log (word_steps xs) _ ∙ ap (λ (l : ReaderLog). v.log ++ l) (sym (steps_more xs i word)) in
    let known : set (known_after v.known xs) i (Some word) ≡ known_after v.known (xs ++ (i, word) ∷ []) = sym (known_more v.known xs i word) in
    (xs ++ (i, word) ∷ [], r.0 ∙ (ap read h.1 ∙ λ j. let z : HeldView = record v { log = log j; known = known j } in z))

-- a word that was read stays read, as one more is
pub still_read : (page : List ℕ) (w x : HeldView) (i word : ℕ) → ReadsWord w i word x → word ≡ get_or page i 0 → ((k : ℕ) → k < i → IsRead w k (get_or page k 0)) → (k : ℕ) → k < i + 1 → IsRead x k (get_or page k 0)
still_read page w x i word r same before k below = dite (ℕ_discrete k i)
    (λ here. subst (λ (j : ℕ). IsRead x j (get_or page j 0)) (sym here) (r.2 ∙ ap Some same))
    (λ else. ap (λ (z : HeldView). get_or z.known k None) r.0 ∙ (get_or-set_other w.known i k (Some word) None else ∙ before k (omega arith)))
