-- The passes of a table that are not out, as a list.
use Rattle.std.proofs.Common.{◌≡◌, ◌∙◌, ℕ, zero, suc, ◌+◌, List, [], ◌∷◌, ◌++◌, length, map, replicate, refl, ap, sym, append_assoc, length-append}
use Rattle.std.proofs.lemmas.List.{length-map}
use Rattle.frame_table.specs.Named.{PassView}
use Rattle.ksm_ffi.specs.declared.reader.Phase.{Phase}
use Rattle.ksm_ffi.specs.declared.reader.Phase.TheVariants.{Idle}
use Rattle.ksm_ffi.specs.Homes.{waiting}

-- how many are not out
pub length_waiting : (passes : List PassView) (returned : List Phase) → length (waiting passes returned) ≡ length passes + length returned
length_waiting passes returned =
    length-append (map (λ p. Idle p) passes) returned ∙ ap (λ n. n + length returned) (length-map passes (λ p. Idle p))

-- where none was out yet, each is as it was made
pub waiting_all : (n : ℕ) (p : PassView) → waiting (replicate n p) [] ≡ replicate n (Idle p)
waiting_all zero p = refl
waiting_all (suc n) p = ap (λ (l : List Phase). Idle p ∷ l) (waiting_all n p)

-- one that came back is the last of them
pub waiting_back : (passes : List PassView) (returned : List Phase) (v : Phase) → waiting passes (returned ++ v ∷ []) ≡ waiting passes returned ++ v ∷ []
waiting_back passes returned v = sym (append_assoc (map (λ p. Idle p) passes) returned (v ∷ []))

-- where none came back, the last is one that never was out
pub waiting_new : (passes : List PassView) (returned : List Phase) (p : PassView) → length returned ≡ 0 → waiting (passes ++ p ∷ []) returned ≡ waiting passes returned ++ Idle p ∷ []
waiting_new [] [] p none = refl
waiting_new (q ∷ passes) [] p none = ap (λ (l : List Phase). Idle q ∷ l) (waiting_new passes [] p none)
waiting_new passes (v ∷ returned) p none = absurd (cc none)

-- where none is left, none is not out
pub waiting_none : (passes : List PassView) (returned : List Phase) → length passes ≡ 0 → length returned ≡ 0 → waiting passes returned ≡ []
waiting_none [] [] none gone = refl
waiting_none [] (v ∷ returned) none gone = absurd (cc gone)
waiting_none (p ∷ passes) returned none gone = absurd (cc none)

-- what is said of the passes that are not out
pub ruleset as_waiting = (length_waiting, waiting_all, waiting_back, waiting_new, waiting_none)
