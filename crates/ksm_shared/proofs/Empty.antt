-- Shares that have seen nothing own no entry, so where each entry has an owner there is none.
use Rattle.std.proofs.Common.{◌≡◌, ◌<◌, ◌++◌, ◌==◌, ℕ, zero, suc, Bool, true, false, if◌then◌else◌, List, [], ◌∷◌, ◌∙◌, refl, ap, arith, eq-eqb}
use Rattle.std.proofs.lemmas.Bool.Decides.{nat_tests}
use Rattle.ksm_shared.specs.declared.seen.Owned.{Owned}
use Rattle.ksm_shared.specs.declared.seen.Caller.{Caller}
use Rattle.ksm_shared.specs.Seen.{CallersFit, OwnersBelow, caller, entries_by}
use Rattle.ksm_shared.specs.Locked.{fresh}

fit_apart : (log : List Owned) (count : ℕ) (cs ds : List Caller) → CallersFit log count (cs ++ ds) → CallersFit log count cs × CallersFit log count ds
fit_apart log count [] ds fits = (tt, fits)
fit_apart log count (c ∷ cs) ds fits = let rest = fit_apart log count cs ds fits.1 in ((fits.0, rest.0), rest.1)

-- none of so many new shares owns an entry
none_owned : (log : List Owned) (count n number : ℕ) → CallersFit log count (fresh n) → number < n → entries_by number log ≡ []
none_owned log count zero number fits lt = absurd (omega (arith, lt))
none_owned log count (suc n) number fits lt = by (number == n) refl (λ below. none_owned log count n number apart.0 below)
  where
    apart : CallersFit log count (fresh n) × CallersFit log count (caller n [] ∷ [])
    apart = fit_apart log count (fresh n) (caller n [] ∷ []) fits

    by : (b : Bool) → (number == n) ≡ b → (number < n → entries_by number log ≡ []) → entries_by number log ≡ []
    by true is rest =
        let here : number ≡ n = grind (arith, nat_tests) in
        let begins = apart.1.0.1 in
        (λ i. entries_by (here i) (begins.1 i)) ∙ begins.2
    by false is rest = rest (grind (arith, nat_tests))

-- where all callers are fresh, the log is empty
pub nothing_owned : (count : ℕ) (log : List Owned) → OwnersBelow count log → CallersFit log count (fresh count) → log ≡ []
nothing_owned count [] owners fits = refl
nothing_owned count (o ∷ os) owners fits =
    let none = none_owned (o ∷ os) count count o.owner fits owners.0 in
    let some : entries_by o.owner (o ∷ os) ≡ o.entry ∷ entries_by o.owner os =
    ap (λ (b : Bool). if b then (o.entry ∷ entries_by o.owner os) else entries_by o.owner os) (eq-eqb o.owner o.owner refl) in
    absurd (cc (some, none))
