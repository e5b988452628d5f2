-- All shares, each once, own all entries.
use Rattle.std.proofs.Common.{◌≡◌, ◌≢◌, ◌<◌, ◌≤◌, ℕ, zero, suc, ◌+◌, Bool, if◌then◌else◌, List, [], ◌∷◌, ◌++◌, refl, sym, ap, ◌∙◌, subst, arith, eq-eqb, ne_eqb, length, length-append, map, ◌==◌}
use Rattle.std.proofs.lemmas.List.{append-nil}
use mathlib.Core.Logic.{dite}
use native.Mathlib.Decide.{ℕ_discrete}
use Rattle.ksm_base.specs.Journal.{Entry}
use Rattle.ksm_shared.specs.declared.seen.Owned.{Owned}
use Rattle.ksm_shared.specs.declared.seen.Caller.{Caller}
use Rattle.ksm_shared.specs.Seen.{entries, entries_by, Begins, CallersFit, caller, first, times, OwnersBelow}
use Rattle.ksm_shared.specs.Locked.{owned_total, Gathered, LacksOne}
use Rattle.ksm_shared.proofs.Lists.{entries_by_append, times_head, times_other, times_le}

-- how many shares have a number below n
below : ℕ → List Caller → ℕ
below zero cs = 0
below (suc n) cs = below n cs + times n cs

times_here : (number : ℕ) (g : Caller) → g.number ≡ number → times number (g ∷ []) ≡ 1
times_here number g e = let a = times_head number g [] e in let b = times_le number g in omega arith

times_cons : (number : ℕ) (g : Caller) (cs : List Caller) → times number (g ∷ cs) ≡ times number (g ∷ []) + times number cs
times_cons number g cs = omega arith

below_nil : (n : ℕ) → below n [] ≡ 0
unfolding below
below_nil zero = refl
below_nil (suc n) = let h = below_nil n in omega arith

below_cons : (n : ℕ) (g : Caller) (cs : List Caller) → below n (g ∷ cs) ≡ below n (g ∷ []) + below n cs
unfolding below
below_cons zero g cs = refl
below_cons (suc n) g cs = let h = below_cons n g cs in let t = times_cons n g cs in omega arith

below_not : (n : ℕ) (g : Caller) → n ≤ g.number → below n (g ∷ []) ≡ 0
unfolding below
below_not zero g le = refl
below_not (suc n) g le = let h = below_not n g (omega arith) in let t = times_other n g [] (λ e. omega arith) in omega arith

below_one : (n : ℕ) (g : Caller) → g.number < n → below n (g ∷ []) ≡ 1
unfolding below
below_one zero g lt = absurd (omega arith)
below_one (suc n) g lt = dite (ℕ_discrete g.number n)
    (λ (e : g.number ≡ n). let h = below_not n g (omega arith) in let t = times_here n g e in omega arith)
    (λ (ne : g.number ≢ n). let h = below_one n g (omega arith) in let t = times_other n g [] ne in omega arith)

below_all : (log : List Owned) (n : ℕ) (cs : List Caller) → CallersFit log n cs → below n cs ≡ length cs
below_all log n [] fits = below_nil n
below_all log n (g ∷ cs) fits = let h = below_all log n cs fits.1 in let a = below_cons n g cs in let b = below_one n g fits.0.0 in omega arith

below_le : (n : ℕ) (cs : List Caller) → ((number : ℕ) → times number cs ≤ 1) → below n cs ≤ n
unfolding below
below_le zero cs once = omega arith
below_le (suc n) cs once = let h = below_le n cs once in let o = once n in omega arith

each_once : (n : ℕ) (cs : List Caller) → ((number : ℕ) → times number cs ≤ 1) → n ≤ below n cs → (number : ℕ) → number < n → times number cs ≡ 1
unfolding below
each_once zero cs once le number lt = absurd (omega arith)
each_once (suc n) cs once le number lt =
    let h = below_le n cs once in
    let o = once n in dite (ℕ_discrete number n)
    (λ (e : number ≡ n). subst (λ (k : ℕ). times k cs ≡ 1) (sym e) (omega arith))
    (λ (ne : number ≢ n). each_once n cs once (omega arith) number (omega arith))

-- the entries of all these shares in a journal
shared : List Owned → List Caller → ℕ
shared log [] = 0
shared log (g ∷ cs) = length (entries_by g.number log) + shared log cs

shared_nil : (cs : List Caller) → shared [] cs ≡ 0
unfolding shared
shared_nil [] = refl
shared_nil (g ∷ cs) = let h = shared_nil cs in omega arith

one_more : (o : Owned) (os : List Owned) (g : Caller) → length (entries_by g.number (o ∷ os)) ≡ times o.owner (g ∷ []) + length (entries_by g.number os)
one_more o os g = dite (ℕ_discrete g.number o.owner)
    (λ (e : g.number ≡ o.owner). let t = times_here o.owner g e in
    let l : length (entries_by g.number (o ∷ os)) ≡ 1 + length (entries_by g.number os) = subst (λ (b : Bool). length (if b then (o.entry ∷ entries_by g.number os) else entries_by g.number os) ≡ 1 + length (entries_by g.number os)) (sym (eq-eqb o.owner g.number (sym e))) (omega arith) in omega arith)
    (λ (ne : g.number ≢ o.owner). let t = times_other o.owner g [] ne in
    let l : length (entries_by g.number (o ∷ os)) ≡ length (entries_by g.number os) = subst (λ (b : Bool). length (if b then (o.entry ∷ entries_by g.number os) else entries_by g.number os) ≡ length (entries_by g.number os)) (sym (ne_eqb o.owner g.number (λ e. ne (sym e)))) refl in omega arith)

shared_cons : (o : Owned) (os : List Owned) (cs : List Caller) → shared (o ∷ os) cs ≡ times o.owner cs + shared os cs
unfolding shared
shared_cons o os [] = refl
shared_cons o os (g ∷ cs) = let h = shared_cons o os cs in let a = one_more o os g in let t = times_cons o.owner g cs in
    let la : ℕ = length (entries_by g.number (o ∷ os)) in omega (arith, h, a, t)

shared_all : (count : ℕ) (log : List Owned) (cs : List Caller) → OwnersBelow count log → ((number : ℕ) → number < count → times number cs ≡ 1) → shared log cs ≡ length log
shared_all count [] cs owners once = shared_nil cs
shared_all count (o ∷ os) cs owners once = let h = shared_all count os cs owners.1 once in let a = shared_cons o os cs in let t = once o.owner owners.0 in omega arith

-- what a share owns of the journal is what it owns of what it has seen
part_whole : (number : ℕ) (seen log : List Owned) → Begins number seen log → entries_by number log ≡ entries_by number seen
part_whole number seen log b = ap (entries_by number) b.1 ∙ entries_by_append number seen b.0 ∙ ap (λ (l : List Entry). entries_by number seen ++ l) b.2 ∙ append-nil _

shared_total : (count : ℕ) (log : List Owned) (cs : List Caller) → CallersFit log count cs → owned_total cs ≡ shared log cs
unfolding shared
shared_total count log [] fits = refl
shared_total count log (g ∷ cs) fits = let h = shared_total count log cs fits.1 in let p = ap length (part_whole g.number g.seen log fits.0.1) in omega (arith, h, p)

-- callers that are as many as the book has, each once, gather the whole log
pub gathered : (callers : ℕ) (log : List Owned) (cs : List Caller) → CallersFit log callers cs → ((number : ℕ) → times number cs ≤ 1) → OwnersBelow callers log → callers ≤ length cs → Gathered callers log cs
gathered callers log cs fits once owners enough =
    let all = each_once callers cs once (let b = below_all log callers cs fits in omega arith) in record {
      begins = fits;
      once = all;
      owners = owners;
      sum = shared_total callers log cs fits ∙ shared_all callers log cs owners all;
    }

-- shares that have all seen the journal
abbrev pub all_seen : List Owned → List Caller → List Caller
all_seen log cs = map (λ (g : Caller). caller g.number log) cs

all_fit : (log : List Owned) (callers : ℕ) (cs : List Caller) → CallersFit log callers cs → CallersFit log callers (all_seen log cs)
all_fit log callers [] fits = tt
all_fit log callers (g ∷ cs) fits = ((fits.0.0, ([], sym (append-nil log), refl)), all_fit log callers cs fits.1)

same_times : (log : List Owned) (number : ℕ) (cs : List Caller) → times number (all_seen log cs) ≡ times number cs
same_times log number [] = refl
same_times log number (g ∷ cs) = ap (λ (k : ℕ). (if g.number == number then 1 else 0) + k) (same_times log number cs)

same_length : (log : List Owned) (cs : List Caller) → length (all_seen log cs) ≡ length cs
same_length log [] = refl
same_length log (g ∷ cs) = ap suc (same_length log cs)

seen_first : (callers : ℕ) (log : List Owned) (cs : List Caller) → OwnersBelow callers log → callers ≤ length cs → (first (all_seen log cs)).seen ≡ log
seen_first callers [] [] owners enough = refl
seen_first callers (o ∷ os) [] owners enough = absurd (omega (arith, owners.0, enough))
seen_first callers log (g ∷ cs) owners enough = refl

-- all shares, which have then seen the journal, gather it
pub gathered_all : (callers : ℕ) (log : List Owned) (cs : List Caller) → CallersFit log callers cs → ((number : ℕ) → times number cs ≤ 1) → OwnersBelow callers log → callers ≤ length cs
    → ((first (all_seen log cs)).seen ≡ log) × (callers ≤ length (all_seen log cs)) × Gathered callers (first (all_seen log cs)).seen (all_seen log cs)
gathered_all callers log cs fits once owners enough =
    let is = seen_first callers log cs owners enough in
    let many : callers ≤ length (all_seen log cs) = omega (arith, enough, same_length log cs) in
    let few : (number : ℕ) → times number (all_seen log cs) ≤ 1 = λ number. omega (arith, once number, same_times log number cs) in
    (is, many, subst (λ (l : List Owned). Gathered callers l (all_seen log cs)) (sym is) (gathered callers log (all_seen log cs) (all_fit log callers cs fits) few owners many))

no_rest : (log rest whole : List Owned) → whole ≡ log ++ rest → length whole ≡ length log → whole ≡ log
no_rest log [] whole is long = is ∙ append-nil log
no_rest log (o ∷ rest) whole is long = absurd (omega (arith, long, ap length is, length-append log (o ∷ rest)))

-- a journal that fits all shares is the one that they gathered
pub still_gathered : (callers : ℕ) (log : List Owned) (cs : List Caller) → CallersFit log callers cs → ((number : ℕ) → times number cs ≤ 1) → OwnersBelow callers log → callers ≤ length cs
    → Gathered callers (first cs).seen cs → (first cs).seen ≡ log
still_gathered callers log [] fits once owners enough all = empty log (gathered callers log [] fits once owners enough).sum
  where
    empty : (l : List Owned) → 0 ≡ length l → [] ≡ l
    empty [] is = refl
    empty (o ∷ os) is = absurd (omega (arith, is))
still_gathered callers log (g ∷ cs) fits once owners enough all =
    let now = gathered callers log (g ∷ cs) fits once owners enough in
    sym (no_rest g.seen fits.0.1.0 log fits.0.1.1 (sym now.sum ∙ all.sum))

-- a log has as many entries as owners
pub length-entries : (log : List Owned) → length (entries log) ≡ length log
length-entries [] = refl
length-entries (o ∷ os) = let h = length-entries os in omega arith

one_at_most : (n : ℕ) (g : Caller) → below n (g ∷ []) ≤ 1
unfolding below
one_at_most zero g = omega arith
one_at_most (suc n) g = dite (ℕ_discrete g.number n)
    (λ (e : g.number ≡ n). let h = below_not n g (omega arith) in let t = times_le n g in omega arith)
    (λ (ne : g.number ≢ n). let h = one_at_most n g in let t = times_other n g [] ne in omega arith)

below_few : (n : ℕ) (cs : List Caller) → below n cs ≤ length cs
below_few n [] = let z = below_nil n in omega arith
below_few n (g ∷ cs) = let h = below_few n cs in let a = below_cons n g cs in let b = one_at_most n g in omega arith

lacks : (n : ℕ) (cs : List Caller) → below n cs < n → LacksOne n cs
unfolding below
lacks zero cs lt = absurd (omega arith)
lacks (suc n) cs lt = dite (ℕ_discrete (times n cs) 0)
    (λ (e : times n cs ≡ 0). (n, omega arith, e))
    (λ (ne : times n cs ≢ 0). let h = lacks n cs (omega arith) in (h.0, let lt = h.1 in omega arith, h.2))

-- fewer callers than the book has lack at least one
pub lacks_one : (callers : ℕ) (cs : List Caller) → length cs < callers → LacksOne callers cs
lacks_one callers cs few = lacks callers cs (let h = below_few callers cs in omega arith)
