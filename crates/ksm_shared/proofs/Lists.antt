-- Totals over views, and entries of one owner.
use Rattle.std.proofs.Common.{◌≡◌, ◌≢◌, ◌==◌, ℕ, zero, suc, ◌+◌, ◌<◌, ◌≤◌, Bool, true, false, if◌then◌else◌, List, [], ◌∷◌, ◌++◌, set, map, refl, sym, ap, ◌∙◌, subst, arith, append_assoc, eq-eqb}
use Rattle.std.proofs.Common.{ne_eqb, Option, Some, None}
use Rattle.std.proofs.lemmas.List.{append-nil}
use mathlib.Core.Option.{some, some-ne-none, some-injective}
use lib.ListN.{get_elem?}
use Rattle.ksm_base.specs.Journal.{Entry}
use Rattle.ksm_shared.specs.declared.seen.Owned.{Owned}
use Rattle.ksm_shared.specs.declared.seen.Caller.{Caller}
use Rattle.ksm_shared.specs.declared.seen.View.{View}
use Rattle.ksm_shared.specs.Seen.{entries, entries_by, Begins, CallersFit, times, total, OwnersBelow, caller, owned, added}

-- a total, where one view is replaced, differs by what the two views count
pub total_set : (f : View → ℕ) (views : List View) (i : ℕ) (v w : View) → get_elem? views i ≡ some v → total f (set views i w) + f v ≡ total f views + f w
total_set f [] i v w e = absurd (some-ne-none v (sym e))
total_set f (x ∷ xs) zero v w e = let s : f x ≡ f v = ap f (some-injective x v e) in omega arith
total_set f (x ∷ xs) (suc i) v w e = let s = total_set f xs i v w e in omega arith

-- no view counts more than the total
pub total_one : (f : View → ℕ) (views : List View) (i : ℕ) (v : View) → get_elem? views i ≡ some v → f v ≤ total f views
total_one f [] i v e = absurd (some-ne-none v (sym e))
total_one f (x ∷ xs) zero v e = let s : f x ≡ f v = ap f (some-injective x v e) in omega arith
total_one f (x ∷ xs) (suc i) v e = let s = total_one f xs i v e in omega arith

-- no two views count more than the total
pub total_two : (f : View → ℕ) (views : List View) (i j : ℕ) (v u : View) → get_elem? views i ≡ some v → get_elem? views j ≡ some u → j ≢ i → f v + f u ≤ total f views
total_two f [] i j v u e d ne = absurd (some-ne-none v (sym e))
total_two f (x ∷ xs) zero zero v u e d ne = absurd (ne refl)
total_two f (x ∷ xs) zero (suc j) v u e d ne = let s : f x ≡ f v = ap f (some-injective x v e) in let t = total_one f xs j u d in omega arith
total_two f (x ∷ xs) (suc i) zero v u e d ne = let s : f x ≡ f u = ap f (some-injective x u d) in let t = total_one f xs i v e in omega arith
total_two f (x ∷ xs) (suc i) (suc j) v u e d ne = let s = total_two f xs i j v u e d (λ q. ne (ap suc q)) in omega arith

-- a total with one more view has what that view counts more
pub total_snoc : (f : View → ℕ) (views : List View) (w : View) → total f (views ++ w ∷ []) ≡ total f views + f w
total_snoc f [] w = omega arith
total_snoc f (x ∷ xs) w = let s = total_snoc f xs w in omega arith

-- where no view counts, the total is zero
pub total_zero : (f : View → ℕ) (views : List View) → ((i : ℕ) (v : View) → get_elem? views i ≡ some v → f v ≡ 0) → total f views ≡ 0
total_zero f [] h = refl
total_zero f (x ∷ xs) h = let a = h zero x refl in let b = total_zero f xs (λ i v e. h (suc i) v e) in omega arith

-- a caller's entries in two logs in a row are those in the first, then those in the second
pub entries_by_append : (number : ℕ) (xs ys : List Owned) → entries_by number (xs ++ ys) ≡ entries_by number xs ++ entries_by number ys
entries_by_append number [] ys = refl
entries_by_append number (o ∷ os) ys =
    let ih = entries_by_append number os ys in
    elim (o.owner == number) as (λ (b : Bool). (if b then (o.entry ∷ entries_by number (os ++ ys)) else entries_by number (os ++ ys)) ≡ (if b then (o.entry ∷ entries_by number os) else entries_by number os) ++ entries_by number ys)
    [ true ↦ ap (λ (l : List Entry). o.entry ∷ l) ih | false ↦ ih ]

-- an entry of another owner is none of a caller's entries
pub entries_by_other : (number : ℕ) (o : Owned) → o.owner ≢ number → entries_by number (o ∷ []) ≡ []
entries_by_other number o ne = subst (λ (b : Bool). (if b then (o.entry ∷ []) else []) ≡ []) (sym (ne_eqb o.owner number ne)) refl

-- a caller's own entry is one of its entries
pub entries_by_own : (number : ℕ) (e : Entry) → entries_by number (owned number e ∷ []) ≡ e ∷ []
entries_by_own number e = subst (λ (b : Bool). (if b then (e ∷ []) else []) ≡ e ∷ []) (sym (eq-eqb number number refl)) refl

-- the entries of two logs in a row are those of the first, then those of the second
pub entries_append : (xs ys : List Owned) → entries (xs ++ ys) ≡ entries xs ++ entries ys
entries_append [] ys = refl
entries_append (o ∷ os) ys = ap (λ (l : List Entry). o.entry ∷ l) (entries_append os ys)

-- a caller occurs in two lists as often as in both together
pub times_append : (number : ℕ) (cs ds : List Caller) → times number (cs ++ ds) ≡ times number cs + times number ds
times_append number [] ds = omega arith
times_append number (g ∷ cs) ds = let ih = times_append number cs ds in omega arith

-- callers that see another log occur as often as before
pub times_map : (number : ℕ) (log : List Owned) (cs : List Caller) → times number (map (λ g. caller g.number log) cs) ≡ times number cs
times_map number log [] = refl
times_map number log (g ∷ cs) = let ih = times_map number log cs in omega arith

-- a caller occurs in a list that begins with that caller
pub times_head : (number : ℕ) (g : Caller) (cs : List Caller) → g.number ≡ number → 0 < times number (g ∷ cs)
times_head number g cs e = subst (λ (b : Bool). 0 < (if b then 1 else 0) + times number cs) (sym (eq-eqb g.number number e)) (omega arith)

-- another caller at the head changes no count
pub times_other : (number : ℕ) (g : Caller) (cs : List Caller) → g.number ≢ number → times number (g ∷ cs) ≡ times number cs
times_other number g cs ne = subst (λ (b : Bool). (if b then 1 else 0) + times number cs ≡ times number cs) (sym (ne_eqb g.number number ne)) (omega arith)

-- one caller occurs once at most
pub times_le : (number : ℕ) (g : Caller) → times number (g ∷ []) ≤ 1
times_le number g = elim (g.number == number) as (λ (b : Bool). (if b then 1 else 0) + 0 ≤ 1) [ true ↦ omega arith | false ↦ omega arith ]

-- what was seen still begins the journal, where each new entry is of another share
pub begins_grow : (number : ℕ) (seen log more : List Owned) → entries_by number more ≡ [] → Begins number seen log → Begins number seen (log ++ more)
begins_grow number seen log more none b =
    (b.0 ++ more, ap (λ (l : List Owned). l ++ more) b.1 ∙ append_assoc seen b.0 more, entries_by_append number b.0 more ∙ ap (λ (l : List Entry). l ++ entries_by number more) b.2 ∙ none)

-- what a caller has seen begins the journal where the caller has seen all of the journal
pub begins_all : (number : ℕ) (log : List Owned) → Begins number log log
begins_all number log = ([], sym (append-nil log), refl)

-- callers fit a log that grows by entries of others
pub callers_grow : (log more : List Owned) (count : ℕ) (cs : List Caller) → ((number : ℕ) → 0 < times number cs → entries_by number more ≡ []) → CallersFit log count cs → CallersFit (log ++ more) count cs
callers_grow log more count [] apart fits = tt
callers_grow log more count (g ∷ cs) apart fits = (
  (fits.0.0, begins_grow g.number g.seen log more (apart g.number (times_head g.number g cs refl)) fits.0.1),
  callers_grow log more count cs (λ number pos. apart number (let q : times number cs ≤ times number (g ∷ cs) = omega arith in omega arith)) fits.1,
)

-- callers that fit a book of so many fit one of more
pub callers_more : (log : List Owned) (count more : ℕ) (cs : List Caller) → count ≤ more → CallersFit log count cs → CallersFit log more cs
callers_more log count more [] le fits = tt
callers_more log count more (g ∷ cs) le fits = ((let a = fits.0.0 in omega arith, fits.0.1), callers_more log count more cs le fits.1)

-- callers of two lists fit a log where both do
pub callers_append : (log : List Owned) (count : ℕ) (cs ds : List Caller) → CallersFit log count cs → CallersFit log count ds → CallersFit log count (cs ++ ds)
callers_append log count [] ds a b = b
callers_append log count (g ∷ cs) ds a b = (a.0, callers_append log count cs ds a.1 b)

-- callers that are shown the whole journal fit that journal
pub callers_fresh : (log now : List Owned) (count : ℕ) (cs : List Caller) → CallersFit log count cs → CallersFit now count (map (λ g. caller g.number now) cs)
callers_fresh log now count [] fits = tt
callers_fresh log now count (g ∷ cs) fits = ((fits.0.0, begins_all g.number now), callers_fresh log now count cs fits.1)

-- no caller has the number behind the last one
pub times_above : (log : List Owned) (count : ℕ) (cs : List Caller) → CallersFit log count cs → times count cs ≡ 0
times_above log count [] fits = refl
times_above log count (g ∷ cs) fits = let lt = fits.0.0 in times_other count g cs (λ e. omega arith) ∙ times_above log count cs fits.1

-- the owners of two logs are callers where both are
pub owners_append : (count : ℕ) (xs ys : List Owned) → OwnersBelow count xs → OwnersBelow count ys → OwnersBelow count (xs ++ ys)
owners_append count [] ys a b = b
owners_append count (x ∷ xs) ys a b = (a.0, owners_append count xs ys a.1 b)

-- owners below a number are below the next one
pub owners_more : (count : ℕ) (xs : List Owned) → OwnersBelow count xs → OwnersBelow (count + 1) xs
owners_more count [] a = tt
owners_more count (x ∷ xs) a = (let h = a.0 in omega arith, owners_more count xs a.1)

-- nobody beside the callers owns an entry
pub owners_none : (count : ℕ) (xs : List Owned) → OwnersBelow count xs → entries_by count xs ≡ []
owners_none count [] a = refl
owners_none count (x ∷ xs) a = let h = a.0 in
    subst (λ (b : Bool). (if b then (x.entry ∷ entries_by count xs) else entries_by count xs) ≡ []) (sym (ne_eqb x.owner count (λ e. omega arith))) (owners_none count xs a.1)

-- a share of another seat owns no entry that is added
pub added_apart : (cs : List Caller) (e : Option Entry) (number n : ℕ) → 0 < n → times number cs + n ≤ 1 → entries_by number (added cs e) ≡ []
added_apart [] e number n pos le = refl
added_apart (g ∷ cs) None number n pos le = refl
added_apart (g ∷ cs) (Some x) number n pos le = entries_by_other number (owned g.number x) (λ q. let h = times_head number g cs q in omega arith)

-- an added entry is owned by one of the callers
pub added_owners : (log : List Owned) (count : ℕ) (cs : List Caller) (e : Option Entry) → CallersFit log count cs → OwnersBelow count (added cs e)
added_owners log count [] e fits = tt
added_owners log count (g ∷ cs) None fits = tt
added_owners log count (g ∷ cs) (Some x) fits = (fits.0.0, tt)
