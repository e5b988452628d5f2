-- Each step of the claim word's seats keeps the rule.
use Rattle.std.proofs.Common.{◌≡◌, ◌≢◌, ℕ, zero, suc, ◌+◌, ◌%◌, ◌^◌, ◌<◌, ◌≤◌, List, [], ◌∷◌, ◌++◌, length, set, refl, sym, ap, ◌∙◌, subst, ⊎_elim, arith, length-set}
use Rattle.std.specs.Prelude.{slice_index, slice_set}
use Rattle.std.proofs.lemmas.Bool.Decides.{nat_tests}
use mathlib.Core.Option.{some, some-ne-none, some-injective}
use lib.ListN.{get_elem?}
use Rattle.atomic_table.specs.Table.{step, keeps, Allows, Splits, Joins}
use Rattle.atomic_table.proofs.Lists.{at_set, at_snoc}
use Rattle.ksm_audit.specs.declared.claims.Deal.{Deal}
use Rattle.ksm_audit.specs.declared.claims.Hand.{Hand}
use Rattle.ksm_audit.specs.Claims.{total, times, once_below, once_from, first_hand, worker_hand, one_less, both, spent_hand, drew, Fits, IsDealt, Dealt, Draws}

-- a total over hands, where one is replaced, differs by what the two hands count
pub total_set : (f : Hand → ℕ) (views : List Hand) (i : ℕ) (v w : Hand) → get_elem? views i ≡ some v → total f (set views i w) + f v ≡ total f views + f w
total_set f [] i v w e = absurd (some-ne-none v (sym e))
total_set f (x ∷ xs) zero v w e = let s : f x ≡ f v = ap f (some-injective x v e) in omega arith
total_set f (x ∷ xs) (suc i) v w e = let s = total_set f xs i v w e in omega arith

-- a total with one more hand has what that hand counts more
pub total_snoc : (f : Hand → ℕ) (views : List Hand) (w : Hand) → total f (views ++ w ∷ []) ≡ total f views + f w
total_snoc f [] w = omega arith
total_snoc f (x ∷ xs) w = let s = total_snoc f xs w in omega arith

-- no hand counts more than the total
pub total_one : (f : Hand → ℕ) (views : List Hand) (i : ℕ) (v : Hand) → get_elem? views i ≡ some v → f v ≤ total f views
total_one f [] i v e = absurd (some-ne-none v (sym e))
total_one f (x ∷ xs) zero v e = let s : f x ≡ f v = ap f (some-injective x v e) in omega arith
total_one f (x ∷ xs) (suc i) v e = let s = total_one f xs i v e in omega arith

abbrev AllFit : Deal → ℕ → List Hand → Type 0
AllFit deal word views = (j : ℕ) (v : Hand) → get_elem? views j ≡ some v → Fits deal word v

-- where one seat has every part, what the seats drew is what it drew
nothing_else : (x : ℕ) (deal : Deal) (word : ℕ) (views : List Hand) → total (λ v. v.parts) views ≡ 0 → AllFit deal word views → total (λ v. times x v.drawn) views ≡ 0
nothing_else x deal word [] none fits = refl
nothing_else x deal word (v ∷ vs) none fits =
    let here : times x v.drawn ≡ 0 = ap (times x) ((fits zero v refl).empty (omega arith)) in
    let rest = nothing_else x deal word vs (omega arith) (λ j u e. fits (suc j) u e) in omega arith

whole : (x : ℕ) (deal : Deal) (word : ℕ) (views : List Hand) (i : ℕ) (v : Hand) → get_elem? views i ≡ some v → total (λ v. v.parts) views ≡ v.parts → AllFit deal word views
    → total (λ v. times x v.drawn) views ≡ times x v.drawn
whole x deal word [] i v e all fits = absurd (some-ne-none v (sym e))
whole x deal word (u ∷ us) zero v e all fits =
    let s : u ≡ v = some-injective u v e in
    let p : u.parts ≡ v.parts = ap (λ (h : Hand). h.parts) s in
    let t : times x u.drawn ≡ times x v.drawn = ap (λ (h : Hand). times x h.drawn) s in
    let rest = nothing_else x deal word us (omega arith) (λ j w d. fits (suc j) w d) in omega arith
whole x deal word (u ∷ us) (suc i) v e all fits =
    let one = total_one (λ v. v.parts) us i v e in
    let here : times x u.drawn ≡ 0 = ap (times x) ((fits zero u refl).empty (omega arith)) in
    let rest = whole x deal word us i v e (omega arith) (λ j w d. fits (suc j) w d) in omega arith

-- a seat that may draw leaves room for the number drawn
past_most : (deal : Deal) (word : ℕ) (views : List Hand) → AllFit deal word views → total (λ v. v.past) views ≤ total (λ v. v.parts) views
past_most deal word [] fits = omega arith
past_most deal word (v ∷ vs) fits = let here = (fits zero v refl).few in let rest = past_most deal word vs (λ j u e. fits (suc j) u e) in omega arith

past_less : (deal : Deal) (word : ℕ) (views : List Hand) (i : ℕ) (v : Hand) → get_elem? views i ≡ some v → v.past < v.parts → AllFit deal word views
    → total (λ v. v.past) views < total (λ v. v.parts) views
past_less deal word [] i v e less fits = absurd (some-ne-none v (sym e))
past_less deal word (u ∷ us) zero v e less fits =
    let s : u ≡ v = some-injective u v e in
    let p : u.past ≡ v.past = ap (λ (h : Hand). h.past) s in
    let q : u.parts ≡ v.parts = ap (λ (h : Hand). h.parts) s in
    let rest = past_most deal word us (λ j w d. fits (suc j) w d) in omega arith
past_less deal word (u ∷ us) (suc i) v e less fits =
    let here = (fits zero u refl).few in
    let rest = past_less deal word us i v e less (λ j w d. fits (suc j) w d) in omega arith

-- a number occurs in two lists as often as in both together
pub times_append : (x : ℕ) (xs ys : List ℕ) → times x (xs ++ ys) ≡ times x xs + times x ys
times_append x [] ys = omega arith
times_append x (y ∷ xs) ys = let h = times_append x xs ys in omega arith

one_more : (x n : ℕ) → once_below x n + times x (n ∷ []) ≡ once_below x (n + 1)
one_more x n = grind (arith, nat_tests)

-- a number drawn is a place, or one in vain
in_vain : (n places past : ℕ) → n ≤ places + past → n + 1 ≤ places + (past + once_from n places)
in_vain n places past le = grind (arith, nat_tests)

at_most_one : (n places : ℕ) → once_from n places ≤ 1
at_most_one n places = grind (arith, nat_tests)

fits_set : (deal : Deal) (word : ℕ) (views : List Hand) (id : ℕ) (w : Hand) → AllFit deal word views → Fits deal word w → AllFit deal word (set views id w)
fits_set deal word views id w all mine j v e =
    ⊎_elim (λ (t : (j ≡ id) × (w ≡ v)). subst (Fits deal word) t.1 mine) (λ (t : (j ≢ id) × (get_elem? views j ≡ some v)). all j v t.1) (at_set views id j w v e)

fits_snoc : (deal : Deal) (word : ℕ) (views : List Hand) (w : Hand) → AllFit deal word views → Fits deal word w → AllFit deal word (views ++ w ∷ [])
fits_snoc deal word views w all mine j v e = ⊎_elim (λ was. all j v was) (λ (same : w ≡ v). subst (Fits deal word) same mine) (at_snoc views w v j e)

fits_more : (deal : Deal) (word more : ℕ) (views : List Hand) → word ≤ more → AllFit deal word views → AllFit deal more views
fits_more deal word more views le all j v e = let f = all j v e in record { below = omega (arith, f.below, le); few = f.few; empty = f.empty; same = f.same }

read_set : (ws : List ℕ) (n : ℕ) → length ws ≡ 1 → slice_index (slice_set ws 0 n) 0 ≡ n
read_set [] n e = absurd (omega arith)
read_set (w ∷ ws) n e = refl

-- where all numbers of a deal fit, the claim word at 0 and the first hand alone are dealt
pub begins : (deal : Deal) → deal.places + (deal.workers + 1) < 2 ^ 64 → IsDealt deal (0 ∷ []) (first_hand deal ∷ [])
begins deal small = record { size = refl; small = small; parts = omega arith; past = omega arith; each = nothing; fits = one }
  where
    nothing : (x : ℕ) → 0 ≡ once_below x 0
    nothing x = grind (arith, nat_tests)

    one : AllFit deal 0 (first_hand deal ∷ [])
    one zero v e = subst (Fits deal 0) (some-injective _ v e) record { below = omega arith; few = omega arith; empty = λ none. refl; same = λ some. refl }
    one (suc j) v e = absurd (some-ne-none v (sym e))

-- a worker that draws takes the next number, and no other worker has that number
pub draws : {S : Type 0} (deal : Deal) (slots id : ℕ) (v : Hand) (held : List (ℕ × S)) → v.past < v.parts
    → Allows (Dealt deal) slots id (v, held) 0 (λ n. (n + 1) % 2 ^ 64) (Draws (step slots 0 1 0 mathlib.Core.Option.none) (v, held))
draws deal slots id v held may s h len at small =
    let n = slice_index s.words 0 in
    let w = drew v n in
    let mine = h.fits id v at in
    let same : v.deal ≡ deal = mine.same (omega arith) in
    let places : v.deal.places ≡ deal.places = ap (λ (d : Deal). d.places) same in
    let less = past_less deal n s.views id v at may h.fits in
    let one = at_most_one n v.deal.places in
    let next : (n + 1) % 2 ^ 64 ≡ n + 1 = omega (arith, h.past, h.small, h.parts, less) in
    let read : slice_index (slice_set s.words 0 ((n + 1) % 2 ^ 64)) 0 ≡ n + 1 = read_set s.words _ h.size ∙ next in (
      w,
      keeps,
      tt,
      record {
        size = simp length-set h.size;
        small = h.small;
        parts = (let p = total_set (λ u. u.parts) s.views id v w at in let q = h.parts in omega arith);
        past = (
            let p = total_set (λ u. u.past) s.views id v w at in
            let q = in_vain n deal.places (total (λ u. u.past) s.views) h.past in
            let r : once_from n v.deal.places ≡ once_from n deal.places = ap (once_from n) places in omega (arith, read, p, q, r)
            );
        each = λ x.
            let p = total_set (λ u. times x u.drawn) s.views id v w at in
            let q = h.each x in
            let r = times_append x v.drawn (n ∷ []) in
            let m = one_more x n in
            subst (λ (k : ℕ). total (λ u. times x u.drawn) (set s.views id w) ≡ once_below x k) (sym read) (omega (arith, p, q, r, m));
        fits = subst (λ (k : ℕ). AllFit deal k (set s.views id w)) (sym read)
            (fits_set deal (n + 1) s.views id w (fits_more deal n (n + 1) s.views (omega arith) h.fits)
            record { below = omega arith; few = omega (arith, may, one); empty = λ none. absurd (omega arith); same = mine.same });
      },
      (refl, mine.below, λ all x. sym (whole x deal n s.views id v at (h.parts ∙ sym (all ∙ ap (λ (d : Deal). d.workers + 1) same)) h.fits) ∙ h.each x),
    )

-- the rest of a hand is split into one less and a worker's
pub forks : {S : Type 0} (deal : Deal) (id : ℕ) (v : Hand) → 1 < v.parts → v.past < v.parts → Splits {S = S} (Dealt deal) id v (one_less v) (worker_hand v.deal)
forks deal id v some_left less s h at =
    let a = one_less v in
    let b = worker_hand v.deal in
    let n = slice_index s.words 0 in
    let mine = h.fits id v at in
    let views = set s.views id a in record {
      size = h.size;
      small = h.small;
      parts = (let p = total_set (λ u. u.parts) s.views id v a at in let q = total_snoc (λ u. u.parts) views b in let r = h.parts in omega arith);
      past = (let p = total_set (λ u. u.past) s.views id v a at in let q = total_snoc (λ u. u.past) views b in let r = h.past in omega arith);
      each = λ x. (let p = total_set (λ u. times x u.drawn) s.views id v a at in let q = total_snoc (λ u. times x u.drawn) views b in let r = h.each x in omega arith);
      fits = fits_snoc deal n views b (fits_set deal n s.views id a h.fits record { below = mine.below; few = omega arith; empty = λ none. absurd (omega arith); same = λ some. mine.same (omega arith) })
          record { below = omega arith; few = omega arith; empty = λ none. refl; same = λ some. mine.same (omega arith) };
    }

still_fits : (deal : Deal) (word : ℕ) (views : List Hand) (id other : ℕ) (v w b : Hand) → AllFit deal word views → get_elem? views id ≡ some v → ¬ (other ≡ id)
    → get_elem? (set views id b) other ≡ some w → Fits deal word w
still_fits deal word views id other v w b all at apart there =
    ⊎_elim (λ (t : (other ≡ id) × (b ≡ w)). absurd (apart t.0)) (λ (t : (other ≢ id) × (get_elem? views other ≡ some w)). all other w t.1) (at_set views id other b w there)

-- two workers' hands are put together as one
pub merges : {S : Type 0} (deal : Deal) (id : ℕ) (v : Hand) (other : ℕ) (w : Hand) → 0 < v.parts → Joins {S = S} (Dealt deal) id v other w (both v w) spent_hand
merges deal id v other w some_part s h at apart there =
    let a = both v w in
    let b = spent_hand in
    let n = slice_index s.words 0 in
    let views = set s.views id a in
    let one = h.fits id v at in
    let two = still_fits deal n s.views id other v w a h.fits at apart there in record {
      size = h.size;
      small = h.small;
      parts = (let p = total_set (λ u. u.parts) s.views id v a at in let q = total_set (λ u. u.parts) views other w b there in let r = h.parts in omega arith);
      past = (let p = total_set (λ u. u.past) s.views id v a at in let q = total_set (λ u. u.past) views other w b there in let r = h.past in omega arith);
      each = λ x. (
          let p = total_set (λ u. times x u.drawn) s.views id v a at in
          let q = total_set (λ u. times x u.drawn) views other w b there in
          let t = times_append x v.drawn w.drawn in
          let r = h.each x in omega arith
          );
      fits = fits_set deal n views other b (fits_set deal n s.views id a h.fits
          record { below = omega (arith, one.below, two.below); few = omega (arith, one.few, two.few); empty = λ none. absurd (omega arith); same = λ some. one.same some_part })
          record { below = omega arith; few = omega arith; empty = λ none. refl; same = λ some. absurd (omega arith) };
    }
