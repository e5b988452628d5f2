-- Each step keeps the rule.
use Rattle.std.proofs.Common.{◌≡◌, ◌≢◌, ◌==◌, ℕ, zero, suc, ◌+◌, ◌≤◌, true, false, List, [], ◌∷◌, ◌++◌, set, refl, sym, ap, ◌∙◌, subst, ⊎_elim, arith, le_trans, Option, None, true≢false}
use mathlib.Core.Option.{none, some, some-ne-none, some-injective}
use mathlib.Core.Logic.{dite}
use native.Mathlib.Decide.{ℕ_discrete}
use lib.ListN.{get_elem?}
use prog.Atomic.{either}
use Rattle.atomic_table.specs.Table.{step, keeps, Allows, Splits, Joins}
use Rattle.atomic_table.proofs.Lists.{at_set, at_snoc}
use Rattle.ksm_base.specs.Journal.{Entry}
use Rattle.ksm_shared.specs.declared.seen.Owned.{Owned}
use Rattle.ksm_shared.specs.declared.seen.Caller.{Caller}
use Rattle.ksm_shared.specs.declared.seen.View.{View}
use Rattle.ksm_shared.specs.Seen.{CallersFit, times, total, OwnersBelow, Fits, IsKept, Kept, view_of, nobody, book_view, share_view, caller, added, after, Knows, Looks, Writes}
use Rattle.ksm_shared.proofs.Lists.{total_set, total_one, total_two, total_snoc, total_zero, times_append, times_map, times_le, times_other, callers_grow, callers_more, callers_append, callers_fresh}
use Rattle.ksm_shared.proofs.Lists.{times_above, owners_append, owners_more, owners_none, added_apart, added_owners}

fits_set : (book : ℕ) (log : List Owned) (count : ℕ) (views : List View) (by : ℕ) (w : View)
    → ((j : ℕ) (u : View) → j ≢ by → get_elem? views j ≡ some u → Fits book log count j u) → Fits book log count by w
    → (j : ℕ) (u : View) → get_elem? (set views by w) j ≡ some u → Fits book log count j u
fits_set book log count views by w others mine j u e =
    ⊎_elim
    (λ (x : (j ≡ by) × (w ≡ u)). subst (λ (y : ℕ × View). Fits book log count y.0 y.1) (λ i. (sym x.0 i, x.1 i)) mine)
    (λ (x : (j ≢ by) × (get_elem? views j ≡ some u)). others j u x.0 x.1)
    (at_set views by j w u e)

-- the journal and the number of shares that a book knows are those of the rule
as_known : (log mine : List Owned) (count shares : ℕ) (cs : List Caller) → mine ≡ log → shares ≡ count → CallersFit log count cs → CallersFit mine shares cs
as_known log mine count shares cs a b = subst (λ (p : List Owned × ℕ). CallersFit p.0 p.1 cs) (λ i. (sym a i, sym b i))

-- the rule holds of a book that has seen nothing
pub begins : IsKept (book_view [] 0 ∷ [])
begins = record { book = 0; log = []; count = 0; fits = one; once = λ number. omega arith; owners = tt }
  where
    one : (by : ℕ) (v : View) → get_elem? (book_view [] 0 ∷ []) by ≡ some v → Fits 0 [] 0 by v
    one zero v e = subst (Fits 0 [] 0 0) (some-injective _ _ e) ((λ _. (refl, refl, refl)), tt)
    one (suc by) v e = absurd (some-ne-none v (sym e))

-- in views that keep the rule, the shares joined to the book's seat fit the journal that the seat knows
pub knows : (views : List View) (id : ℕ) (v : View) → v.is_book ≡ true → IsKept views → get_elem? views id ≡ some v → Knows v
knows views id v kp h at =
    let mine = h.fits id v at in
    let m = mine.0 kp in record {
      callers = as_known h.log v.log h.count v.shares v.callers m.1 m.2 mine.1;
      once = λ number. le_trans (total_one (λ u. times number u.callers) views id v at) (h.once number);
      owners = subst (λ (p : List Owned × ℕ). OwnersBelow p.1 p.0) (λ i. (sym m.1 i, sym m.2 i)) h.owners;
    }

-- views keep the rule where the book's seat adds an entry, or none
pub writes_views : (views : List View) (id : ℕ) (v : View) (e : Option Entry) → v.is_book ≡ true → IsKept views → get_elem? views id ≡ some v → IsKept (set views id (after v e))
writes_views views id v e kp h at =
    let mine = h.fits id v at in
    let m = mine.0 kp in
    let k = knows views id v kp h at in
    let log = v.log ++ added v.callers e in record {
      book = id;
      log = log;
      count = v.shares;
      fits = fits_set id log v.shares views id (after v e)
          (λ j u ne there.
          let theirs = h.fits j u there in (
            (λ q. absurd (ne ((theirs.0 q).0 ∙ sym m.0))),
            callers_grow v.log (added v.callers e) v.shares u.callers
                (λ number pos. added_apart v.callers e number (times number u.callers) pos (le_trans (total_two (λ u. times number u.callers) views id j v u at there ne) (h.once number)))
                (as_known h.log v.log h.count v.shares u.callers m.1 m.2 theirs.1),
          ))
          ((λ _. (refl, refl, refl)), callers_fresh v.log log v.shares v.callers k.callers);
      once = λ number.
          let s = total_set (λ u. times number u.callers) views id v (after v e) at in
          let t = times_map number log v.callers in
          let o = h.once number in
          omega arith;
      owners = owners_append v.shares v.log (added v.callers e) k.owners (added_owners v.log v.shares v.callers e k.callers);
    }

-- the book's seat may add an entry
pub writes : (slots id : ℕ) (v : View) (held : List (ℕ × Option Entry)) (e : Option Entry) → v.is_book ≡ true
    → Allows Kept slots id (v, held) 0 (λ n. either (n == 0) 0 n) (Writes (step slots 0 0 0 (some e)) (v, held))
writes slots id v held e kp s h len at small = (
  after v e,
  keeps,
  tt,
  writes_views s.views id v e kp h at,
  λ e' is. (ap (λ x. after v x) (some-injective e e' is), refl, knows s.views id v kp h at),
)

-- the book's seat may look at what was seen
pub looks : (slots id : ℕ) (v : View) (held : List (ℕ × Option Entry)) → v.is_book ≡ true
    → Allows Kept slots id (v, held) 0 (λ n. n) (Looks (step slots 0 0 0 none) (v, held))
looks slots id v held kp s h len at small = (after v None, keeps, tt, writes_views s.views id v None kp h at, (refl, refl, knows s.views id v kp h at))

-- a seat that is not the book's may give its whole view to a new seat
pub moves_out : {S : Type 0} (id : ℕ) (v : View) → v.is_book ≡ false → Splits {S = S} Kept id v nobody v
moves_out id v off s h at = record {
  book = h.book;
  log = h.log;
  count = h.count;
  fits = λ j u e.
      ⊎_elim
      (λ was. fits_set h.book h.log h.count s.views id nobody (λ j u _ there. h.fits j u there) ((λ q. absurd (true≢false (sym q))), tt) j u was)
      (λ (same : v ≡ u). subst (Fits h.book h.log h.count j) same ((λ q. absurd (true≢false (sym q ∙ off))), (h.fits id v at).1))
      (at_snoc (set s.views id nobody) v u j e);
  once = λ number.
      let a = total_set (λ u. times number u.callers) s.views id v nobody at in
      let b = total_snoc (λ u. times number u.callers) (set s.views id nobody) v in
      let o = h.once number in
      omega arith;
  owners = h.owners;
}

-- a seat may give its shares to a new seat
pub cuts : {S : Type 0} (id : ℕ) (v : View) → Splits {S = S} Kept id v (view_of v.is_book v.log v.shares []) (view_of false [] 0 v.callers)
cuts id v s h at =
    let left = view_of v.is_book v.log v.shares [] in
    let right = view_of false [] 0 v.callers in record {
      book = h.book;
      log = h.log;
      count = h.count;
      fits = λ j u e.
          ⊎_elim
          (λ was. fits_set h.book h.log h.count s.views id left (λ j u _ there. h.fits j u there) ((h.fits id v at).0, tt) j u was)
          (λ (same : right ≡ u). subst (Fits h.book h.log h.count j) same ((λ q. absurd (true≢false (sym q))), (h.fits id v at).1))
          (at_snoc (set s.views id left) right u j e);
      once = λ number.
          let a = total_set (λ u. times number u.callers) s.views id v left at in
          let b = total_snoc (λ u. times number u.callers) (set s.views id left) right in
          let o = h.once number in
          omega arith;
      owners = h.owners;
    }

-- a seat may take in the shares of another
pub takes_in : {S : Type 0} (id : ℕ) (v : View) (other : ℕ) (w : View) → Joins {S = S} Kept id v other w (view_of v.is_book v.log v.shares (v.callers ++ w.callers)) nobody
takes_in id v other w s h at apart there =
    let both = view_of v.is_book v.log v.shares (v.callers ++ w.callers) in
    let was : get_elem? s.views other ≡ some w = ⊎_elim (λ (t : (other ≡ id) × (both ≡ w)). absurd (apart t.0)) (λ (t : (other ≢ id) × (get_elem? s.views other ≡ some w)). t.1) (at_set s.views id other both w there) in
    let mine = h.fits id v at in
    let theirs = h.fits other w was in record {
      book = h.book;
      log = h.log;
      count = h.count;
      fits = fits_set h.book h.log h.count (set s.views id both) other nobody
          (λ j u _ e. fits_set h.book h.log h.count s.views id both (λ j u _ e. h.fits j u e) (mine.0, callers_append h.log h.count v.callers w.callers mine.1 theirs.1) j u e)
          ((λ q. absurd (true≢false (sym q))), tt);
      once = λ number.
          let a = total_set (λ u. times number u.callers) s.views id v both at in
          let b = total_set (λ u. times number u.callers) (set s.views id both) other w nobody there in
          let c = times_append number v.callers w.callers in
          let o = h.once number in
          omega arith;
      owners = h.owners;
    }

-- the book's seat may make one share more
pub mints : {S : Type 0} (id : ℕ) (v : View) → v.is_book ≡ true → Splits {S = S} Kept id v (view_of v.is_book v.log (v.shares + 1) v.callers) (share_view v.shares [])
mints id v kp s h at =
    let left = view_of v.is_book v.log (v.shares + 1) v.callers in
    let right = share_view v.shares [] in
    let mine = h.fits id v at in
    let m = mine.0 kp in
    let k = knows s.views id v kp h at in
    let le : h.count ≤ v.shares + 1 = let q = m.2 in omega arith in record {
      book = id;
      log = v.log;
      count = v.shares + 1;
      fits = λ j u e.
          ⊎_elim
          (λ was.
          fits_set id v.log (v.shares + 1) s.views id left
          (λ j u ne there. let theirs = h.fits j u there in (
            (λ q. absurd (ne ((theirs.0 q).0 ∙ sym m.0))),
            callers_more v.log v.shares (v.shares + 1) u.callers (omega arith) (as_known h.log v.log h.count v.shares u.callers m.1 m.2 theirs.1),
          ))
          ((λ _. (refl, refl, refl)), callers_more v.log v.shares (v.shares + 1) v.callers (omega arith) k.callers)
          j u was)
          (λ (same : right ≡ u). subst (Fits id v.log (v.shares + 1) j) same ((λ q. absurd (true≢false (sym q))), ((omega arith, (v.log, refl, owners_none v.shares v.log k.owners)), tt)))
          (at_snoc (set s.views id left) right u j e);
      once = once_more s.views id v h at kp;
      owners = owners_more v.shares v.log k.owners;
    }
  where
    once_more : (views : List View) (id : ℕ) (v : View) → IsKept views → get_elem? views id ≡ some v → v.is_book ≡ true → (number : ℕ) → total (λ u. times number u.callers) (set views id (view_of v.is_book v.log (v.shares + 1) v.callers) ++ share_view v.shares [] ∷ []) ≤ 1
    once_more views id v h at kp number =
        let left = view_of v.is_book v.log (v.shares + 1) v.callers in
        let a = total_set (λ u. times number u.callers) views id v left at in
        let b = total_snoc (λ u. times number u.callers) (set views id left) (share_view v.shares []) in
        let o = h.once number in
        let m = ((h.fits id v at).0 kp).2 in
        dite (ℕ_discrete v.shares number)
        (λ (same : v.shares ≡ number).
        let none : total (λ u. times number u.callers) views ≡ 0 = total_zero (λ u. times number u.callers) views (λ i u e. subst (λ (n : ℕ). times n u.callers ≡ 0) (sym m ∙ same) (times_above h.log h.count u.callers (h.fits i u e).1)) in
        let one : times number (caller v.shares [] ∷ []) ≤ 1 = times_le number (caller v.shares []) in
        omega arith)
        (λ (apart : v.shares ≢ number).
        let zero_here : times number (caller v.shares [] ∷ []) ≡ 0 = times_other number (caller v.shares []) [] apart in
        omega arith)
