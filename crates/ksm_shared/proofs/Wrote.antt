-- What the joined seats know, and what is left when they are cut apart.
use Rattle.std.proofs.Common.{◌≡◌, ℕ, true, false, List, [], ◌∷◌, ◌++◌, refl, sym, ap, ◌∙◌, subst, Option, None, map, length, arith}
use Rattle.std.proofs.lemmas.List.{append-nil}
use mathlib.Core.Option.{none, some, some-injective}
use Rattle.atomic_table.specs.Table.{Me, step}
use Rattle.ksm_base.specs.Journal.{Entry}
use Rattle.ksm_shared.specs.declared.seen.Owned.{Owned}
use Rattle.ksm_shared.specs.declared.seen.Caller.{Caller}
use Rattle.ksm_shared.specs.declared.seen.View.{View}
use Rattle.ksm_shared.specs.Seen.{all_at, view_of, book_view, share_view, joined_view, caller, first, added, after, Knows, Looks, Writes, IsBookSeat, IsShareSeat, Wrote}

abbrev Me' : Type 0
Me' = Me (Option Entry) View

-- the book's seat and a share's, put together, are one view
pub joined_is : (bm sm wm jm : Me') → IsBookSeat bm → IsShareSeat sm → wm ≡ (sm.0, [])
    → jm ≡ (view_of bm.0.is_book bm.0.log bm.0.shares (bm.0.callers ++ wm.0.callers), bm.1)
    → jm ≡ (joined_view bm.0.log bm.0.shares (first sm.0.callers).number (first sm.0.callers).seen, [])
joined_is bm sm wm jm b s w j =
    let q : wm ≡ (share_view (first sm.0.callers).number (first sm.0.callers).seen, []) = w ∙ ap (λ (m : Me'). (m.0, [])) s in
    j ∙ (λ i. (view_of (b i).0.is_book bm.0.log bm.0.shares ((b i).0.callers ++ (q i).0.callers), (b i).1))

book_seat : (m : Me') (log : List Owned) (count : ℕ) → m ≡ (book_view log count, []) → IsBookSeat m
book_seat m log count e = subst (λ (x : Me'). x ≡ (book_view x.0.log x.0.shares, [])) (sym e) refl

share_seat : (m : Me') (number : ℕ) (seen : List Owned) → m ≡ (share_view number seen, []) → IsShareSeat m
share_seat m number seen e = subst (λ (x : Me'). x ≡ (share_view (first x.0.callers).number (first x.0.callers).seen, [])) (sym e) refl

-- a write by the book's seat and a share's seat together is the share's command
pub wrote : (bm sm jm xm b2 s2 : Me') (e : Option Entry) (slots found : ℕ) → IsShareSeat sm
    → jm ≡ (joined_view bm.0.log bm.0.shares (first sm.0.callers).number (first sm.0.callers).seen, [])
    → Writes (step slots 0 0 0 (some e)) jm found xm
    → b2 ≡ (view_of xm.0.is_book xm.0.log xm.0.shares [], xm.1)
    → s2 ≡ (view_of false [] 0 xm.0.callers, [])
    → IsBookSeat b2 × IsShareSeat s2 × Wrote bm.0 sm.0 b2.0 s2.0 e
wrote bm sm jm xm b2 s2 e slots found s j w cut given =
    let log = bm.0.log in
    let g = first sm.0.callers in
    let told = w e refl in
    let more = log ++ added (caller g.number g.seen ∷ []) e in
    let x : xm.0 ≡ view_of true more bm.0.shares (caller g.number more ∷ []) = told.0 ∙ ap (λ (m : Me'). after m.0 e) j in
    let held : xm.1 ≡ [] = told.1 ∙ ap (λ (m : Me'). m.1) j in
    let is_book : b2 ≡ (book_view more bm.0.shares, []) = cut ∙ (λ i. (view_of (x i).is_book (x i).log (x i).shares [], held i)) in
    let is_share : s2 ≡ (share_view g.number more, []) = given ∙ (λ i. (view_of false [] 0 (x i).callers, [])) in
    let k : Knows (joined_view log bm.0.shares g.number g.seen) = subst (λ (m : Me'). Knows m.0) j told.2 in
    let same : added (caller g.number g.seen ∷ []) e ≡ added sm.0.callers e = ap (λ (m : Me'). added m.0.callers e) (sym s) in (
      book_seat b2 more bm.0.shares is_book,
      share_seat s2 g.number more is_share,
      record {
        begins = k.callers.0.1;
        number = k.callers.0.0;
        owners = k.owners;
        book_is = ap (λ (m : Me'). m.0) is_book ∙ ap (λ (a : List Owned). book_view (log ++ a) bm.0.shares) same;
        share_is = ap (λ (m : Me'). m.0) is_share ∙ ap (λ (a : List Owned). share_view g.number (log ++ a)) same;
      },
    )

-- what a look tells is what a step with no entry tells
pub looked : (jm xm : Me') (slots found : ℕ) → Looks (step slots 0 0 0 none) jm found xm → Writes (step slots 0 0 0 (some None)) jm found xm
looked jm xm slots found l e is = (l.0 ∙ ap (λ (x : Option Entry). after jm.0 x) (some-injective None e is), l.1, l.2)

nothing_added : (log : List Owned) (cs : List Caller) → log ++ added cs None ≡ log
nothing_added log [] = append-nil log
nothing_added log (g ∷ cs) = append-nil log

-- shares that the book's seat took in fit its journal, and the seat is as before once the shares are let go
pub let_go : (bm jm xm b2 : Me') (cs : List Caller) (slots found : ℕ) → IsBookSeat bm → jm ≡ (view_of true bm.0.log bm.0.shares cs, []) → Writes (step slots 0 0 0 (some None)) jm found xm
    → b2 ≡ (view_of xm.0.is_book xm.0.log xm.0.shares [], xm.1) → (b2 ≡ bm) × Knows (view_of true bm.0.log bm.0.shares cs)
let_go bm jm xm b2 cs slots found b j w cut =
    let told = w None refl in
    let log = bm.0.log in
    let none : log ++ added cs None ≡ log = nothing_added log cs in
    let x : xm.0 ≡ view_of true (log ++ added cs None) bm.0.shares (map (λ g. caller g.number (log ++ added cs None)) cs) = told.0 ∙ ap (λ (m : Me'). after m.0 None) j in
    let held : xm.1 ≡ [] = told.1 ∙ ap (λ (m : Me'). m.1) j in
    let is : b2 ≡ (book_view (log ++ added cs None) bm.0.shares, []) = cut ∙ (λ i. (view_of (x i).is_book (x i).log (x i).shares [], held i)) in
    (is ∙ ap (λ (l : List Owned). let m : Me' = (book_view l bm.0.shares, []) in m) none ∙ sym b, subst (λ (m : Me'). Knows m.0) j told.2)

-- shares that were let go together have all seen the journal
pub cut_off : (bm jm xm s2 : Me') (cs : List Caller) (slots found : ℕ) → jm ≡ (view_of true bm.0.log bm.0.shares cs, []) → Writes (step slots 0 0 0 (some None)) jm found xm
    → s2 ≡ (view_of false [] 0 xm.0.callers, []) → s2 ≡ all_at cs bm.0.log
cut_off bm jm xm s2 cs slots found j w given =
    let log = bm.0.log in
    let told = w None refl in
    let x : xm.0.callers ≡ map (λ (g : Caller). caller g.number (log ++ added cs None)) cs = ap (λ (v : View). v.callers) (told.0 ∙ ap (λ (m : Me'). after m.0 None) j) in
    given ∙ ap (λ (gs : List Caller). let m : Me' = (view_of false [] 0 gs, []) in m) (x ∙ ap (λ (l : List Owned). map (λ (g : Caller). caller g.number l) cs) (nothing_added log cs))

-- the book's seat, put together with shares that were let go together
pub rejoined : (bm am jm : Me') → IsBookSeat bm → jm ≡ (view_of bm.0.is_book bm.0.log bm.0.shares (bm.0.callers ++ am.0.callers), bm.1) → jm ≡ (view_of true bm.0.log bm.0.shares am.0.callers, [])
rejoined bm am jm b j = j ∙ (λ i. (view_of (b i).0.is_book bm.0.log bm.0.shares ((b i).0.callers ++ am.0.callers), (b i).1))

-- all callers were taken where none is left
pub all_taken : (xs ys rest : List Caller) (n : ℕ) → xs ≡ ys ++ rest → n ≡ length rest → n ≡ 0 → xs ≡ ys
all_taken xs ys [] n e l z = e ∙ append-nil ys
all_taken xs ys (g ∷ rest) n e l z = absurd (omega arith)
