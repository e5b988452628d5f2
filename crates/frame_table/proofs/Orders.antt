-- Beginnings of one list, and what is told of a seat's steps at the beginnings of a run.
use Rattle.std.proofs.Common.{◌≡◌, ℕ, zero, suc, ◌≤◌, Bool, true, false, cond, eqb, leb, List, [], ◌∷◌, ◌++◌, length, Option, Some, None, fold, refl, ap, sym, subst, ◌∙◌, arith, append_assoc}
use Rattle.std.proofs.Common.{append-nil, length-append}
use Rattle.std.proofs.lemmas.Bool.{leb-true, leb-false}
use Rattle.std.proofs.lemmas.List.{nil_from_length}
use Rattle.std.proofs.lemmas.List.Sums.{fold-append}
use Rattle.frame_table.proofs.CoreNames.{Shape, Event, State, step, History, first_history, history_after, history_with, run_of, log_of, keeper_log_of}
use Rattle.frame_core.specs.declared.event.Event.TheVariants as event
use Rattle.frame_table.proofs.Names.{View, Keeper, Reader, Begins, later, IsInOrder}

module _ {A : Type 0} where
  -- a list is a beginning of itself
  pub begins_itself : (xs : List A) → Begins xs xs
  begins_itself xs = ([], sym (append-nil xs))

  -- a beginning of a list is a beginning of that list with more behind it
  pub begins_more : (xs ys zs : List A) → Begins xs ys → Begins xs (ys ++ zs)
  begins_more xs ys zs b = (b.0 ++ zs, ap (λ (l : List A). l ++ zs) b.1 ∙ append_assoc xs b.0 zs)

  -- a beginning of a beginning is a beginning
  pub begins_trans : (xs ys zs : List A) → Begins xs ys → Begins ys zs → Begins xs zs
  begins_trans xs ys zs a b = (a.0 ++ b.0, b.1 ∙ (ap (λ (l : List A). l ++ b.0) a.1 ∙ append_assoc xs a.0 b.0))

  -- a beginning that is as long is the whole
  pub begins_whole : (xs ys : List A) → Begins xs ys → length ys ≤ length xs → ys ≡ xs
  begins_whole xs ys b few =
      let none : b.0 ≡ [] = nil_from_length b.0 (omega (arith, few, ap length b.1, length-append xs b.0)) in b.1 ∙ (ap (λ (l : List A). xs ++ l) none ∙ append-nil xs)

  begins_length : (xs ys : List A) → Begins xs ys → length xs ≤ length ys
  begins_length xs ys b = omega (arith, ap length b.1, length-append xs b.0)

  -- two lists that are beginnings of each other are equal
  pub begins_both : (xs ys : List A) → Begins xs ys → Begins ys xs → ys ≡ xs
  begins_both xs ys a b = begins_whole xs ys a (begins_length ys xs b)

  shorter : (xs ys : List A) (zs rest rest' : List A) → zs ≡ xs ++ rest → zs ≡ ys ++ rest' → length xs ≤ length ys → Begins xs ys
  shorter [] ys zs rest rest' a b few = (ys, refl)
  shorter (x ∷ xs) [] zs rest rest' a b few = absurd (omega (arith, few))
  shorter (x ∷ xs) (y ∷ ys) zs rest rest' a b few =
      let e : x ∷ (xs ++ rest) ≡ y ∷ (ys ++ rest') = sym a ∙ b in
      let first : x ≡ y = cc (e) in
      let others : xs ++ rest ≡ ys ++ rest' = cc (e) in
      let r = shorter xs ys (xs ++ rest) rest rest' refl others (omega (arith, few)) in
      (r.0, λ i. sym first i ∷ r.1 i)

  -- of two beginnings of one list the shorter begins the longer
  pub begins_shorter : (xs ys zs : List A) → Begins xs zs → Begins ys zs → length xs ≤ length ys → Begins xs ys
  begins_shorter xs ys zs a b few = shorter xs ys zs a.0 b.0 a.1 b.1 few

-- ---------------------------------------------------------------- the later of two orders

later_case : (P : List Event → Type 0) (xs ys : List Event) (b : Bool) → leb (length ys) (length xs) ≡ b → (length ys ≤ length xs → P xs) → (length xs ≤ length ys → P ys) → P (cond b xs ys)
later_case P xs ys true is first second = first (leb-true (length ys) (length xs) is)
later_case P xs ys false is first second = second (omega (arith, leb-false (length ys) (length xs) is))

-- what holds of the longer of two orders holds of the later one
pub later_is : (P : List Event → Type 0) (xs ys : List Event) → (length ys ≤ length xs → P xs) → (length xs ≤ length ys → P ys) → P (later xs ys)
later_is P xs ys first second = later_case P xs ys (leb (length ys) (length xs)) refl first second

-- ---------------------------------------------------------------- logs grow

module _ {A : Type 0} (part : History → List A) (grows : (h : History) (e : Event) (r : ℕ × State) → Begins (part h) (part (history_with h e (Some r)))) where
  with_more : (h : History) (e : Event) (o : Option (ℕ × State)) → Begins (part h) (part (history_with h e o))
  with_more h e None = begins_itself (part h)
  with_more h e (Some r) = grows h e r

  -- what is told at a moment is a beginning of what is told at any later one
  pub fold_grows : (sh : Shape) (es : List Event) (h : History) → Begins (part h) (part (fold (history_after sh) h es))
  fold_grows sh [] h = begins_itself (part h)
  fold_grows sh (e ∷ es) h =
      begins_trans (part h) (part (history_after sh h e)) (part (fold (history_after sh) (history_after sh h e) es))
      (with_more h e (step sh h.state e)) (fold_grows sh es (history_after sh h e))

  -- what a run tells of a seat goes on from what a beginning of it tells
  pub part_grows : (sh : Shape) (es fs : List Event) → Begins es fs → Begins (part (run_of sh es)) (part (run_of sh fs))
  part_grows sh es fs b =
      subst (λ (h : History). Begins (part (run_of sh es)) (part h)) (sym (fold-append (history_after sh) (first_history sh) es b.0) ∙ ap (run_of sh) (sym b.1)) (fold_grows sh b.0 (run_of sh es))

  -- where a beginning of a run tells as much as the whole run, so does each longer beginning
  pub between : (sh : Shape) (es fs gs : List Event) → Begins es fs → Begins fs gs → part (run_of sh es) ≡ part (run_of sh gs) → part (run_of sh fs) ≡ part (run_of sh es)
  between sh es fs gs a b same =
      begins_both (part (run_of sh es)) (part (run_of sh fs)) (part_grows sh es fs a)
      (subst (Begins (part (run_of sh fs))) (sym same) (part_grows sh fs gs b))

log_entry : {A : Type 0} (x : A) (log : List A) (b : Bool) → Begins log (cond b (log ++ x ∷ []) log)
log_entry x log true = (x ∷ [], refl)
log_entry x log false = begins_itself log

-- the log of a reader grows
pub log_grows : (q : ℕ) (h : History) (e : Event) (r : ℕ × State) → Begins (log_of q h.trace) (log_of q (history_with h e (Some r)).trace)
log_grows q h (event.Reader p e) r = log_entry (e, r.0) (log_of q h.trace) (eqb p q)
log_grows q h (event.Keeper e) r = begins_itself (log_of q h.trace)

-- the log of the keeper grows
pub keeper_log_grows : (h : History) (e : Event) (r : ℕ × State) → Begins (keeper_log_of h.trace) (keeper_log_of (history_with h e (Some r)).trace)
keeper_log_grows h (event.Reader p e) r = begins_itself (keeper_log_of h.trace)
keeper_log_grows h (event.Keeper e) r = ((e, r.0) ∷ [], refl)

-- ---------------------------------------------------------------- what a view knows of the order

-- a view's order is still a beginning once more steps were made
pub in_order_more : (sh : Shape) (events more : List Event) (j : ℕ) (v : View) → IsInOrder sh events j v → IsInOrder sh (events ++ more) j v
in_order_more sh events more zero (Keeper sh' ledger tally log order) is = (begins_more order events more is.0, is.1)
in_order_more sh events more (suc q) (Reader sh' phase log order) is = (begins_more order events more is.0, is.1)
in_order_more sh events more _ _ is = tt
