-- Two runs that go on from one state by steps of one seat, and tell the same of all others: the longer log of the seat is that of the longer run.
use Rattle.std.proofs.Common.{◌≡◌, ℕ, List, [], ◌∷◌, ◌++◌, ◌⊎◌, Option, Some, None, fold, refl, ap, sym, subst, ◌∙◌, ⊎_elim, append_assoc, append-nil}
use Rattle.std.proofs.lemmas.List.{append_cancel_left}
use Rattle.std.proofs.lemmas.List.Sums.{fold-append}
use Rattle.std.proofs.lemmas.Option.{same_Some}
use Rattle.frame_table.proofs.CoreNames.{Shape, Event, State, step, History, first_history, history_after, history_with, run_of}
use Rattle.frame_table.specs.Orders.{Begins}

module _ {S : Type 0} (sh : Shape) (mk : S → Event) where
  -- steps made one after another lead from a state to the last, each with the word that it finds
  abbrev pub Replays : State → List (S × ℕ) → State → Type 0
  Replays s [] last = s ≡ last
  Replays s (x ∷ xs) last = (next : State) × (step sh s (mk x.0) ≡ Some (x.1, next)) × Replays next xs last

  -- after the same steps, the one more is made there
  one_more : (s : State) (xs : List (S × ℕ)) (x : S × ℕ) (a b : State) → Replays s xs a → Replays s (xs ++ x ∷ []) b → step sh a (mk x.0) ≡ Some (x.1, b)
  one_more s [] x a b here more = subst (λ (c : State). step sh c (mk x.0) ≡ Some (x.1, b)) here (subst (λ (c : State). step sh s (mk x.0) ≡ Some (x.1, c)) more.2 more.1)
  one_more s (y ∷ ys) x a b here more =
      let same : here.0 ≡ more.0 = ap (λ (p : ℕ × State). p.1) (same_Some (y.1, here.0) (y.1, more.0) (sym here.1 ∙ more.1)) in
      one_more here.0 ys x a b here.2 (subst (λ (c : State). Replays c (ys ++ x ∷ []) b) (sym same) more.2)

  module _ (own : History → List (S × ℕ)) (Good : History → Type 0) (Same : History → History → Type 0) where
    -- a step is the seat's, and is told of it alone; or it is told of another for ever
    abbrev pub Turns : Type 0
    Turns = (h : History) (x : Event) (r : ℕ × State) → Good h → step sh h.state x ≡ Some r
        → ((e : S) × (x ≡ mk e) × (own (history_with h x (Some r)) ≡ own h ++ (e, r.0) ∷ []) × ((g : History) → Same h g → Same (history_with h x (Some r)) g))
        ⊎ ((xs : List Event) → ¬ Same h (fold (history_after sh) (history_with h x (Some r)) xs))

    module _ (turns : Turns) (good_more : (h : History) (x : Event) (r : ℕ × State) → Good h → step sh h.state x ≡ Some r → Good (history_with h x (Some r))) where
      abbrev Walked : History → History → Type 0
      Walked h last = (xs : List (S × ℕ)) × (own last ≡ own h ++ xs) × Replays h.state xs last.state

      -- what follows of the steps after the first
      abbrev Walks : List Event → Type 0
      Walks xs = (h : History) → Good h → Same h (fold (history_after sh) h xs) → Walked h (fold (history_after sh) h xs)

      walk_with : (x : Event) (xs : List Event) (h : History) (o : Option (ℕ × State)) → Walks xs → Good h → step sh h.state x ≡ o
          → Same h (fold (history_after sh) (history_with h x o) xs) → Walked h (fold (history_after sh) (history_with h x o) xs)
      walk_with x xs h None walks good is same = walks h good same
      walk_with x xs h (Some r) walks good is same =
          let next = history_with h x (Some r) in
          ⊎_elim
          (λ (t : (e : S) × (x ≡ mk e) × (own next ≡ own h ++ (e, r.0) ∷ []) × ((g : History) → Same h g → Same next g)).
          let w = walks next (good_more h x r good is) (t.3 (fold (history_after sh) next xs) same) in
          let all : own (fold (history_after sh) next xs) ≡ own h ++ (t.0, r.0) ∷ w.0 = w.1 ∙ (ap (λ (l : List (S × ℕ)). l ++ w.0) t.2 ∙ append_assoc (own h) ((t.0, r.0) ∷ []) w.0) in
          let walked : Walked h (fold (history_after sh) next xs) = ((t.0, r.0) ∷ w.0, all, (r.1, subst (λ (y : Event). step sh h.state y ≡ Some r) t.1 is, w.2)) in walked)
          (λ never. absurd (never xs same))
          (turns h x r good is)

      walk : (xs : List Event) → Walks xs
      walk [] h good same = ([], sym (append-nil (own h)), refl)
      walk (x ∷ xs) h good same = walk_with x xs h (step sh h.state x) (walk xs) good refl same

      -- where one run tells one entry more of a seat than another, and else the same, that step follows the other run
      pub last_step : (first es fs : List Event) (x : S × ℕ) → Begins first es → Begins first fs → Good (run_of sh first)
          → Same (run_of sh first) (run_of sh es) → Same (run_of sh first) (run_of sh fs) → own (run_of sh fs) ≡ own (run_of sh es) ++ x ∷ []
          → step sh (run_of sh es).state (mk x.0) ≡ Some (x.1, (run_of sh fs).state)
      last_step first es fs x b c good same same' more =
          let h = run_of sh first in
          let to = λ (gs : List Event) (a : Begins first gs). let e : run_of sh gs ≡ fold (history_after sh) h a.0 = ap (run_of sh) a.1 ∙ fold-append (history_after sh) (first_history sh) first a.0 in e in
          let goes = λ (gs : List Event) (a : Begins first gs) (s : Same h (run_of sh gs)).
          let w : Walked h (run_of sh gs) = subst (λ (g : History). Walked h g) (sym (to gs a)) (walk a.0 h good (subst (Same h) (to gs a) s)) in w in
          let w = goes es b same in
          let v = goes fs c same' in
          let entries : v.0 ≡ w.0 ++ x ∷ [] = append_cancel_left (own h) v.0 (w.0 ++ x ∷ []) (sym v.1 ∙ (more ∙ (ap (λ (l : List (S × ℕ)). l ++ x ∷ []) w.1 ∙ append_assoc (own h) w.0 (x ∷ [])))) in
          one_more h.state w.0 x (run_of sh es).state (run_of sh fs).state w.2 (subst (λ (l : List (S × ℕ)). Replays h.state l (run_of sh fs).state) entries v.2)
