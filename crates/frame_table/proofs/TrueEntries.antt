-- An entry that one seat has written, while no other went on, is the core's step from the state before to that after.
use Rattle.std.proofs.Common.{◌≡◌, ℕ, suc, ◌<◌, ◌≢◌, ◌⊎◌, Bool, cond, List, [], ◌∷◌, ◌++◌, length, set, fold, get_or, slice_set, Some, true, get_or-set_same, refl, ap, sym, subst, ◌∙◌, inl, inr}
use Rattle.std.proofs.Common.{arith, eq-eqb, ne_eqb, length-append}
use Rattle.std.proofs.lemmas.List.{set-set}
use Rattle.std.proofs.lemmas.Option.{same_Some, slice_get_within}
use mathlib.Core.Option.{some}
use mathlib.Core.Logic.{dite}
use native.Mathlib.Decide.{ℕ_discrete}
use lib.ListN.{get_elem?}
use Rattle.atomic_table.proofs.Lists.{set_here, set_else}
use Rattle.frame_table.proofs.CoreNames.{Shape, Event, ReaderStep, KeeperStep, Phase, Spent as spent_phase, State, step, Rule, words_of, History, history_after, history_with, run_of, log_of}
use Rattle.frame_table.proofs.CoreNames.{keeper_log_of, phase_at, may_read, seat_after}
use Rattle.frame_core.specs.declared.event.Event.TheVariants as event
use Rattle.frame_core.proofs.Above.{seat_there, if_made, step_keeps, run_rule}
use Rattle.frame_table.proofs.Names.{View, Keeper, Reader, Spent, Begins, Holds, reader_word, written, IsReaderStep, Moment, IsOpen, IsTrueEntry, ReadersLogIsTrue, KeepersLogIsTrue, ReaderLog}
use Rattle.frame_table.proofs.Names.{KeeperLog}
use Rattle.frame_table.proofs.Looked.{got}
use Rattle.frame_table.proofs.Orders.{fold_grows, log_grows, keeper_log_grows}
use Rattle.frame_table.proofs.Making.{phase_is, seen as tied_at}
use Rattle.frame_table.proofs.ReaderWords.{reader_step_is}
use Rattle.frame_table.proofs.Replays.{last_step}
use Rattle.frame_table.proofs.Truth.{longest_of, seen_begins, reader_told, keeper_told}

-- ---------------------------------------------------------------- steps that were made

no_more : {A : Type 0} (xs ys : List A) (a : A) → Begins (xs ++ a ∷ []) ys → xs ≡ ys → ⊥
no_more xs ys a b same = omega (arith, ap length b.1, length-append (xs ++ a ∷ []) b.0, length-append xs (a ∷ []), ap length same)

module _ (sh : Shape) where
  abbrev Good : History → Type 0
  Good h = Rule sh h.state

  good_more : (h : History) (x : Event) (r : ℕ × State) → Good h → step sh h.state x ≡ Some r → Good (history_with h x (Some r))
  good_more h x r good is = step_keeps sh h.state x r is good

  below : (h : History) (p : ℕ) (e : ReaderStep) (r : ℕ × State) → Good h → step sh h.state (event.Reader p e) ≡ Some r → p < sh.passes
  below h p e r good is =
      let there = seat_there sh e h.state p (if_made (may_read sh e (phase_at h.state p)) _ r (λ x. may_read sh e (phase_at h.state p) ≡ true) is (λ may. may)) in
      omega (arith, there, good.seat_count)

  -- a step of another reader is told in its log for ever
  other_reader : (h : History) (p : ℕ) (e : ReaderStep) (r : ℕ × State) (xs : List Event)
      → log_of p h.trace ≡ log_of p (fold (history_after sh) (history_with h (event.Reader p e) (Some r)) xs).trace → ⊥
  other_reader h p e r xs same =
      let next = history_with h (event.Reader p e) (Some r) in
      let last = fold (history_after sh) next xs in
      let log : ReaderLog = log_of p h.trace in
      let mine : log_of p next.trace ≡ log ++ (e, r.0) ∷ [] = ap (λ (b : Bool). cond b (log ++ (e, r.0) ∷ []) log) (eq-eqb p p refl) in
      no_more log (log_of p last.trace) (e, r.0) (subst (λ (l : ReaderLog). Begins l (log_of p last.trace)) mine (fold_grows (λ (g : History). log_of p g.trace) (log_grows p) sh xs next)) same

  keepers_step : (h : History) (k : KeeperStep) (r : ℕ × State) (xs : List Event)
      → keeper_log_of h.trace ≡ keeper_log_of (fold (history_after sh) (history_with h (event.Keeper k) (Some r)) xs).trace → ⊥
  keepers_step h k r xs same =
      let next = history_with h (event.Keeper k) (Some r) in
      let last = fold (history_after sh) next xs in
      no_more (keeper_log_of h.trace) (keeper_log_of last.trace) (k, r.0) (fold_grows (λ (g : History). keeper_log_of g.trace) keeper_log_grows sh xs next) same

  -- ---------------------------------------------------------------- a reader's step

  module _ (q : ℕ) where
    abbrev Same : History → History → Type 0
    Same h g = (keeper_log_of h.trace ≡ keeper_log_of g.trace) × ((r : ℕ) → r < sh.passes → r ≢ q → log_of r h.trace ≡ log_of r g.trace)

    abbrev Turn : History → Event → ℕ × State → Type 0
    Turn h x r = ((e : ReaderStep) × (x ≡ event.Reader q e) × (log_of q (history_with h x (Some r)).trace ≡ log_of q h.trace ++ (e, r.0) ∷ [])
        × ((g : History) → Same h g → Same (history_with h x (Some r)) g))
        ⊎ ((xs : List Event) → ¬ Same h (fold (history_after sh) (history_with h x (Some r)) xs))

    mine : (h : History) (p : ℕ) (e : ReaderStep) (r : ℕ × State) → p ≡ q → Turn h (event.Reader p e) r
    mine h p e r here =
        let log : ReaderLog = log_of q h.trace in
        inl (
          e,
          ap (λ (k : ℕ). event.Reader k e) here,
          ap (λ (b : Bool). cond b (log ++ (e, r.0) ∷ []) log) (eq-eqb p q here),
          (λ g same. (same.0, λ k few ne. ap (λ (b : Bool). cond b (log_of k h.trace ++ (e, r.0) ∷ []) (log_of k h.trace)) (ne_eqb p k (λ is. ne (sym is ∙ here))) ∙ same.1 k few ne)),
        )

    turns : (h : History) (x : Event) (r : ℕ × State) → Good h → step sh h.state x ≡ Some r → Turn h x r
    turns h (event.Reader p e) r good is = dite (ℕ_discrete p q) (λ here. mine h p e r here) (λ ne. inr (λ xs same. other_reader h p e r xs (same.1 p (below h p e r good is) ne)))
    turns h (event.Keeper k) r good is = inr (λ xs same. keepers_step h k r xs same.0)

  -- ---------------------------------------------------------------- a keeper's step

  abbrev SameReaders : History → History → Type 0
  SameReaders h g = (r : ℕ) → r < sh.passes → log_of r h.trace ≡ log_of r g.trace

  keeper_turns : (h : History) (x : Event) (r : ℕ × State) → Good h → step sh h.state x ≡ Some r
      → ((e : KeeperStep) × (x ≡ event.Keeper e) × (keeper_log_of (history_with h x (Some r)).trace ≡ keeper_log_of h.trace ++ (e, r.0) ∷ [])
      × ((g : History) → SameReaders h g → SameReaders (history_with h x (Some r)) g))
      ⊎ ((xs : List Event) → ¬ SameReaders h (fold (history_after sh) (history_with h x (Some r)) xs))
  keeper_turns h (event.Reader p e) r good is = inr (λ xs same. other_reader h p e r xs (same p (below h p e r good is)))
  keeper_turns h (event.Keeper k) r good is = inl (k, refl, refl, (λ g same. same))

-- ---------------------------------------------------------------- two moments

module _ (sh : Shape) (t t' : Moment) (h : Holds sh t) (h' : Holds sh t') (j : ℕ) (v w : View) (at : get_elem? t.views j ≡ some v) (is : t'.views ≡ set t.views j w) where
  same_others : set t'.views j Spent ≡ set t.views j Spent
  same_others = ap (λ (l : List View). set l j Spent) is ∙ set-set t.views j w Spent

  at' : get_elem? t'.views j ≡ some w
  at' = ap (λ (l : List View). get_elem? l j) is ∙ set_here t.views j w (slice_get_within t.views j v (got t.views j v at))

  still_open : IsOpen j t → IsOpen j t'
  still_open unspent i ne there = unspent i ne (sym (ap (λ (l : List View). get_elem? l i) is ∙ set_else t.views j i w ne) ∙ there)

  abbrev seen : List Event
  seen = longest_of (set t.views j Spent)

  begins' : Begins seen h'.events
  begins' = subst (λ (l : List View). Begins (longest_of l) h'.events) same_others (seen_begins sh t' h' j)

  readers' : IsOpen j t → (r : ℕ) → r < sh.passes → suc r ≢ j → log_of r (run_of sh seen).trace ≡ log_of r (run_of sh h'.events).trace
  readers' unspent r few ne =
      subst (λ (l : List View). log_of r (run_of sh (longest_of l)).trace ≡ log_of r (run_of sh h'.events).trace) same_others (reader_told sh t' h' j (still_open unspent) r few ne)

  keeper' : 0 ≢ j → keeper_log_of (run_of sh seen).trace ≡ keeper_log_of (run_of sh h'.events).trace
  keeper' ne = subst (λ (l : List View). keeper_log_of (run_of sh (longest_of l)).trace ≡ keeper_log_of (run_of sh h'.events).trace) same_others (keeper_told sh t' h' j ne)

made_by_reader : (sh : Shape) (t t' : Moment) (q : ℕ) (phase phase' : Phase) (log : ReaderLog) (order order' : List Event) (e : ReaderStep) (n : ℕ) (h : Holds sh t) (h' : Holds sh t')
    → IsOpen (suc q) t → get_elem? t.views (suc q) ≡ some (Reader sh phase log order) → t'.views ≡ set t.views (suc q) (Reader sh phase' (log ++ (e, n) ∷ []) order')
    → step sh (run_of sh h.events).state (event.Reader q e) ≡ Some (n, (run_of sh h'.events).state)
made_by_reader sh t t' q phase phase' log order order' e n h h' unspent at is =
    let v : View = Reader sh phase log order in
    let w : View = Reader sh phase' (log ++ (e, n) ∷ []) order' in
    let j : ℕ = suc q in
    let apart : 0 ≢ j = λ x. omega (arith, x) in
    let other = λ (r : ℕ) (ne : r ≢ q). let a : suc r ≢ j = λ x. ne (omega (arith, x)) in a in
    let old = (tied_at sh t h j v at).1 in
    let new = (tied_at sh t' h' j w (at' sh t t' h h' j v w at is)).1 in
    last_step sh (λ (x : ReaderStep). event.Reader q x) (λ (g : History). log_of q g.trace) (Good sh) (Same sh q) (turns sh q) (good_more sh)
    (seen sh t t' h h' j v w at is) h.events h'.events (e, n) (seen_begins sh t h j) (begins' sh t t' h h' j v w at is) (run_rule sh h.shape (seen sh t t' h h' j v w at is))
    (keeper_told sh t h j apart, λ r few ne. reader_told sh t h j unspent r few (other r ne))
    (keeper' sh t t' h h' j v w at is apart, λ r few ne. readers' sh t t' h h' j v w at is unspent r few (other r ne))
    (sym new ∙ ap (λ (l : ReaderLog). l ++ (e, n) ∷ []) old)

-- ---------------------------------------------------------------- the entry

entry_is : (sh : Shape) (s next : State) (t t' : Moment) (q : ℕ) (phase phase' : Phase) (e : ReaderStep) (n : ℕ) → Rule sh s → t.words ≡ words_of s → t'.words ≡ words_of next
    → phase_at s q ≡ phase → phase_at next q ≡ phase' → step sh s (event.Reader q e) ≡ Some (n, next) → IsTrueEntry sh t t' phase phase' e n
entry_is sh s next t t' q phase phase' e n rule words words' at at' is =
    let may : may_read sh e (phase_at s q) ≡ true = if_made (may_read sh e (phase_at s q)) _ (n, next) (λ x. may_read sh e (phase_at s q) ≡ true) is (λ m. m) in
    let half : IsReaderStep sh s q e phase = subst (IsReaderStep sh s q e) at (reader_step_is sh s rule q e may) in
    let same : (half.found, half.next) ≡ (n, next) = same_Some (half.found, half.next) (n, next) (sym half.steps ∙ is) in
    let found : half.found ≡ n = ap (λ (x : ℕ × State). x.0) same in
    let state : half.next ≡ next = ap (λ (x : ℕ × State). x.1) same in
    let i : ℕ = reader_word sh e phase in
    let seats : next.seats ≡ slice_set s.seats q (seat_after sh e phase n) =
    ap (λ (x : State). x.seats) (sym state) ∙ (half.seats ∙ ap (λ (m : ℕ). slice_set s.seats q (seat_after sh e phase m)) found) in
    record {
      allowed = subst (λ (x : Phase). may_read sh e x ≡ true) at may;
      found_is = sym found ∙ (sym half.word ∙ ap (λ (l : List ℕ). get_or l i 0) (sym words));
      words = words' ∙ (ap words_of (sym state) ∙ (sym half.words ∙ (λ k. slice_set (sym words k) i (written e phase (found k)))));
      phase_is = sym at' ∙ (ap (λ (l : List Phase). get_or l q spent_phase) seats ∙ get_or-set_same s.seats q (seat_after sh e phase n) spent_phase (seat_there sh e s q may));
    }

-- no log of a reader lies
pub readers_log_is_true : ReadersLogIsTrue
readers_log_is_true sh t t' q phase phase' log order order' e n h h' unspent at is =
    let v : View = Reader sh phase log order in
    let w : View = Reader sh phase' (log ++ (e, n) ∷ []) order' in
    let s = (run_of sh h.events).state in
    let next = (run_of sh h'.events).state in
    entry_is sh s next t t' q phase phase' e n (run_rule sh h.shape h.events) h.after.words_are h'.after.words_are
    (phase_is sh t h q v at) (phase_is sh t' h' q w (at' sh t t' h h' (suc q) v w at is))
    (made_by_reader sh t t' q phase phase' log order order' e n h h' unspent at is)

-- no log of the keeper lies
pub keepers_log_is_true : KeepersLogIsTrue
keepers_log_is_true sh t t' ledger ledger' tally tally' log order order' e n h h' unspent at is =
    let v : View = Keeper sh ledger tally log order in
    let w : View = Keeper sh ledger' tally' (log ++ (e, n) ∷ []) order' in
    let old = tied_at sh t h 0 v at in
    let new = tied_at sh t' h' 0 w (at' sh t t' h h' 0 v w at is) in
    let apart = λ (r : ℕ). let a : suc r ≢ 0 = λ x. omega (arith, x) in a in
    let steps = last_step sh event.Keeper (λ (g : History). keeper_log_of g.trace) (Good sh) (SameReaders sh) (keeper_turns sh) (good_more sh)
    (seen sh t t' h h' 0 v w at is) h.events h'.events (e, n) (seen_begins sh t h 0) (begins' sh t t' h h' 0 v w at is) (run_rule sh h.shape (seen sh t t' h h' 0 v w at is))
    (λ r few. reader_told sh t h 0 unspent r few (apart r)) (λ r few. readers' sh t t' h h' 0 v w at is unspent r few (apart r))
    (sym new.3 ∙ ap (λ (l : KeeperLog). l ++ (e, n) ∷ []) old.3) in (
      (run_of sh h.events).state,
      (run_of sh h'.events).state,
      record { rule = run_rule sh h.shape h.events; words = h.after.words_are; step = steps; left = h'.after.words_are },
      old.1,
      new.1,
    )
