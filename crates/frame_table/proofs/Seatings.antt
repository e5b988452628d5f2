-- The table's rule where a pass is made, where one is given back, and what it says at the end.
use Rattle.std.proofs.Common.{◌≡◌, ℕ, zero, suc, ◌+◌, ◌-◌, ◌<◌, ◌≤◌, ◌≢◌, Bool, true, false, cond, List, [], ◌∷◌, ◌++◌, map, set, get_or, replicate, count_by, sym, refl, ap, ◌∙◌, subst, ⊎_elim, inl}
use Rattle.std.proofs.Common.{inr, ◌⊎◌, length, arith, append_assoc, append-nil}
use Rattle.std.proofs.lemmas.List.{map-set}
use Rattle.std.proofs.lemmas.List.Sums.{sum_by-append, sum_by-cons}
use Rattle.std.proofs.lemmas.Option.{get_or_from_slice_get, slice_get_within}
use mathlib.Core.Option.{some, some-injective}
use mathlib.Core.Logic.{dite}
use native.Mathlib.Decide.{ℕ_discrete}
use lib.ListN.{get_elem?}
use Rattle.atomic_table.specs.Table.{Splits, Joins, Seen, Final}
use Rattle.atomic_table.proofs.Lists.{at_map, at_longer, at_snoc, set_again, set_here, set_else}
use Rattle.frame_table.proofs.CoreNames.{Shape, Event, Ledger, Phase, Idle, Spent as spent_phase, count_in, life_in, words_of, History, run_of, keeper_log_of, is_on, readers_on}
use Rattle.frame_core.specs.State as core
use Rattle.frame_core.specs.Rule as core_rule
use Rattle.frame_core.proofs.Above.{count_set, count_found, life_found, word_get, place_get}
use Rattle.frame_table.proofs.Names.{Tally, View, Keeper, Reader, Spent, ReaderLog, KeeperLog, phase_of, order_of, tally_of, Begins, later, Moment, Holds, IsAfter, IsInOrder, Tied, all_views, is_out}
use Rattle.frame_table.proofs.Names.{one_more, newcomer, one_less, Ends}
use Rattle.frame_table.proofs.Looked.{got, each_put}
use Rattle.frame_table.proofs.Orders.{begins_shorter, begins_whole, later_is, between, keeper_log_grows}
use Rattle.frame_table.proofs.Making.{all_set, out_same, kept, seen}
use Rattle.frame_table.proofs.KeeperMay.{keeper_retold}

module _ (sh : Shape) where
  abbrev idle : View
  idle = Reader sh Idle [] []

  one_idle_less : (n : ℕ) → 0 < n → (idle ∷ []) ++ replicate (n - 1) idle ≡ replicate n idle
  one_idle_less zero few = absurd (omega arith)
  one_idle_less (suc n) few = let e : suc n - 1 ≡ n = omega arith in ap (λ (m : ℕ). idle ∷ replicate m idle) e

  -- a pass that was given back is as one that is idle
  spent_is_idle : (h : History) (tally : Tally) (words : List ℕ) (views : List View) (q : ℕ) (log : ReaderLog) (order : List Event)
      → get_elem? views (suc q) ≡ some (Reader sh Idle log order) → IsAfter sh h tally words views → IsAfter sh h tally words (set views (suc q) Spent)
  spent_is_idle h tally words views q log order at is = record {
    words_are = is.words_are;
    phases_are = map-set phase_of views (suc q) Spent
        ∙ (set_again (map phase_of views) (suc q) Idle (at_map phase_of views (suc q) (Reader sh Idle log order) at) ∙ is.phases_are);
    tied = each_put (Tied sh h tally) views (suc q) Spent tt (λ j v ne of. is.tied j v of);
  }

-- ---------------------------------------------------------------- the orders, where a view changes

apart : (q : ℕ) → 0 ≢ suc q
apart q e = omega (arith, e)

abbrev Longest : List Event → List View → Type 0
Longest events views = (j : ℕ) × (v : View) × (get_elem? views j ≡ some v) × (order_of v ≡ events)

-- a pass that is new has seen nothing
new_in_order : (sh : Shape) (events : List Event) (j : ℕ) (v : View) → idle sh ≡ v → IsInOrder sh events j v
new_in_order sh events zero v is = subst (IsInOrder sh events 0) is tt
new_in_order sh events (suc q) v is = subst (IsInOrder sh events (suc q)) is ((events, refl), refl)

abbrev longest_else : (events : List Event) (views : List View) (i : ℕ) (w : View) (l : Longest events views) → l.0 ≢ i → Longest events (set views i w)
longest_else events views i w l ne = (l.0, l.1, set_else views i l.0 w ne ∙ l.2, l.3)

abbrev longest_here : (events : List Event) (views : List View) (i : ℕ) (v w : View) → get_elem? views i ≡ some v → order_of w ≡ events → Longest events (set views i w)
longest_here events views i v w at is = (i, w, set_here views i w (slice_get_within views i v (got views i v at)), is)

one_view : (views : List View) (i j : ℕ) (v w : View) → j ≡ i → get_elem? views i ≡ some v → get_elem? views j ≡ some w → w ≡ v
one_view views i j v w same at at' = some-injective w v (sym at' ∙ (ap (get_elem? views) same ∙ at))

-- a view tells another tally, of the same order
longest_set : (events : List Event) (views : List View) (i : ℕ) (v w : View) → get_elem? views i ≡ some v → order_of w ≡ order_of v
    → Longest events views → Longest events (set views i w)
longest_set events views i v w at still l =
    dite (ℕ_discrete l.0 i)
    (λ here. longest_here events views i v w at (still ∙ (sym (ap order_of (one_view views i l.0 v l.1 here at l.2)) ∙ l.3)))
    (λ else. longest_else events views i w l else)

-- a pass that was out is so no more
out_less : (views : List View) (j : ℕ) (v w : View) → get_elem? views j ≡ some v → is_out v ≡ true → is_out w ≡ false → count_by is_out (set views j w) + 1 ≡ count_by is_out views
out_less views j v w at out spent =
    let here = got views j v at in
    let e = count_set is_out views j v w (slice_get_within views j v here) in
    let was : ◌≡◌ {A = ℕ} (cond (is_out (get_or views j v)) 1 0) 1 = ap (λ (b : Bool). cond b 1 0) (ap is_out (get_or_from_slice_get views j v v here) ∙ out) in
    let now : ◌≡◌ {A = ℕ} (cond (is_out w) 1 0) 0 = ap (λ (b : Bool). cond b 1 0) spent in
    omega (arith, e, was, now)

module _ (sh : Shape) (k : Ledger) (tally : Tally) (log : KeeperLog) (order : List Event) where
  abbrev keeper : View
  keeper = Keeper sh k tally log order

  -- the keeper's view tells another tally, of as many passes that are still to be made
  retold : (t : Moment) (tally' : Tally) (next : List Event) (h : Holds sh t) → get_elem? t.views 0 ≡ some keeper
      → IsAfter sh (run_of sh h.events) tally' t.words (set (all_views sh tally t.views) 0 (Keeper sh k tally' log next))
  retold t tally' next h at =
      let past = run_of sh h.events in
      let tied = seen sh t h 0 keeper at in
      keeper_retold sh past h.tally tally' t.words (all_views sh tally t.views) keeper (Keeper sh k tally' log next)
      refl (refl, tied.1, refl, tied.3)
      (at_longer t.views (replicate tally.unmade (Reader sh Idle [] [])) 0 keeper at)
      (subst (λ (x : Tally). IsAfter sh past h.tally t.words (all_views sh x t.views)) (sym tied.2) h.after)

  passes_out : (t : Moment) (h : Holds sh t) → get_elem? t.views 0 ≡ some keeper → count_by is_out t.views ≡ tally.out
  passes_out t h at = h.out ∙ ap (λ (x : Tally). x.out) (sym (seen sh t h 0 keeper at).2)

  -- ---------------------------------------------------------------- a pass is made

  -- a pass that is still to be made may be made
  pub may_make : (id : ℕ) → 0 < tally.unmade → Splits (Holds sh) id keeper (one_more keeper) (newcomer keeper)
  may_make (suc id) few t h at = absurd (seen sh t h (suc id) keeper at)
  may_make zero few t h at =
      let tally' : Tally = tally_of (tally.unmade - 1) (tally.out + 1) in
      let next : View = Keeper sh k tally' log order in
      let views : List View = set t.views 0 next in
      let same : all_views sh tally' (views ++ idle sh ∷ []) ≡ set (all_views sh tally t.views) 0 next =
      append_assoc views (idle sh ∷ []) (replicate (tally.unmade - 1) (idle sh))
      ∙ (ap (λ (l : List View). views ++ l) (one_idle_less sh tally.unmade few) ∙ all_set sh tally t.views 0 keeper next at) in
      record {
        shape = h.shape;
        events = h.events;
        tally = tally';
        after = subst (IsAfter sh (run_of sh h.events) tally' t.words) (sym same) (retold t tally' order h at);
        out = omega (arith, sum_by-append (λ (v : View). cond (is_out v) 1 0) views (idle sh ∷ []), out_same t.views 0 keeper next at refl, passes_out t h at);
        orders = λ j v of. ⊎_elim (each_put (IsInOrder sh h.events) t.views 0 next (h.orders 0 keeper at) (λ k x ne. h.orders k x) j v) (new_in_order sh h.events j v) (at_snoc views (idle sh) v j of);
        longest = let l = longest_set h.events t.views 0 keeper next at refl h.longest in (l.0, l.1, at_longer views (idle sh ∷ []) l.0 l.1 l.2, l.3);
      }

  -- ---------------------------------------------------------------- a pass is given back

  -- the keeper has seen then what either has
  module _ (events : List Event) (other : List Event) (first : Begins order events) (second : Begins other events) where
    longer_is : (order ≡ events) ⊎ (other ≡ events) → later order other ≡ events
    longer_is whole = later_is (λ (l : List Event). l ≡ events) order other
        (λ few. ⊎_elim (λ is. is) (λ is. sym (begins_whole order events first (subst (λ (l : List Event). length l ≤ length order) is few))) whole)
        (λ few. ⊎_elim (λ is. sym (begins_whole other events second (subst (λ (l : List Event). length l ≤ length other) is few))) (λ is. is) whole)

    joined : log ≡ keeper_log_of (run_of sh order).trace → log ≡ keeper_log_of (run_of sh events).trace
        → Begins (later order other) events × (log ≡ keeper_log_of (run_of sh (later order other)).trace)
    joined mine all = later_is (λ (l : List Event). Begins l events × (log ≡ keeper_log_of (run_of sh l).trace)) order other (λ few. (first, mine))
        (λ few. (
          second,
          mine ∙ sym (between (λ (h : History). keeper_log_of h.trace) keeper_log_grows sh order other events
              (begins_shorter order other events first second few) second (sym mine ∙ all)),
        ))

  given_here : (t : Moment) (q : ℕ) (mine : ReaderLog) (other : List Event) → 0 < tally.out → Holds sh t → get_elem? t.views 0 ≡ some keeper → get_elem? (set t.views 0 (one_less keeper (Reader sh Idle mine other))) (suc q) ≡ some (Reader sh Idle mine other)
      → Holds sh record { words = t.words; homes = t.homes; views = set (set t.views 0 (one_less keeper (Reader sh Idle mine other))) (suc q) Spent }
  given_here t q mine other few h at there =
      let tally' : Tally = tally_of tally.unmade (tally.out - 1) in
      let old : View = Reader sh Idle mine other in
      let next : View = Keeper sh k tally' log (later order other) in
      let views : List View = set t.views 0 next in
      let past = run_of sh h.events in
      let retold_all : IsAfter sh past tally' t.words (all_views sh tally' views) =
      subst (IsAfter sh past tally' t.words) (sym (all_set sh tally t.views 0 keeper next at)) (retold t tally' (later order other) h at) in
      let at_all = at_longer views (replicate tally.unmade (Reader sh Idle [] [])) (suc q) old there in
      let was : get_elem? t.views (suc q) ≡ some old = sym (set_else t.views 0 (suc q) next (λ e. apart q (sym e))) ∙ there in
      let first = h.orders 0 keeper at in
      let second = h.orders (suc q) old was in
      let tied = seen sh t h 0 keeper at in
      record {
        shape = h.shape;
        events = h.events;
        tally = tally';
        after = subst (IsAfter sh past tally' t.words) (sym (all_set sh tally' views (suc q) old Spent there))
            (spent_is_idle sh past tally' t.words (all_views sh tally' views) q mine other at_all retold_all);
        out = omega (
          arith,
          out_less views (suc q) old Spent there refl refl,
          out_same t.views 0 keeper next at refl,
          passes_out t h at,
        );
        orders = each_put (IsInOrder sh h.events) views (suc q) Spent tt
            (λ j v ne. each_put (IsInOrder sh h.events) t.views 0 next (joined h.events other first.0 second.0 first.1 tied.3) (λ k x other_view. h.orders k x) j v);
        longest = dite (ℕ_discrete h.longest.0 (suc q))
            (λ here. let is : other ≡ h.events = sym (ap order_of (one_view t.views (suc q) h.longest.0 old h.longest.1 here was h.longest.2)) ∙ h.longest.3 in
            longest_else h.events views (suc q) Spent (longest_here h.events t.views 0 keeper next at (longer_is h.events other first.0 second.0 (inr is))) (apart q))
            (λ else. dite (ℕ_discrete h.longest.0 0)
            (λ here. let is : order ≡ h.events = sym (ap order_of (one_view t.views 0 h.longest.0 keeper h.longest.1 here at h.longest.2)) ∙ h.longest.3 in
            longest_else h.events views (suc q) Spent (longest_here h.events t.views 0 keeper next at (longer_is h.events other first.0 second.0 (inl is))) (apart q))
            (λ ne. longest_else h.events views (suc q) Spent (longest_else h.events t.views 0 next h.longest ne) else));
      }

  -- a pass that is idle may be given back
  pub may_give : (id other : ℕ) (mine : ReaderLog) (met : List Event) → 0 < tally.out → Joins (Holds sh) id keeper other (Reader sh Idle mine met) (one_less keeper (Reader sh Idle mine met)) Spent
  may_give (suc id) other mine met few t h at apart there = absurd (seen sh t h (suc id) keeper at)
  may_give zero zero mine met few t h at apart there = absurd (apart refl)
  may_give zero (suc q) mine met few t h at apart there = given_here t q mine met few h at there

  -- ---------------------------------------------------------------- the end

  at_most_one : (b : Bool) → cond b 1 0 ≤ 1
  at_most_one true = omega arith
  at_most_one false = omega arith

  -- where no pass is out, nobody has a reference on a frame
  none_on : (f : ℕ) (v : View) → cond (is_on f (phase_of v)) 1 0 ≤ cond (is_out v) 1 0
  none_on f (Reader sh' phase mine order) = at_most_one (is_on f phase)
  none_on f (Keeper sh' k' t mine order) = omega arith
  none_on f Spent = omega arith

  on_at_most_out : (f : ℕ) (views : List View) → count_by (is_on f) (map phase_of views) ≤ count_by is_out views
  on_at_most_out f [] = omega arith
  on_at_most_out f (v ∷ vs) =
      omega (
        arith,
        sum_by-cons (λ (p : Phase). cond (is_on f p) 1 0) (phase_of v) (map phase_of vs),
        sum_by-cons (λ (x : View). cond (is_out x) 1 0) v vs,
        none_on f v,
        on_at_most_out f vs,
      )

  ends_here : (s : core.State) → core_rule.Rule sh s → ((f : ℕ) → readers_on f s.seats ≡ 0) → Ends s.ledger record { shape = sh; words = words_of s }
  ends_here s rule free = record {
    counts = λ f inside. let counted = (rule.frames f inside).counted in
        ap count_in (word_get sh s rule f inside) ∙ (count_found sh s rule f inside ∙ omega (arith, counted, free f));
    generations = λ f inside. ap life_in (word_get sh s rule f inside) ∙ life_found sh s rule f inside;
    places = λ p inside. place_get sh s rule p inside;
  }

  -- where all passes are back, each count is the keeper's own references
  pub ends : (id : ℕ) (ws : List ℕ) (xs : List (Unit {0})) → tally.unmade ≡ 0 → tally.out ≡ 0 → Final (Seen (Holds sh) id keeper) ws xs → Ends k record { shape = sh; words = ws }
  ends (suc id) ws xs none_unmade none_out final = absurd (seen sh final.0 final.1.0 (suc id) keeper final.1.1)
  ends zero ws xs none_unmade none_out final =
      let t = final.0 in
      let h = final.1.0 in
      let s = (run_of sh h.events).state in
      let tied = seen sh t h 0 keeper final.1.1 in
      let unmade : h.tally.unmade ≡ 0 = ap (λ (x : Tally). x.unmade) (sym tied.2) ∙ none_unmade in
      let views : all_views sh h.tally t.views ≡ t.views = ap (λ (n : ℕ). t.views ++ replicate n (Reader sh Idle [] [])) unmade ∙ append-nil t.views in
      let phases : map phase_of t.views ≡ spent_phase ∷ s.seats = ap (map phase_of) (sym views) ∙ h.after.phases_are in
      let free = λ (f : ℕ). let some = sum_by-cons (λ (p : Phase). cond (is_on f p) 1 0) spent_phase s.seats in
      let most : count_by (is_on f) (spent_phase ∷ s.seats) ≤ count_by is_out t.views =
      subst (λ (l : List Phase). count_by (is_on f) l ≤ count_by is_out t.views) phases (on_at_most_out f t.views) in
      let none : readers_on f s.seats ≡ 0 = omega (arith, some, most, passes_out t h final.1.1, none_out) in none in
      subst (λ (x : Ledger × List ℕ). Ends x.0 record { shape = sh; words = x.1 })
      (λ i. (sym tied.1 i, (sym h.after.words_are ∙ final.2) i)) (ends_here s (kept sh t h) free)
