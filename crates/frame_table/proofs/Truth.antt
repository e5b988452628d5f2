-- Where one seat alone has gone on, by one entry of its log, the entry is the core's step: all that others have seen is the beginning of both orders.
use Rattle.std.proofs.Common.{◌≡◌, ℕ, zero, suc, ◌<◌, ◌≤◌, ◌≢◌, ◌⊎◌, List, [], ◌∷◌, ◌++◌, map, replicate, length, set, Some, refl, ap, sym, subst, ◌∙◌, ⊎_elim, inl, inr, arith}
use Rattle.std.proofs.lemmas.List.{length-map}
use mathlib.Core.Option.{some, some-injective, some-ne-none}
use lib.ListN.{get_elem?}
use Rattle.atomic_table.proofs.Lists.{set_else}
use Rattle.frame_table.proofs.CoreNames.{Shape, Event, Idle, State, History, history_with, run_of, log_of, keeper_log_of}
use Rattle.frame_core.proofs.Above.{run_rule}
use Rattle.frame_table.proofs.Names.{View, Keeper, Reader, Spent, Begins, later, Holds, Tied, IsInOrder, all_views, Moment, IsOpen, phase_of, order_of}
use Rattle.frame_table.proofs.Looked.{each_put}
use Rattle.frame_table.proofs.Making.{seen}
use Rattle.frame_table.proofs.Opening.{copied}
use Rattle.frame_table.proofs.Orders.{begins_shorter, later_is, between, log_grows, keeper_log_grows}

-- ---------------------------------------------------------------- the longest order of some views

-- the longest order of some views
abbrev pub longest_of : List View → List Event
longest_of [] = []
longest_of (v ∷ vs) = later (order_of v) (longest_of vs)

longest_begins : (vs : List View) (events : List Event) → ((i : ℕ) (v : View) → get_elem? vs i ≡ some v → Begins (order_of v) events) → Begins (longest_of vs) events
longest_begins [] events all = (events, refl)
longest_begins (v ∷ vs) events all =
    later_is (λ (l : List Event). Begins l events) (order_of v) (longest_of vs) (λ few. all 0 v refl) (λ few. longest_begins vs events (λ i w at. all (suc i) w at))

longest_most : (vs : List View) (i : ℕ) (v : View) → get_elem? vs i ≡ some v → length (order_of v) ≤ length (longest_of vs)
longest_most [] i v at = absurd (some-ne-none v (sym at))
longest_most (w ∷ ws) zero v at =
    let same : length (order_of w) ≡ length (order_of v) = ap (λ (x : View). length (order_of x)) (some-injective w v at) in
    later_is (λ (l : List Event). length (order_of v) ≤ length l) (order_of w) (longest_of ws) (λ few. omega (arith, same)) (λ few. omega (arith, same, few))
longest_most (w ∷ ws) (suc i) v at =
    let rest = longest_most ws i v at in
    later_is (λ (l : List Event). length (order_of v) ≤ length l) (order_of w) (longest_of ws) (λ few. omega (arith, rest, few)) (λ few. rest)

-- ---------------------------------------------------------------- views that are there

view_inside : (vs : List View) (i : ℕ) → i < length vs → (v : View) × (get_elem? vs i ≡ some v)
view_inside [] i below = absurd (omega arith)
view_inside (v ∷ vs) zero below = (v, refl)
view_inside (v ∷ vs) (suc i) below = view_inside vs i (omega arith)

there_or_new : (vs : List View) (n i : ℕ) (a v : View) → get_elem? (vs ++ replicate n a) i ≡ some v → (get_elem? vs i ≡ some v) ⊎ (a ≡ v)
there_or_new [] n i a v at = inr (copied n i a v at)
there_or_new (w ∷ ws) n zero a v at = inl at
there_or_new (w ∷ ws) n (suc i) a v at = there_or_new ws n i a v at

-- ---------------------------------------------------------------- what others have seen of one moment

order_begins : (sh : Shape) (h : History) (tally : _) (events : List Event) (j : ℕ) (v : View) → IsInOrder sh events j v → Tied sh h tally j v → Begins (order_of v) events
order_begins sh h tally events zero (Keeper sh' ledger t log order) is tied = is.0
order_begins sh h tally events (suc q) (Reader sh' phase log order) is tied = is.0
order_begins sh h tally events (suc q) Spent is tied = (events, refl)
order_begins sh h tally events _ _ is tied = absurd tied

module _ (sh : Shape) (t : Moment) (h : Holds sh t) (j : ℕ) where
  abbrev past : List Event → History
  past es = run_of sh es

  -- the views of the others
  abbrev pub others : List View
  others = set t.views j Spent

  -- what the others have seen is a beginning of all steps
  pub seen_begins : Begins (longest_of others) h.events
  seen_begins = longest_begins others h.events (each_put (λ i v. Begins (order_of v) h.events) t.views j Spent (h.events, refl)
      (λ i v ne at. order_begins sh (past h.events) h.tally h.events i v (h.orders i v at) (seen sh t h i v at)))

  -- what is told of a part of the trace by an order that another has, is told by the longest of them
  told : {A : Type 0} (part : History → List A) → ((g : History) (e : Event) (r : ℕ × State) → Begins (part g) (part (history_with g e (Some r))))
      → (order : List Event) → Begins order h.events → length order ≤ length (longest_of others) → part (past order) ≡ part (past h.events)
      → part (past (longest_of others)) ≡ part (past h.events)
  told part grows order b few same =
      between part grows sh order (longest_of others) h.events (begins_shorter order (longest_of others) h.events b seen_begins few) seen_begins same ∙ same

  reader_told_by : (r : ℕ) (v : View) → suc r ≢ j → (v ≡ Spent → ⊥) → get_elem? t.views (suc r) ≡ some v → IsInOrder sh h.events (suc r) v → Tied sh (past h.events) h.tally (suc r) v
      → log_of r (past (longest_of others)).trace ≡ log_of r (past h.events).trace
  reader_told_by r (Reader sh' phase log order) ne unspent at is tied =
      told (λ (g : History). log_of r g.trace) (log_grows r) order is.0
      (longest_most others (suc r) (Reader sh' phase log order) (set_else t.views j (suc r) Spent ne ∙ at)) (sym is.1 ∙ tied.1)
  reader_told_by r Spent ne unspent at is tied = absurd (unspent refl)
  reader_told_by r (Keeper sh' ledger t' log order) ne unspent at is tied = absurd tied

  new_told : (r : ℕ) (v : View) → Reader sh Idle [] [] ≡ v → Tied sh (past h.events) h.tally (suc r) v → log_of r (past (longest_of others)).trace ≡ log_of r (past h.events).trace
  new_told r v is tied =
      let here = subst (Tied sh (past h.events) h.tally (suc r)) (sym is) tied in
      told (λ (g : History). log_of r g.trace) (log_grows r) [] (h.events, refl) (omega arith) here.1

  abbrev all : List View
  all = all_views sh h.tally t.views

  how_many : length all ≡ suc sh.passes
  how_many =
      let s = (past h.events).state in
      let same : length (map phase_of all) ≡ suc (length s.seats) = ap length h.after.phases_are in
      omega (arith, length-map all phase_of, same, (run_rule sh h.shape h.events).seat_count)

  -- what the others have seen has all steps of each other pass
  pub reader_told : IsOpen j t → (r : ℕ) → r < sh.passes → suc r ≢ j → log_of r (past (longest_of others)).trace ≡ log_of r (past h.events).trace
  reader_told unspent r below ne =
      let v = view_inside all (suc r) (omega (arith, below, how_many)) in
      let tied = h.after.tied (suc r) v.0 v.1 in
      ⊎_elim
      (λ (at : get_elem? t.views (suc r) ≡ some v.0). reader_told_by r v.0 ne (λ is. unspent (suc r) ne (at ∙ ap some is)) at (h.orders (suc r) v.0 at) tied)
      (λ (is : Reader sh Idle [] [] ≡ v.0). new_told r v.0 is tied)
      (there_or_new t.views h.tally.unmade (suc r) (Reader sh Idle [] []) v.0 v.1)

  keeper_told_by : (v : View) → 0 ≢ j → get_elem? t.views 0 ≡ some v → IsInOrder sh h.events 0 v → Tied sh (past h.events) h.tally 0 v
      → keeper_log_of (past (longest_of others)).trace ≡ keeper_log_of (past h.events).trace
  keeper_told_by (Keeper sh' ledger t' log order) ne at is tied =
      told (λ (g : History). keeper_log_of g.trace) keeper_log_grows order is.0
      (longest_most others 0 (Keeper sh' ledger t' log order) (set_else t.views j 0 Spent ne ∙ at)) (sym is.1 ∙ tied.3)
  keeper_told_by _ ne at is tied = absurd tied

  -- what the others have seen has all steps of the keeper
  pub keeper_told : 0 ≢ j → keeper_log_of (past (longest_of others)).trace ≡ keeper_log_of (past h.events).trace
  keeper_told ne =
      let v = view_inside all 0 (omega (arith, how_many)) in
      let tied = h.after.tied 0 v.0 v.1 in
      ⊎_elim
      (λ (at : get_elem? t.views 0 ≡ some v.0). keeper_told_by v.0 ne at (h.orders 0 v.0 at) tied)
      (λ (is : Reader sh Idle [] [] ≡ v.0). absurd (subst (Tied sh (past h.events) h.tally 0) (sym is) tied))
      (there_or_new t.views h.tally.unmade 0 (Reader sh Idle [] []) v.0 v.1)
