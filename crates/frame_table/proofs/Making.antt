-- A step of the core that one seat has made keeps the table's rule.
use Rattle.std.proofs.Common.{◌≡◌, ℕ, suc, ◌≢◌, Bool, cond, List, [], ◌∷◌, ◌++◌, replicate, map, set, get_or, slice_get, count_by, Some, ap, sym, subst, ◌∙◌, arith}
use Rattle.std.proofs.lemmas.List.{map-set, set-append_left}
use Rattle.std.proofs.lemmas.Option.{slice_get_within, get_or_from_slice_get}
use mathlib.Core.Option.{some}
use lib.ListN.{get_elem?}
use Rattle.atomic_table.proofs.Lists.{at_map, at_longer, set_here}
use Rattle.frame_table.proofs.CoreNames.{Shape, Event, Phase, Idle, Spent as spent_phase, phase_at, step, words_of, History, run_of}
use Rattle.frame_core.specs.State as core
use Rattle.frame_core.specs.Rule as core_rule
use Rattle.frame_core.proofs.Above.{count_set, run_rule, run_step}
use Rattle.frame_table.proofs.Names.{Tally, View, Reader, Begins, IsPresent, phase_of, order_of, Moment, Holds, IsInOrder, Tied, all_views, is_out}
use Rattle.frame_table.proofs.Looked.{got, each_put}
use Rattle.frame_table.proofs.Orders.{in_order_more}

-- to replace a view is to replace it in the list of all views
pub all_set : (sh : Shape) (tally : Tally) (views : List View) (j : ℕ) (v w : View) → get_elem? views j ≡ some v
    → all_views sh tally (set views j w) ≡ set (all_views sh tally views) j w
all_set sh tally views j v w at = sym (set-append_left views (replicate tally.unmade (Reader sh Idle [] [])) j w (slice_get_within views j v (got views j v at)))

-- a change of a view that stays in, or stays out, leaves the number of passes that are out
pub out_same : (views : List View) (j : ℕ) (v w : View) → get_elem? views j ≡ some v → is_out w ≡ is_out v → count_by is_out (set views j w) ≡ count_by is_out views
out_same views j v w at same =
    let here = got views j v at in
    let e = count_set is_out views j v w (slice_get_within views j v here) in
    let was : get_or views j v ≡ v = get_or_from_slice_get views j v v here in
    let b : ◌≡◌ {A = ℕ} (cond (is_out w) 1 0) (cond (is_out (get_or views j v)) 1 0) = ap (λ (b : Bool). cond b 1 0) (same ∙ sym (ap is_out was)) in
    omega (arith, e, b)

module _ (sh : Shape) (t : Moment) (h : Holds sh t) where
  abbrev past : History
  past = run_of sh h.events

  -- the state so far keeps the core's rule
  pub kept : core_rule.Rule sh past.state
  kept = run_rule sh h.shape h.events

  abbrev all : List View
  all = all_views sh h.tally t.views

  at_all : (j : ℕ) (v : View) → get_elem? t.views j ≡ some v → get_elem? all j ≡ some v
  at_all j v at = at_longer t.views (replicate h.tally.unmade (Reader sh Idle [] [])) j v at

  -- the table's rule ties each view to the steps so far
  pub seen : (j : ℕ) (v : View) → get_elem? t.views j ≡ some v → Tied sh past h.tally j v
  seen j v at = h.after.tied j v (at_all j v at)

  -- the seat q of the core has come as far as the view of the table's seat q + 1 says
  pub seated : (q : ℕ) (v : View) → get_elem? t.views (suc q) ≡ some v → slice_get past.state.seats q ≡ Some (phase_of v)
  seated q v at = got past.state.seats q (phase_of v)
      (subst (λ (l : List Phase). get_elem? l (suc q) ≡ some (phase_of v)) h.after.phases_are (at_map phase_of all (suc q) v (at_all (suc q) v at)))

  -- the core's seat has come as far as the view says
  pub phase_is : (q : ℕ) (v : View) → get_elem? t.views (suc q) ≡ some v → phase_at past.state q ≡ phase_of v
  phase_is q v at = get_or_from_slice_get past.state.seats q (phase_of v) spent_phase (seated q v at)

  module _ (j : ℕ) (v w : View) (at : get_elem? t.views j ≡ some v) (this : Event) (r : ℕ × core.State) (is : step sh past.state this ≡ Some r) where
    -- the history so far with the step that the seat has made
    abbrev pub next : History
    next = record { state = r.1; trace = record { event = this; word = r.0 } ∷ past.trace }

    -- the steps so far with the step that the seat has made
    abbrev pub events : List Event
    events = h.events ++ this ∷ []

    -- the steps so far with this one lead to the next state
    pub ran : run_of sh events ≡ next
    ran = run_step sh h.events this r is

    -- the step is of the present where the seat's order is a beginning of all steps
    pub present : (order : List Event) (n : ℕ) → Begins order h.events → n ≡ r.0 → IsPresent sh order events this n
    present order n first found = record {
      since = first.0;
      order = ap (λ (l : List Event). l ++ this ∷ []) first.1;
      next = r.1;
      finds = subst (λ (l : List Event). step sh (run_of sh l).state this ≡ Some (n, r.1)) first.1 (is ∙ ap (λ (m : ℕ). Some (m, r.1)) (sym found));
    }

    -- the table keeps its rule once a seat has made a step of the core
    pub made : (i m : ℕ) → set t.words i m ≡ words_of r.1 → is_out w ≡ is_out v → order_of w ≡ events
        → set (spent_phase ∷ past.state.seats) j (phase_of w) ≡ spent_phase ∷ r.1.seats
        → Tied sh next h.tally j w → ((i : ℕ) (x : View) → i ≢ j → Tied sh past h.tally i x → Tied sh next h.tally i x) → IsInOrder sh events j w
        → Holds sh record { words = set t.words i m; homes = t.homes; views = set t.views j w }
    made i m words out order phases told others ordered =
        let same = all_set sh h.tally t.views j v w at in
        record {
          shape = h.shape;
          events = events;
          tally = h.tally;
          after = record {
            words_are = words ∙ ap (λ (x : History). words_of x.state) (sym ran);
            phases_are = ap (map phase_of) same ∙ (map-set phase_of all j w ∙ (ap (λ (l : List Phase). set l j (phase_of w)) h.after.phases_are
                ∙ (phases ∙ ap (λ (x : History). spent_phase ∷ x.state.seats) (sym ran))));
            tied = λ i x of. subst (λ (g : History). Tied sh g h.tally i x) (sym ran) (each_put (Tied sh next h.tally) all j w told
                (λ k y ne there. others k y ne (h.after.tied k y there)) i x (subst (λ (l : List View). get_elem? l i ≡ some x) same of));
          };
          out = out_same t.views j v w at out ∙ h.out;
          orders = each_put (IsInOrder sh events) t.views j w ordered (λ i x ne there. in_order_more sh h.events (this ∷ []) i x (h.orders i x there));
          longest = (j, w, set_here t.views j w (slice_get_within t.views j v (got t.views j v at)), order);
        }
