-- The rule of the table, true between any two steps of any threads: there are events after which the words are the core's, and each seat knows how far it
-- has come there, logs just its own part of their trace, and has seen the events up to its last one: the seat that made the last has seen them all (own).
use Rattle.std.specs.Prelude.{◌≡◌, ℕ, zero, suc, Bool, true, false, List, [], ◌∷◌, ◌++◌, map, replicate, count_by}
use mathlib.Core.Option.{some}
use lib.ListN.{get_elem?}
use Rattle.atomic_table.specs.Table as table
use Rattle.frame_table.specs.Terms.{Shape, IsShape, Event, Idle, Spent as spent_phase}
use Rattle.frame_core.specs.Words.{words_of}
use Rattle.frame_core.specs.Ledger.{first_ledger}
use Rattle.frame_core.specs.Trace.{History, run_of, log_of, keeper_log_of}
use Rattle.frame_table.specs.declared.view.Tally.{Tally}
use Rattle.frame_table.specs.declared.view.View.{View}
use Rattle.frame_table.specs.declared.view.View.TheVariants.{Keeper, Reader, Spent}
use Rattle.frame_table.specs.Views.{phase_of, order_of, tally_of}
use Rattle.frame_table.specs.Orders.{Begins}

-- the view is that of a pass that was made and not given back
abbrev pub is_out : View → Bool
is_out (Reader sh phase log order) = true
is_out _ = false

-- the views of all seats: a pass that is still to be made is idle, and has made no step
abbrev pub all_views : Shape → Tally → List View → List View
all_views sh tally views = views ++ replicate tally.unmade (Reader sh Idle [] [])

-- what the view of a seat tells of its steps: the keeper has the seat 0, and the reader on the core's seat q has the seat q + 1; of a pass that was given
-- back nothing is told
abbrev pub Tied : Shape → History → Tally → ℕ → View → Type 0
Tied sh h tally zero (Keeper sh' ledger tally' log order) = (sh' ≡ sh) × (ledger ≡ h.state.ledger) × (tally' ≡ tally) × (log ≡ keeper_log_of h.trace)
Tied sh h tally (suc q) (Reader sh' phase log order) = (sh' ≡ sh) × (log ≡ log_of q h.trace)
Tied sh h tally (suc q) Spent = Unit {0}
Tied sh h tally _ _ = ⊥

-- words and views are those of the core after these steps, but that a pass given back is idle there
pub record IsAfter (sh : Shape) (h : History) (tally : Tally) (words : List ℕ) (views : List View) : Type 0 where
  pub words_are : words ≡ words_of h.state
  pub phases_are : map phase_of views ≡ spent_phase ∷ h.state.seats
  pub tied : (j : ℕ) (v : View) → get_elem? views j ≡ some v → Tied sh h tally j v

-- the order that a view has is the beginning of these events, and all steps of its seat are in it
abbrev pub IsInOrder : Shape → List Event → ℕ → View → Type 0
IsInOrder sh events zero (Keeper sh' ledger tally log order) = Begins order events × (log ≡ keeper_log_of (run_of sh order).trace)
IsInOrder sh events (suc q) (Reader sh' phase log order) = Begins order events × (log ≡ log_of q (run_of sh order).trace)
IsInOrder sh events j v = Unit {0}

pub record Holds (sh : Shape) (t : table.State (Unit {0}) View) : Type 0 where
  pub shape : IsShape sh
  pub events : List Event
  pub tally : Tally
  pub after : IsAfter sh (run_of sh events) tally t.words (all_views sh tally t.views)
  pub out : count_by is_out t.views ≡ tally.out
  pub orders : (j : ℕ) (v : View) → get_elem? t.views j ≡ some v → IsInOrder sh events j v
  -- the events are the longest of these orders
  pub longest : (j : ℕ) × (v : View) × (get_elem? t.views j ≡ some v) × (order_of v ≡ events)

-- the keeper before any pass is made
abbrev pub first_view : Shape → View
first_view sh = Keeper sh (first_ledger sh) (tally_of sh.passes 0) [] []
