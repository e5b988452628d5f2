-- What is true of the running table between any two steps of any threads, in its own words and views (own).
use Rattle.std.specs.Prelude.{◌≡◌, ◌↔◌, ℕ, suc, ◌+◌, ◌<◌, ◌≤◌, List, length, take, slice_get, slice_index, Option, Some}
use mathlib.Core.Option.{some}
use lib.ListN.{get_elem?}
use Rattle.atomic_table.specs.Table as table
use Rattle.frame_table.specs.Terms.{PAGE_WORDS, Shape, frames_of, Event, Ledger, Aim, Phase, Idle, Held}
use Rattle.frame_core.specs.State.{place_word, count_in, life_in}
use Rattle.frame_core.specs.Words.{words_of, frame_word_at, content_at}
use Rattle.frame_core.specs.Ledger.{frame_at, named_at, IsWritable}
use Rattle.frame_core.specs.Rule as core
use Rattle.frame_core.specs.Trace.{History, run_of, log_of, keeper_log_of, holders, HoldsRightly}
use Rattle.frame_core.specs.Safe.{IsSafe, GivenUnheld}
use Rattle.frame_table.specs.declared.view.Tally.{Tally}
use Rattle.frame_table.specs.declared.view.View.{View}
use Rattle.frame_table.specs.declared.view.View.TheVariants.{Keeper, Reader, Spent}
use Rattle.frame_table.specs.Rule.{Holds, IsInOrder}
use Rattle.frame_table.specs.Views.{ReaderLog, KeeperLog, order_of}

-- the keeper's log is its part of the steps, and its ledger is what the words say
pub record LedgerIs (sh : Shape) (h : History) (words : List ℕ) (ledger : Ledger) (log : KeeperLog) : Type 0 where
  pub ledger_is : ledger ≡ h.state.ledger
  pub log_is : log ≡ keeper_log_of h.trace
  -- the count of a frame is the keeper's references and the holders together
  pub counts : (f : ℕ) → f < frames_of sh → count_in (slice_index words (frame_word_at (frames_of sh) f)) ≡ (frame_at ledger f).base + length (holders sh.passes f h.trace)
  pub generations : (f : ℕ) → f < frames_of sh → life_in (slice_index words (frame_word_at (frames_of sh) f)) ≡ (frame_at ledger f).generation
  pub contents : (f i : ℕ) → f < frames_of sh → i < PAGE_WORDS → slice_index words (content_at (frames_of sh) f i) ≡ slice_index (frame_at ledger f).content i
  pub places : (p : ℕ) → p < frames_of sh → slice_index words p ≡ place_word (named_at ledger p)

-- a hold is of the present life of its frame, which has a reference, and what it has read are the frame's words
pub record HoldIs (sh : Shape) (words : List ℕ) (aim : Aim) (known : List (Option ℕ)) : Type 0 where
  pub life : life_in (slice_index words (frame_word_at (frames_of sh) aim.life.frame)) ≡ aim.life.generation
  pub referenced : 1 ≤ count_in (slice_index words (frame_word_at (frames_of sh) aim.life.frame))
  pub read : (i word : ℕ) → slice_get known i ≡ Some (Some word) → slice_index words (content_at (frames_of sh) aim.life.frame i) ≡ word

-- the view is the keeper's
abbrev pub IsKeepers : View → Type 0
IsKeepers (Keeper sh ledger tally log order) = Unit {0}
IsKeepers _ = ⊥

-- there are steps, in one order, such that
pub record RunsSafely (sh : Shape) (t : table.State (Unit {0}) View) : Type 0 where
  pub events : List Event
  -- the words are those of the core after them, which keeps its rule
  pub words : t.words ≡ words_of (run_of sh events).state
  pub rule : core.Rule sh (run_of sh events).state
  -- the seat 0 is the keeper's, and no other
  pub keepers : (j : ℕ) (v : View) → get_elem? t.views j ≡ some v → IsKeepers v ↔ j ≡ 0
  -- the keeper's view is the core's ledger; a pass has come as far as its seat of the core has, and logs its part; one that was given back is idle
  pub keeper : (sh' : Shape) (ledger : Ledger) (tally : Tally) (log : KeeperLog) (order : List Event)
      → get_elem? t.views 0 ≡ some (Keeper sh' ledger tally log order) → (sh' ≡ sh) × LedgerIs sh (run_of sh events) t.words ledger log
  pub reader : (q : ℕ) (sh' : Shape) (phase : Phase) (log : ReaderLog) (order : List Event) → get_elem? t.views (suc q) ≡ some (Reader sh' phase log order)
      → (sh' ≡ sh) × (slice_get (run_of sh events).state.seats q ≡ Some phase) × (log ≡ log_of q (run_of sh events).trace)
  pub given_back : (q : ℕ) → get_elem? t.views (suc q) ≡ some Spent → slice_get (run_of sh events).state.seats q ≡ Some Idle
  -- what a seat has seen is a beginning of them, with all steps of its own, and the seat of the last has seen all
  pub orders : (j : ℕ) (v : View) → get_elem? t.views j ≡ some v → IsInOrder sh events j v
  pub longest : (j : ℕ) × (v : View) × (get_elem? t.views j ≡ some v) × (order_of v ≡ events)
  -- each raise and each opening of them found the frame without a holder, and after any number of them the core was safe
  pub given : GivenUnheld sh.passes (run_of sh events).trace
  pub safe : (n : ℕ) → IsSafe sh (run_of sh (take n events))
  -- a seat that holds, holds what its place named, in the present life, and what it has read is what was named and what is there
  pub holds : (q : ℕ) (aim : Aim) (known : List (Option ℕ)) (log : ReaderLog) (order : List Event)
      → get_elem? t.views (suc q) ≡ some (Reader sh (Held aim known) log order)
      → HoldsRightly q aim (run_of sh events).trace × HoldIs sh t.words aim known
  -- a frame that the keeper may write is held by no seat
  pub unwritten : (ledger : Ledger) (tally : Tally) (kept : KeeperLog) (seen : List Event) (q : ℕ) (aim : Aim) (known : List (Option ℕ)) (log : ReaderLog)
      (order : List Event) → get_elem? t.views 0 ≡ some (Keeper sh ledger tally kept seen)
      → get_elem? t.views (suc q) ≡ some (Reader sh (Held aim known) log order) → ¬ IsWritable (frame_at ledger aim.life.frame).kind

-- at this moment the table runs safely, and the log is the part that the pass with this seat has in the steps made so far
abbrev pub TellsItsPart : Shape → table.State (Unit {0}) View → ℕ → ReaderLog → Type 0
TellsItsPart sh t id log = (safe : RunsSafely sh t) × (q : ℕ) × (id ≡ suc q) × (log ≡ log_of q (run_of sh safe.events).trace)

-- the same of the keeper's log and ledger
abbrev pub TellsTheKeepers : Shape → table.State (Unit {0}) View → KeeperLog → Ledger → Type 0
TellsTheKeepers sh t log ledger = (safe : RunsSafely sh t) × (log ≡ keeper_log_of (run_of sh safe.events).trace) × (ledger ≡ (run_of sh safe.events).state.ledger)

abbrev pub TheTableRunsSafely : Type 0
TheTableRunsSafely = (sh : Shape) (t : table.State (Unit {0}) View) → Holds sh t → RunsSafely sh t
