-- A log tells the truth, whoever writes it: of any two moments between which one seat alone has gone on, by one entry of its log (own).
use Rattle.std.specs.Prelude.{◌≡◌, ℕ, suc, ◌≢◌, [], ◌∷◌, ◌++◌, List, slice_index, slice_set, Some, true}
use mathlib.Core.Option.{some}
use lib.ListN.{get_elem?}
use Rattle.atomic_table.specs.Table as table
use Rattle.frame_table.specs.Terms.{Shape, Event, ReaderStep, KeeperStep, Ledger, Phase}
use Rattle.frame_core.specs.declared.event.Event.TheVariants as event
use Rattle.frame_core.specs.State.{State}
use Rattle.frame_core.specs.Steps.{step}
use Rattle.frame_core.specs.Words.{words_of}
use Rattle.frame_core.specs.Rule.{Rule}
use Rattle.frame_table.specs.declared.view.Tally.{Tally}
use Rattle.frame_table.specs.declared.view.View.{View}
use Rattle.frame_table.specs.declared.view.View.TheVariants.{Keeper, Reader, Spent}
use Rattle.frame_table.specs.Rule.{Holds}
use Rattle.frame_core.specs.Seat.{may_read, seat_after}
use Rattle.frame_table.specs.Seat.{reader_word, written}
use Rattle.frame_table.specs.Views.{ReaderLog, KeeperLog}

abbrev pub Moment : Type 0
Moment = table.State (Unit {0}) View

-- no pass was given back but perhaps that of the seat j: passes are given back as the table is closed
abbrev pub IsOpen : ℕ → Moment → Type 0
IsOpen j t = (i : ℕ) → i ≢ j → get_elem? t.views i ≢ some Spent

-- between the two moments the core's step was made, from their words to their words, and found this
pub record IsStep (sh : Shape) (t t' : Moment) (e : Event) (found : ℕ) (before after : State) : Type 0 where
  pub rule : Rule sh before
  pub words : t.words ≡ words_of before
  pub step : step sh before e ≡ Some (found, after)
  pub left : t'.words ≡ words_of after

-- the entry of a reader is the word on which its step works, as it is there, and that word and the seat's phase alone have changed, as the step says
pub record IsTrueEntry (sh : Shape) (t t' : Moment) (phase phase' : Phase) (e : ReaderStep) (found : ℕ) : Type 0 where
  pub allowed : may_read sh e phase ≡ true
  pub found_is : found ≡ slice_index t.words (reader_word sh e phase)
  pub words : t'.words ≡ slice_set t.words (reader_word sh e phase) (written e phase found)
  pub phase_is : phase' ≡ seat_after sh e phase found

abbrev pub ReadersLogIsTrue : Type 0
ReadersLogIsTrue = (sh : Shape) (t t' : Moment) (q : ℕ) (phase phase' : Phase) (log : ReaderLog) (order order' : List Event) (e : ReaderStep) (found : ℕ)
    → Holds sh t → Holds sh t' → IsOpen (suc q) t → get_elem? t.views (suc q) ≡ some (Reader sh phase log order)
    → t'.views ≡ slice_set t.views (suc q) (Reader sh phase' (log ++ (e, found) ∷ []) order')
    → IsTrueEntry sh t t' phase phase' e found

abbrev pub KeepersLogIsTrue : Type 0
KeepersLogIsTrue = (sh : Shape) (t t' : Moment) (ledger ledger' : Ledger) (tally tally' : Tally) (log : KeeperLog) (order order' : List Event) (e : KeeperStep)
    (found : ℕ) → Holds sh t → Holds sh t' → IsOpen 0 t → get_elem? t.views 0 ≡ some (Keeper sh ledger tally log order)
    → t'.views ≡ slice_set t.views 0 (Keeper sh ledger' tally' (log ++ (e, found) ∷ []) order')
    → (before after : State) × IsStep sh t t' (event.Keeper e) found before after × (ledger ≡ before.ledger) × (ledger' ≡ after.ledger)
