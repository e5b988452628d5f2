-- Where moments of a table of one place and one pass are lawful.
use Rattle.std.proofs.Common.{◌≡◌, ◌⊎◌, ℕ, zero, suc, List, [], ◌∷◌, refl, ap, sym, subst, arith, ⊎_elim}
use mathlib.Core.Option.{some, some-injective, some-ne-none}
use lib.ListN.{get_elem?}
use Rattle.ksm_base.specs.Values.{IsShape}
use Rattle.frame_core.specs.declared.event.Event.{Event}
use Rattle.frame_core.specs.declared.seat.Phase.{Phase}
use Rattle.frame_core.specs.declared.seat.Phase.TheVariants.{Spent as spent_phase}
use Rattle.frame_core.specs.Trace.{History, log_of}
use Rattle.frame_table.specs.declared.view.View.{View}
use Rattle.frame_table.specs.declared.view.View.TheVariants.{Spent}
use Rattle.frame_table.specs.Rule.{Holds, Tied, IsInOrder}
use Rattle.frame_table.specs.Truth.{Moment, IsOpen}
use Rattle.frame_table.specs.Views.{ReaderLog, tally_of}
pub use Rattle.frame_table.specs.Moments.{one, past, keeper, pass, moment}

pub fits : IsShape one
fits = record {
  nodes_low = omega arith;
  nodes_high = omega arith;
  frames_low = omega arith;
  frames_high = omega arith;
  passes_low = omega arith;
  passes_high = omega arith;
  generation_low = omega arith;
  generation_high = omega arith;
  tries_low = omega arith;
  tries_high = omega arith;
}

-- how many seats are not given back, of one view
abbrev pub live : View → ℕ
live Spent = 0
live v = 1

-- the word that the first entry tells
abbrev pub word_told : ReaderLog → ℕ
word_told [] = 0
word_told (x ∷ xs) = x.1

module _ (events kept order : List Event) (phase : Phase) (log : ReaderLog) where
  abbrev so_far : History
  so_far = past events kept order phase log

  abbrev its_keeper : View
  its_keeper = keeper events kept order phase log

  abbrev its_pass : View
  its_pass = pass events kept order phase log

  abbrev now : Moment
  now = moment events kept order phase log

  pub unspent : (j : ℕ) → IsOpen j now
  unspent j zero ne is = let n : ◌≡◌ {A = ℕ} 1 0 = ap live (some-injective its_keeper Spent is) in omega (arith, n)
  unspent j (suc zero) ne is = let n : ◌≡◌ {A = ℕ} 1 0 = ap live (some-injective its_pass Spent is) in omega (arith, n)
  unspent j (suc (suc i)) ne is = some-ne-none Spent (sym is)

  tied : log ≡ log_of 0 so_far.trace → (j : ℕ) (v : View) → get_elem? now.views j ≡ some v → Tied one so_far (tally_of 0 1) j v
  tied mine zero v is = subst (Tied one so_far (tally_of 0 1) 0) (some-injective its_keeper v is) (refl, refl, refl, refl)
  tied mine (suc zero) v is = subst (Tied one so_far (tally_of 0 1) 1) (some-injective its_pass v is) (refl, mine)
  tied mine (suc (suc j)) v is = absurd (some-ne-none v (sym is))

  orders : IsInOrder one events 0 its_keeper → IsInOrder one events 1 its_pass → (j : ℕ) (v : View) → get_elem? now.views j ≡ some v → IsInOrder one events j v
  orders first second zero v is = subst (IsInOrder one events 0) (some-injective its_keeper v is) first
  orders first second (suc zero) v is = subst (IsInOrder one events 1) (some-injective its_pass v is) second
  orders first second (suc (suc j)) v is = absurd (some-ne-none v (sym is))

  pub lawful : so_far.state.seats ≡ phase ∷ [] → log ≡ log_of 0 so_far.trace → IsInOrder one events 0 its_keeper → IsInOrder one events 1 its_pass
      → (kept ≡ events) ⊎ (order ≡ events) → Holds one now
  lawful seat mine first second whole = record {
    shape = fits;
    events = events;
    tally = tally_of 0 1;
    after = record { words_are = refl; phases_are = ap (λ (l : List Phase). spent_phase ∷ l) (sym seat); tied = tied mine };
    out = refl;
    orders = orders first second;
    longest = ⊎_elim (λ is. (0, its_keeper, refl, is)) (λ is. (1, its_pass, refl, is)) whole;
  }
