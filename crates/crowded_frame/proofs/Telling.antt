-- What the rule of the table says of a seat in a caller's hand.
use Rattle.std.proofs.Common.{◌≡◌, ℕ, zero, suc, ap, sym, subst, ◌∙◌, refl}
use mathlib.Core.Option.{some}
use lib.ListN.{get_elem?}
use Rattle.frame_table.specs.Terms.{Shape, Ledger, Phase}
use Rattle.frame_core.specs.Live.{LiveAt}
use Rattle.frame_table.specs.Live.{IsLiveNow}
use Rattle.frame_table.specs.Running.{RunsSafely, TellsItsPart, TellsTheKeepers}
use Rattle.frame_table.specs.Truth.{Moment}
use Rattle.frame_table.specs.Views.{Sat, ReaderLog, KeeperLog, IsIn, IsKeeper, log_in, order_in, ledger_in, tally_in, keeper_log}
use Rattle.frame_table.specs.declared.view.View.TheVariants.{Keeper, Reader}

-- a reader's seat that is among the views tells its part
pub reader_tells : (sh : Shape) (t : Moment) (id : ℕ) (me : Sat) (phase : Phase) (log : ReaderLog) → RunsSafely sh t → IsIn sh phase me → log_in me ≡ log
    → get_elem? t.views id ≡ some me.0 → TellsItsPart sh t id log
reader_tells sh t zero me phase log safe is same at =
    let there : get_elem? t.views 0 ≡ some (Reader sh phase (log_in me) (order_in me)) = at ∙ ap (λ (m : Sat). some m.0) is in
    absurd ((safe.keepers 0 _ there).1 refl)
reader_tells sh t (suc q) me phase log safe is same at =
    let there : get_elem? t.views (suc q) ≡ some (Reader sh phase (log_in me) (order_in me)) = at ∙ ap (λ (m : Sat). some m.0) is in
    (safe, q, refl, sym same ∙ (safe.reader q sh phase (log_in me) (order_in me) there).2)

-- the keeper's seat that is among the views tells the keeper's part
pub keeper_tells : (sh : Shape) (t : Moment) (id : ℕ) (me : Sat) (log : KeeperLog) (ledger : Ledger) → RunsSafely sh t → IsKeeper sh me → ledger_in me ≡ ledger
    → keeper_log me ≡ log → get_elem? t.views id ≡ some me.0 → TellsTheKeepers sh t log ledger
keeper_tells sh t id me log ledger safe is known same at =
    let there : get_elem? t.views id ≡ some (Keeper sh (ledger_in me) (tally_in me) (keeper_log me) (order_in me)) = at ∙ ap (λ (m : Sat). some m.0) is in
    let first : id ≡ 0 = (safe.keepers id _ there).0 tt in
    let own = (safe.keeper sh (ledger_in me) (tally_in me) (keeper_log me) (order_in me)
    (subst (λ (j : ℕ). get_elem? t.views j ≡ some (Keeper sh (ledger_in me) (tally_in me) (keeper_log me) (order_in me))) first there)).1 in
    (safe, sym same ∙ own.log_is, sym known ∙ own.ledger_is)

-- a place that the keeper's seat has as live, and that is among the views, is live at this moment
pub live_now : (sh : Shape) (t : Moment) (id : ℕ) (me : Sat) (ledger : Ledger) (p : ℕ) → RunsSafely sh t → IsKeeper sh me → ledger_in me ≡ ledger
    → get_elem? t.views id ≡ some me.0 → LiveAt ledger p → IsLiveNow sh t p
live_now sh t id me ledger p safe is known at live =
    let there : get_elem? t.views id ≡ some (Keeper sh (ledger_in me) (tally_in me) (keeper_log me) (order_in me)) = at ∙ ap (λ (m : Sat). some m.0) is in
    let first : id ≡ 0 = (safe.keepers id _ there).0 tt in (
      ledger_in me,
      tally_in me,
      keeper_log me,
      order_in me,
      subst (λ (j : ℕ). get_elem? t.views j ≡ some (Keeper sh (ledger_in me) (tally_in me) (keeper_log me) (order_in me))) first there,
      subst (λ (k : Ledger). LiveAt k p) (sym known) live,
    )
