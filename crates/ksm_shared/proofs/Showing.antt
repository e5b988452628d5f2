-- Steps and new readers keep the rule of the rows.
use Rattle.std.proofs.Common.{◌≡◌, ◌≢◌, ◌⊎◌, ◌∙◌, ℕ, ◌<◌, zero, suc, List, [], ◌∷◌, ◌++◌, length, slice_set, refl, ap, subst, sym, ⊎_elim}
use mathlib.Core.Option.{some}
use mathlib.Core.List.{IsPrefix}
use lib.ListN.{get_elem?}
use Rattle.crossbeam_utils.specs.Register.{Admits, Turns, TurnsAt}
use Rattle.atomic_table.proofs.Lists.{at_set, at_snoc}
use Rattle.ksm_base.specs.Counting.{counters_of}
use Rattle.ksm_base.specs.Journal.{AreAnswers, Entry, replay}
use Rattle.ksm_base.specs.State.{BookState, opening}
use Rattle.ksm_shared.specs.Named.{PartsId}
use Rattle.ksm_shared.specs.declared.row.Sight.{Sight}
use Rattle.ksm_shared.specs.Chained.{Reached}
use Rattle.ksm_shared.specs.Published.{IsRowOf, Looks, RowsGoOn, ShownRow, Shows, no_sight, row_at, row_of}
use Rattle.ksm_shared.proofs.Beginnings.{prefix_self, prefix_trans}

-- what the rule says of one seat
abbrev Fits : PartsId → ShownRow → Sight → Type 0
Fits parts x v = IsPrefix v.reached.journal x.reached.journal × (v.reached.logbook ≡ parts.logbook)

fits_at_first : (parts : PartsId) (x : ShownRow) → Fits parts x (no_sight parts)
fits_at_first parts x = ((x.reached.journal, refl), refl)

-- a reader that has seen nothing is admitted
pub admits : (parts : PartsId) → Admits (RowsGoOn parts) (no_sight parts)
admits parts x views k =
    (k.0, λ j u e. ⊎_elim (k.1 j u) (λ (t : no_sight parts ≡ u). subst (Fits parts x) t (fits_at_first parts x)) (at_snoc views (no_sight parts) u j e))

-- a row that goes on where the one shown ends may be shown next, to a seat that has then seen it
goes_on : (parts : PartsId) (seat : ℕ) (v w : Sight) (x y : ShownRow) → w.reached ≡ y.reached → IsPrefix x.reached.journal y.reached.journal → (IsRowOf parts x → IsRowOf parts y)
    → (views : List Sight) → RowsGoOn parts x views → get_elem? views seat ≡ some v
    → RowsGoOn parts y (slice_set views seat w) × (IsRowOf parts y × IsPrefix v.reached.journal y.reached.journal)
goes_on parts seat v w x y seen up same views k at =
    let row = same k.0 in
    let moved : (j : ℕ) (u : Sight) → get_elem? views j ≡ some u → Fits parts y u = λ j u e. (prefix_trans _ _ _ (k.1 j u e).0 up, (k.1 j u e).1) in
    let mine : Fits parts y w = subst (λ (r : Reached). IsPrefix r.journal y.reached.journal × (r.logbook ≡ parts.logbook)) (sym seen) (prefix_self _, row.logbook) in (
      (
        row,
        λ j u e. ⊎_elim (λ (t : (j ≡ seat) × (w ≡ u)). subst (Fits parts y) t.1 mine)
            (λ (t : (j ≢ seat) × (get_elem? views j ≡ some u)). moved j u t.1) (at_set views seat j w u e),
      ),
      (row, (moved seat v at).0),
    )

-- a row that goes on where the one shown ends may be shown next
pub turns : (parts : PartsId) (seat : ℕ) (v : Sight) (x y : ShownRow) → IsPrefix x.reached.journal y.reached.journal
    → (IsRowOf parts x → IsRowOf parts y) → TurnsAt (RowsGoOn parts) seat v x y (Shows parts)
turns parts seat v x y up same views k at =
    let w : Sight = record { reached = y.reached; looks = v.looks } in
    let on = goes_on parts seat v w x y refl up same views k at in (w, on.0, (on.1.0, on.1.1, refl))

-- a look leaves the row that is shown
pub looks : (parts : PartsId) (seat : ℕ) (v : Sight) → Turns (RowsGoOn parts) seat v (λ x. x) (Looks parts)
looks parts seat v x views k at =
    let w : Sight = record { reached = x.reached; looks = v.looks ++ row_of x ∷ [] } in
    let on = goes_on parts seat v w x x refl (prefix_self _) (λ row. row) views k at in (w, on.0, (on.1.0, on.1.1, refl))

-- a row that is one of two rows of some parts is a row of those parts
pub either_row : (parts : PartsId) (x y z : ShownRow) → (z ≡ y) ⊎ ((length y.reached.journal < length x.reached.journal) × (z ≡ x)) → IsRowOf parts x → IsRowOf parts y → IsRowOf parts z
either_row parts x y z e p q = ⊎_elim (λ (t : z ≡ y). subst (IsRowOf parts) (sym t) q) (λ (t : (length y.reached.journal < length x.reached.journal) × (z ≡ x)). subst (IsRowOf parts) (sym t.1) p) e

no_seat : (parts : PartsId) (x : ShownRow) (seat : ℕ) (v : Sight) → get_elem? [] seat ≡ some v → Fits parts x v
no_seat parts x zero v e = absurd (cc e)
no_seat parts x (suc seat) v e = absurd (cc e)

-- the first row may be shown to a seat that has seen nothing
pub begins : (parts : PartsId) (x : ShownRow) → IsRowOf parts x → RowsGoOn parts x (no_sight parts ∷ [])
begins parts x row = admits parts x [] (row, no_seat parts x)

-- a book to which a legal journal leads makes a row
pub makes_row : (parts : PartsId) (b : BookState) (r : Reached) (journal : List Entry) → r.logbook ≡ parts.logbook → r.journal ≡ journal → AreAnswers (opening parts.frames.shape) journal
    → b ≡ replay (opening parts.frames.shape) journal → IsRowOf parts (row_at b r)
makes_row parts b r journal own is legal leads = record {
  logbook = own;
  legal = subst (AreAnswers (opening parts.frames.shape)) (sym is) legal;
  counters = λ _. ap counters_of (leads ∙ ap (replay (opening parts.frames.shape)) (sym is));
}
