-- The counters of pages add up to the mergeable rows.
use Rattle.std.proofs.Common.{◌≡◌, ℕ, ◌+◌, ◌≤◌, Bool, true, false, List, [], ◌∷◌, inl, inr, refl, arith}
use Rattle.std.specs.Prelude.{◌==◌, ◌||◌, ◌&&◌, count_by, All, if◌then◌else◌}
use Rattle.std.proofs.lemmas.Bool.{cases_Bool}
use Rattle.std.proofs.lemmas.Bool.Decides.{nat_tests}
use Rattle.std.proofs.lemmas.List.Elements.{All-tail}
use Rattle.ksm_base.specs.declared.row.PageState.{PageState}
use Rattle.ksm_base.specs.declared.row.PageState.TheVariants.{Merged}
use Rattle.ksm_base.specs.declared.row.Row.{Row}
use Rattle.ksm_base.specs.declared.row.DupRow.{DupRow}
use Rattle.ksm_base.specs.Rows.{private_state, waiting_state, merged_state, zero_state, merged_into, has_items, InPlaceOrder}
use Rattle.ksm_base.specs.Counting.{shared_count, merged_count, counters_of, mergeable_count, pages_told}
use Rattle.ksm_base.specs.State.{BookState}
use Rattle.ksm_base.specs.Sound.{IsSound}
use Rattle.ksm_base.proofs.Edits.{count_more, count_none, count_either_le}
use Rattle.ksm_base.proofs.Orders.{Lower, pairs_head, pairs_tail}

-- a test that passes more counts more
count_weaker : {X : Type 0} (p q : X → Bool) → ((x : X) → p x ≡ true → q x ≡ true) → (xs : List X)
    → count_by p xs ≤ count_by q xs
count_weaker p q weaker [] = omega arith
count_weaker p q weaker (x ∷ xs) =
    grind (arith, count_more p x xs, count_more q x xs, weaker x, count_weaker p q weaker xs)

-- at most one dup has a number
count_numbered : (number : ℕ) (dups : List DupRow) → InPlaceOrder dups → count_by (λ d. number == d.number) dups ≤ 1
count_numbered number [] rise = omega arith
count_numbered number (d ∷ dups) rise =
    let has : DupRow → Bool = λ e. number == e.number in
    let rest = count_numbered number dups (pairs_tail Lower d dups rise) in
    elim (cases_Bool (number == d.number)) [
      | inl same ↦ grind (arith, count_more has d dups, count_none has dups (λ k e lt. grind (arith, nat_tests, pairs_head Lower d dups rise k e lt)))
      | inr differ ↦ grind (arith, count_more has d dups)
    ]

-- a row is an item of at most one dup
item_once : (state : PageState) (dups : List DupRow) → InPlaceOrder dups
    → count_by (λ d. merged_into d.number state) dups ≤ (if merged_state state then 1 else 0)
item_once (Merged number) dups rise = count_numbered number dups rise
item_once _ dups rise = omega (arith, count_none (λ d. false) dups (λ k d lt. refl))

-- a dup has an item among more rows if the first is one, or it has one among the others
items_more : (r : Row) (rows : List Row) (d : DupRow) → has_items (r ∷ rows) d ≡ true
    → (merged_into d.number r.state || has_items rows d) ≡ true
items_more r rows d items = grind (arith, nat_tests, count_more (λ s. merged_into d.number s.state) r rows)

-- there are no more dups with items than merged rows
pub shared-le-merged : (rows : List Row) (dups : List DupRow) → InPlaceOrder dups
    → shared_count rows dups ≤ merged_count rows
shared-le-merged [] dups rise = omega (arith, count_none (has_items []) dups (λ k d lt. refl))
shared-le-merged (r ∷ rows) dups rise =
    let wider = count_weaker (has_items (r ∷ rows)) (λ d. merged_into d.number r.state || has_items rows d) (items_more r rows) dups in
    let both = count_either_le (λ d. merged_into d.number r.state) (has_items rows) dups in
    omega (arith, shared-le-merged rows dups rise, item_once r.state dups rise, count_more (λ s. merged_state s.state) r rows)

-- a row is counted once if it is mergeable, where it waits, is merged or is Zero only so
state_once : (state : PageState) (mergeable : Bool) → (private_state state ≡ false → mergeable ≡ true)
    → (if merged_state state then 1 else 0) + (if waiting_state state then 1 else 0) + (if mergeable && private_state state then 1 else 0)
    + (if zero_state state then 1 else 0) ≡ (if mergeable then 1 else 0)
state_once state mergeable h = grind arith

-- rows by states add up to the mergeable rows, where only mergeable rows wait, are merged or are Zero
pub states-add : (rows : List Row) → All (λ r. private_state r.state ≡ false → r.mergeable ≡ true) rows
    → merged_count rows + count_by (λ r. waiting_state r.state) rows + count_by (λ r. r.mergeable && private_state r.state) rows
    + count_by (λ r. zero_state r.state) rows ≡ count_by (λ r. r.mergeable) rows
states-add [] h = refl
states-add (r ∷ rows) h =
    omega (
      arith,
      states-add rows (All-tail (λ s. private_state s.state ≡ false → s.mergeable ≡ true) r rows h),
      count_more (λ s. merged_state s.state) r rows,
      count_more (λ s. waiting_state s.state) r rows,
      count_more (λ s. s.mergeable && private_state s.state) r rows,
      count_more (λ s. s.mergeable) r rows,
      count_more (λ s. zero_state s.state) r rows,
      state_once r.state r.mergeable (h 0 r (omega arith)),
    )

-- in each sound state the counters of pages add up to the mergeable pages
pub told_sound : (b : BookState) → IsSound b → pages_told (counters_of b) ≡ mergeable_count b.rows
told_sound b sound = omega (arith, shared-le-merged b.rows b.dups sound.dups_rise, states-add b.rows sound.mergeable)
