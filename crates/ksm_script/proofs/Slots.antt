-- Passes are taken out of their slots and put back.
use Rattle.ksm_script.proofs.Names.{[], ActsAt, All, All-cons, All-get_or, All-head, All-map, All-nil, All-set, All-tail, AllZip, ap, AreThere, arith, at, DoesAt, emptied, EndsIdle, gaps}
use Rattle.ksm_script.proofs.Names.{get_or-set_same, get_or_from_slice_get, Holding, HoldsStill, Idle, idle_of, InBoth, IsIdle, IsSomeAnd, length, length-map, length-set, LineReply, List, map}
use Rattle.ksm_script.proofs.Names.{map-set, None, NoPass, Option, PassState, PassView, present, refilled, refl, Refused, replicate, set, set-set, slice_get, slice_get-get_or}
use Rattle.ksm_script.proofs.Names.{slice_get_within, Some, subst, sym, table_of, TableName, ℕ, ◌<◌, ◌∙◌, ◌∷◌, ◌≡◌}

-- the slots that hold these passes
abbrev pub filled : List PassState → List (Option PassState)
filled passes = map (λ s. Some s) passes

present_all : (passes : List PassState) → present (filled passes) ≡ passes
present_all [] = refl
present_all (s ∷ passes) = ap (λ (l : List PassState). s ∷ l) (present_all passes)

module _ (slots : List (Option PassState)) (passes : List PassState) (is : slots ≡ filled passes) where
  -- slots that are filled from a list of passes hold just those passes
  pub present_is : present slots ≡ passes
  present_is = ap (λ (l : List (Option PassState)). present l) is ∙ present_all passes

  -- where the slots are filled from a list of passes, none is empty
  pub there_is : AreThere slots
  there_is = is ∙ ap filled (sym present_is)

-- where no slot is empty, there are as many passes as slots
pub as_many : (slots : List (Option PassState)) → AreThere slots → length (present slots) ≡ length slots
as_many slots there = sym (ap (λ (l : List (Option PassState)). length l) there ∙ length-map (present slots) (λ s. Some s))

-- what holds of all passes holds of the one at an index
pub own_at : (P : PassState → Type 0) (passes : List PassState) (k : ℕ) (s : PassState) → All P passes → slice_get passes k ≡ Some s → P s
own_at P passes k s all e = subst P (get_or_from_slice_get passes k s s e) (All-get_or P passes k s (slice_get_within passes k s e) all)

-- a slot whose pass was taken out is empty
pub emptied_at : (slots : List (Option PassState)) (k : ℕ) (s : PassState) → AreThere slots → slice_get (present slots) k ≡ Some s → slice_get (set slots k None) k ≡ Some None
emptied_at slots k s there e =
    let inside : k < length slots = omega (arith, slice_get_within (present slots) k s e, as_many slots there) in
    slice_get-get_or (set slots k None) k None (omega (arith, inside, length-set slots k None)) ∙ ap (λ o. Some o) (get_or-set_same slots k None None inside)

module _ (t : TableName) (D : PassState → LineReply → PassState → Type 0) (slots : List (Option PassState)) (k : ℕ) (there : AreThere slots) (own : All (λ (s : PassState). table_of s ≡ t) (present slots)) where
  -- there is no such pass
  pub acts_none : slice_get (present slots) k ≡ None → (next : List (Option PassState)) → next ≡ slots → ActsAt t k D slots (Refused NoPass) next
  acts_none none next same = subst (ActsAt t k D slots (Refused NoPass)) (sym same) record {
    does = subst (λ (o : Option PassState). DoesAt D o k (present slots) (Refused NoPass) (present slots)) (sym none) (refl, refl);
    there = there;
    own = own;
    count = refl;
  }

  -- the pass was taken out, did something, and was put back
  pub acts_one : (s after : PassState) (reply : LineReply) (taken next : List (Option PassState)) → slice_get (present slots) k ≡ Some s → taken ≡ set slots k None → next ≡ set taken k (Some after)
      → D s reply after → table_of after ≡ t → ActsAt t k D slots reply next
  acts_one s after reply taken next at out back does is_own =
      let put = λ (l : List (Option PassState)). set l k (Some after) in
      let is : next ≡ filled (set (present slots) k after) =
      back ∙ ap put out ∙ set-set slots k None (Some after) ∙ ap put there ∙ sym (map-set (λ s. Some s) (present slots) k after) in
      let now = present_is next (set (present slots) k after) is in record {
        does = subst (λ (o : Option PassState). DoesAt D o k (present slots) reply (present next)) (sym at) (after, does, now);
        there = there_is next (set (present slots) k after) is;
        own = subst (All (λ (s : PassState). table_of s ≡ t)) (sym now) (All-set (λ (s : PassState). table_of s ≡ t) (present slots) k after is_own own);
        count = ap (λ (l : List PassState). length l) now ∙ length-set (present slots) k after;
      }

-- ---- the idle ones are taken out, and put back

-- as many slots are empty as passes were taken out
pub gaps_idle : (slots : List (Option PassState)) → AreThere slots → gaps (map emptied slots) ≡ length (idle_of (present slots))
gaps_idle slots there = subst (λ (l : List (Option PassState)). gaps (map emptied l) ≡ length (idle_of (present slots))) (sym there) (of (present slots))
  where
    of : (passes : List PassState) → gaps (map emptied (filled passes)) ≡ length (idle_of passes)
    of [] = refl
    of (Idle v ∷ passes) = let h = of passes in omega arith
    of (Holding h ∷ passes) = of passes

-- passes of one table end as idle passes of that table
pub idle_own : (t : TableName) (passes : List PassState) → All (λ (s : PassState). table_of s ≡ t) passes → All (λ (v : PassView). v.table ≡ t) (idle_of passes)
idle_own t [] own = All-nil (λ (v : PassView). v.table ≡ t)
idle_own t (Idle v ∷ passes) own =
    All-cons (λ (v : PassView). v.table ≡ t) v (idle_of passes) (All-head (λ (s : PassState). table_of s ≡ t) (Idle v) passes own) (idle_own t passes (All-tail (λ (s : PassState). table_of s ≡ t) (Idle v) passes own))
idle_own t (Holding h ∷ passes) own = idle_own t passes (All-tail (λ (s : PassState). table_of s ≡ t) (Holding h) passes own)

module _ (t : TableName) where
  -- What held nothing in some passes still does in others, and each hold is as it was. Those that hold nothing are now these, all are of the table, and they are as many as before.
  abbrev pub Changed : List PassState → List PassView → List PassState → Type 0
  Changed passes back next = AllZip HoldsStill passes next × (idle_of next ≡ back) × All (λ (s : PassState). table_of s ≡ t) next × (length next ≡ length passes)

  refilled_is : (passes : List PassState) (back : List PassView) → length back ≡ length (idle_of passes) → All (λ (s : PassState). table_of s ≡ t) passes → All (λ (v : PassView). v.table ≡ t) back
      → (next : List PassState) × (refilled (map emptied (filled passes)) back ≡ filled next) × Changed passes back next
  refilled_is [] [] e own own_back = ([], refl, (tt, refl, own, refl))
  refilled_is [] (w ∷ back) e own own_back = absurd (omega arith)
  refilled_is (Idle v ∷ passes) [] e own own_back = absurd (omega arith)
  refilled_is (Idle v ∷ passes) (w ∷ back) e own own_back =
      let more = refilled_is passes back (omega arith) (All-tail (λ (s : PassState). table_of s ≡ t) (Idle v) passes own) (All-tail (λ (v : PassView). v.table ≡ t) w back own_back) in
      let here = All-cons (λ (s : PassState). table_of s ≡ t) (Idle w) more.0 (All-head (λ (v : PassView). v.table ≡ t) w back own_back) more.2.2 in
      (Idle w ∷ more.0, ap (λ (l : List (Option PassState)). Some (Idle w) ∷ l) more.1, ((tt, more.2.0), ap (λ (l : List PassView). w ∷ l) more.2.1, here, omega (arith, more.2.3)))
  refilled_is (Holding h ∷ passes) back e own own_back =
      let more = refilled_is passes back e (All-tail (λ (s : PassState). table_of s ≡ t) (Holding h) passes own) own_back in
      let here = All-cons (λ (s : PassState). table_of s ≡ t) (Holding h) more.0 (All-head (λ (s : PassState). table_of s ≡ t) (Holding h) passes own) more.2.2 in
      (Holding h ∷ more.0, ap (λ (l : List (Option PassState)). Some (Holding h) ∷ l) more.1, ((refl, more.2.0), more.2.1, here, omega (arith, more.2.3)))

  -- once the idle passes are put back, no slot is empty
  pub put_back : (slots taken next : List (Option PassState)) (passes : List PassState) (back : List PassView) → AreThere slots → present slots ≡ passes → All (λ (s : PassState). table_of s ≡ t) passes
      → taken ≡ map emptied slots → length back ≡ length (idle_of (present slots)) → All (λ (v : PassView). v.table ≡ t) back → next ≡ refilled taken back → AreThere next × Changed passes back (present next)
  put_back slots taken next passes back there is own out count own_back put =
      let of = refilled_is passes back (count ∙ ap (λ (l : List PassState). length (idle_of l)) is) own own_back in
      let holds : next ≡ filled of.0 = put ∙ ap (λ (l : List (Option PassState)). refilled l back) (out ∙ ap (map emptied) (there ∙ ap filled is)) ∙ of.1 in
      (there_is next of.0 holds, subst (Changed passes back) (sym (present_is next of.0 holds)) of.2)

-- ---- all slots

-- where no slot is empty, what holds of all passes holds of the pass in each slot
pub slots_own : (P : PassState → Type 0) (slots : List (Option PassState)) → AreThere slots → All P (present slots) → All (λ (o : Option PassState). IsSomeAnd o P) slots
slots_own P slots there own = subst (All (λ (o : Option PassState). IsSomeAnd o P)) (sym there) (All-map (λ (o : Option PassState). IsSomeAnd o P) (λ s. Some s) (present slots) own)

module _ (R : PassState → PassState → Type 0) where
  zip_there : (passes : List PassState) (next : List (Option PassState)) → AllZip (λ o. InBoth R o) (filled passes) next → AreThere next × AllZip R passes (present next)
  zip_there [] [] z = (refl, tt)
  zip_there [] (o ∷ next) z = absurd z
  zip_there (s ∷ passes) [] z = absurd z
  zip_there (s ∷ passes) (None ∷ next) z = absurd z.0
  zip_there (s ∷ passes) (Some x ∷ next) z = let h = zip_there passes next z.1 in (ap (λ (l : List (Option PassState)). Some x ∷ l) h.0, (z.0, h.1))

  -- where R relates the passes of two lists of slots one by one, the second is FULLWORD too, and R relates their passes
  pub all_there : (slots next : List (Option PassState)) → AreThere slots → AllZip (λ o. InBoth R o) slots next → AreThere next × AllZip R (present slots) (present next)
  all_there slots next there z = zip_there (present slots) next (subst (λ (l : List (Option PassState)). AllZip (λ o. InBoth R o) l next) there z)

-- what holds of the pass in each slot holds of all passes
pub present_own : (P : PassState → Type 0) (slots : List (Option PassState)) → All (λ (o : Option PassState). IsSomeAnd o P) slots → All P (present slots)
present_own P [] own = All-nil P
present_own P (None ∷ slots) own = present_own P slots (All-tail (λ (o : Option PassState). IsSomeAnd o P) None slots own)
present_own P (Some s ∷ slots) own =
    All-cons P s (present slots) (All-head (λ (o : Option PassState). IsSomeAnd o P) (Some s) slots own) (present_own P slots (All-tail (λ (o : Option PassState). IsSomeAnd o P) (Some s) slots own))

-- passes that all end idle are idle
pub ends_idle : (passes next : List PassState) → AllZip EndsIdle passes next → All IsIdle next
ends_idle [] [] z = All-nil IsIdle
ends_idle [] (s ∷ next) z = absurd z
ends_idle (p ∷ passes) [] z = absurd z
ends_idle (p ∷ passes) (Idle v ∷ next) z = All-cons IsIdle (Idle v) next tt (ends_idle passes next z.1)
ends_idle (p ∷ passes) (Holding h ∷ next) z = absurd z.0

-- slots that all have the same pass are copies of it
pub all_same : (x : PassState) (slots : List (Option PassState)) → All (λ (o : Option PassState). o ≡ Some x) slots → slots ≡ filled (replicate (length slots) x)
all_same x [] all = refl
all_same x (o ∷ slots) all =
    let h = All-head (λ (o : Option PassState). o ≡ Some x) o slots all in
    let t = all_same x slots (All-tail (λ (o : Option PassState). o ≡ Some x) o slots all) in λ i. h i ∷ t i
