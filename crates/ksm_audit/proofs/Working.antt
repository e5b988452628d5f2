-- A worker goes on from place to place.
use Rattle.std.proofs.Common.{◌≡◌, ◌≢◌, ℕ, ◌+◌, ◌<◌, ◌≤◌, Bool, if◌then◌else◌, List, [], ◌∷◌, ◌++◌, length, Option, Some, None, sym, refl, ap, ◌∙◌, subst, arith, append_assoc, append-nil}
use Rattle.std.proofs.Common.{length-append, ne_eqb, ⊎_elim}
use Rattle.std.proofs.lemmas.Bool.Decides.{nat_tests}
use Rattle.ksm_base.specs.declared.shape.Shape.{Shape}
use Rattle.frame_table.specs.Named.{TableName, PassView}
use Rattle.frame_table.specs.Lookup.{ReaderLog}
use Rattle.ksm_audit.specs.declared.report.Row.{Row}
use Rattle.ksm_audit.specs.declared.job.Line.{Line}
use Rattle.ksm_audit.specs.Claims.{once_from, times}
use Rattle.ksm_audit.specs.Lookups.{IsLookup, Visits}
use Rattle.ksm_audit.specs.Working.{Sat, Drew, line, places_of, AreLookups, MakesLookups, Keeps, Answers, MayStop}
use Rattle.ksm_audit.proofs.Dealing.{times_append}

-- a number does not occur in a list of one other number
pub apart : (x y : ℕ) → y ≢ x → times x (y ∷ []) ≡ 0
apart x y ne = subst (λ (b : Bool). (if b then 1 else 0) + 0 ≡ 0) (sym (ne_eqb y x ne)) refl

module _ (m : Sat) (found : ℕ) (w : Sat) (d : Drew m found w) where
  -- a draw leaves the deal as it was
  pub same_deal : w.0.deal ≡ m.0.deal
  same_deal = ap (λ (q : Sat). q.0.deal) d.0

  -- a draw that finds a place leaves the count of numbers past the places at 0
  pub still_none : m.0.past ≡ 0 → found < m.0.deal.places → w.0.past ≡ 0
  still_none none lt = ap (λ (q : Sat). q.0.past) d.0 ∙ sums found m.0.deal.places m.0.past none lt
    where
      sums : (n places past : ℕ) → past ≡ 0 → n < places → past + once_from n places ≡ 0
      sums n places past none lt = grind (arith, nat_tests)

  -- a worker whose numbers were all places has at most one number that is no place after its next draw
  pub one_at_most : m.0.past ≡ 0 → w.0.past ≤ 1
  one_at_most none = let e = ap (λ (q : Sat). q.0.past) d.0 in let s = sums found m.0.deal.places m.0.past none in omega (arith, e, s)
    where
      sums : (n places past : ℕ) → past ≡ 0 → past + once_from n places ≤ 1
      sums n places past none = grind (arith, nat_tests)

module _ (count : ℕ) (places : List ℕ) (refused : Option ℕ) (m : Sat) (k : Keeps count places refused m) (found : ℕ) (w : Sat) (d : Drew m found w) where
  times_now : (x : ℕ) → times x w.0.drawn ≡ times x m.0.drawn + times x (found ∷ [])
  times_now x = ap (λ (q : Sat). times x q.0.drawn) d.0 ∙ times_append x m.0.drawn (found ∷ [])

  held_now : w.1 ≡ []
  held_now = ap (λ (q : Sat). q.1) d.0 ∙ k.held

  parts_now : w.0.parts ≡ 1
  parts_now = ap (λ (q : Sat). q.0.parts) d.0 ∙ k.parts

  next_now : m.0.next + 1 ≤ w.0.next
  next_now =
      let n = ap (λ (q : Sat). q.0.next) d.0 in
      let o = d.1 in omega arith

  -- `Keeps` stays true of a worker that drew a number which is no place
  pub keeps_past : count ≤ found → Keeps count places refused w
  keeps_past le = record {
    held = held_now;
    parts = parts_now;
    room = (let r = k.room in let n = next_now in omega arith);
    inside = k.inside;
    most = λ x. (let t = times_now x in let o = k.most x in omega arith);
    all = λ none x lt. (let t = times_now x in let o = k.all none x lt in let z = apart x found (λ e. omega arith) in omega arith);
  }

  -- `Keeps` becomes true of a worker that drew a number once the gate has refused
  pub keeps_refused : (at : ℕ) → Keeps count places (Some at) w
  keeps_refused at = record {
    held = held_now;
    parts = parts_now;
    room = (let r = k.room in let n = next_now in omega arith);
    inside = k.inside;
    most = λ x. (let t = times_now x in let o = k.most x in omega arith);
    all = λ none. absurd (cc none);
  }

  -- `Keeps` stays true of a worker that drew a place and looked that place up
  pub keeps_answered : found < count → refused ≡ None → Keeps count (places ++ found ∷ []) None w
  keeps_answered lt no_refusal = record {
    held = held_now;
    parts = parts_now;
    room = (let r = k.room in let n = next_now in let e = length-append places (found ∷ []) in omega arith);
    inside = λ x le. (let a = times_append x places (found ∷ []) in let o = k.inside x le in let z = apart x found (λ e. omega arith) in omega arith);
    most = λ x. (let t = times_now x in let a = times_append x places (found ∷ []) in let o = k.most x in omega arith);
    all = λ none x below. (let t = times_now x in let a = times_append x places (found ∷ []) in let o = k.all no_refusal x below in omega arith);
  }

-- one line more adds its place behind the places of the lines
pub places_more : (lines : List Line) (place : ℕ) (row : Row) → places_of (lines ++ line place row ∷ []) ≡ places_of lines ++ place ∷ []
places_more [] place row = refl
places_more (l ∷ ls) place row = ap (λ (ps : List ℕ). l.place ∷ ps) (places_more ls place row)

lookups_more : (sh : Shape) (ls : List Line) (place : ℕ) (row : Row) (log here : ReaderLog) → AreLookups sh ls log → IsLookup sh place row here → AreLookups sh (ls ++ line place row ∷ []) (log ++ here)
lookups_more sh [] place row log here are is = (here, [], ap (λ (l : ReaderLog). l ++ here) are ∙ sym (append-nil here), is, refl)
lookups_more sh (l ∷ ls) place row log here are is =
    (are.0, are.1 ++ here, ap (λ (x : ReaderLog). x ++ here) are.2 ∙ append_assoc are.0 are.1 here, are.3, lookups_more sh ls place row are.1 here are.4 is)

-- a pass that made some lookups and then one visit made the lookups with the line of that visit
pub made_more : (v w x : PassView) (ls : List Line) (place : ℕ) (row : Row) → MakesLookups v ls w → Visits w place row x → MakesLookups v (ls ++ line place row ∷ []) x
made_more v w x ls place row made visit =
    let added = made.1.0 in
    let here = visit.1.0 in
    let is = subst (λ (t : TableName). IsLookup t.shape place row here) made.0 visit.1.2 in
    (visit.0 ∙ made.0, (added ++ here, visit.1.1 ∙ ap (λ (l : ReaderLog). l ++ here) made.1.1 ∙ append_assoc v.log added here, lookups_more v.table.shape ls place row added here made.1.2 is))

module _ (may : ℕ → Type 0) (place : ℕ) (v : PassView) (ls : List Line) (r : Option ℕ) (w : PassView) (ls' : List Line) (r' : Option ℕ) (a : Answers may place v ls r w ls' r') where
  abbrev Before : Type 0
  Before = (r' ≡ r) × (w ≡ v) × (ls' ≡ ls) × ((at : ℕ) × (r ≡ Some at))

  abbrev Refuses : Type 0
  Refuses = (r' ≡ Some place) × (w ≡ v) × (ls' ≡ ls) × may place

  abbrev Looks : Type 0
  Looks = (r ≡ None) × (r' ≡ None) × ((row : Row) × (ls' ≡ ls ++ line place row ∷ []) × Visits v place row w)

  -- `Keeps` stays true of a worker that drew one more place and answered that place
  pub keeps_on : (count : ℕ) (m n : Sat) → Keeps count (places_of ls) r m → place < count → Drew m place n → Keeps count (places_of ls') r' n
  keeps_on count m n k lt d = ⊎_elim
      (λ (b : Before). subst (λ (x : List Line × Option ℕ). Keeps count (places_of x.0) x.1 n) (λ i. (sym b.2 i, sym (b.0 ∙ b.3.1) i)) (keeps_refused count (places_of ls) r m k place n d b.3.0))
      (⊎_elim
      (λ (b : Refuses). subst (λ (x : List Line × Option ℕ). Keeps count (places_of x.0) x.1 n) (λ i. (sym b.2 i, sym b.0 i)) (keeps_refused count (places_of ls) r m k place n d place))
      (λ (b : Looks). subst (λ (x : List ℕ × Option ℕ). Keeps count x.0 x.1 n) (λ i. (sym (ap places_of b.2.1 ∙ places_more ls place b.2.0) i, sym b.1 i)) (keeps_answered count (places_of ls) r m k place n d lt b.0)))
      a

  -- once a place was answered, the place at which the gate refused, if any, is still one that it may refuse
  pub stop_on : (count : ℕ) → MayStop may count r → place < count → MayStop may count r'
  stop_on count stop lt at some = ⊎_elim
      (λ (b : Before). stop at (sym b.0 ∙ some))
      (⊎_elim
      (λ (b : Refuses). let same : place ≡ at = cc (b.0, some) in subst (λ (x : ℕ). (x < count) × may x) same (lt, b.3))
      (λ (b : Looks). absurd (cc (b.1, some))))
      a

  -- once a place was answered, the pass has made the lookups of all the lines
  pub made_on : (u : PassView) → MakesLookups u ls v → MakesLookups u ls' w
  made_on u made = ⊎_elim
      (λ (b : Before). subst (λ (x : List Line × PassView). MakesLookups u x.0 x.1) (λ i. (sym b.2 i, sym b.1 i)) made)
      (⊎_elim
      (λ (b : Refuses). subst (λ (x : List Line × PassView). MakesLookups u x.0 x.1) (λ i. (sym b.2 i, sym b.1 i)) made)
      (λ (b : Looks). subst (λ (x : List Line). MakesLookups u x w) (sym b.2.1) (made_more u v w ls place b.2.0 made b.2.2)))
      a

  -- the pass is of the same table once a place was answered
  pub same_table : w.table ≡ v.table
  same_table = ⊎_elim (λ (b : Before). ap (λ (x : PassView). x.table) b.1) (⊎_elim (λ (b : Refuses). ap (λ (x : PassView). x.table) b.1) (λ (b : Looks). b.2.2.0)) a

-- there are as many places as lines
pub as_many : (ls : List Line) → length (places_of ls) ≡ length ls
as_many [] = refl
as_many (l ∷ ls) = let h = as_many ls in omega arith
