-- What the workers found is put together, line by line and worker by worker.
use Rattle.std.proofs.Common.{◌≡◌, ◌≢◌, ℕ, zero, suc, ◌+◌, ◌-◌, ◌<◌, ◌≤◌, ◌⊎◌, ⊎_elim, inl, inr, if◌then◌else◌, Bool, List, [], ◌∷◌, ◌++◌, length, get_or, set, slice_get, Option, Some, sym, refl, ap}
use Rattle.std.proofs.Common.{◌∙◌, subst, arith, append_assoc, append-nil, ne_eqb, eq-eqb}
use Rattle.std.specs.Prelude.{option_to_list}
use Rattle.std.proofs.lemmas.List.Elements.{All-cons}
use Rattle.frame_core.proofs.Above.{get_set}
use Rattle.frame_table.specs.Named.{PassView}
use Rattle.ksm_audit.specs.declared.report.Row.{Row}
use Rattle.ksm_audit.specs.declared.job.Line.{Line}
use Rattle.ksm_audit.specs.declared.job.Job.{Job}
use Rattle.ksm_audit.specs.declared.claims.Deal.{Deal}
use Rattle.ksm_audit.specs.Claims.{times, hand, one_less, both, remaining}
use Rattle.ksm_audit.specs.Working.{Sat, line, places_of}
use Rattle.ksm_audit.specs.Gathering.{loaded, drawn_total, lines_total, InLines, InJobs, AreInside, Fills, AllBelow}
use Rattle.ksm_audit.proofs.Dealing.{times_append}

places_append : (xs ys : List Line) → places_of (xs ++ ys) ≡ places_of xs ++ places_of ys
places_append [] ys = refl
places_append (x ∷ xs) ys = ap (λ (ps : List ℕ). x.place ∷ ps) (places_append xs ys)

lines_left : (p : ℕ) (row : Row) (xs ys : List Line) → InLines p row xs → InLines p row (xs ++ ys)
lines_left p row [] ys h = absurd h
lines_left p row (x ∷ xs) ys h = ⊎_elim (λ e. inl e) (λ r. inr (lines_left p row xs ys r)) h

lines_last : (p : ℕ) (row : Row) (xs : List Line) (l : Line) → l ≡ line p row → InLines p row (xs ++ l ∷ [])
lines_last p row [] l e = inl e
lines_last p row (x ∷ xs) l e = inr (lines_last p row xs l e)

-- one line more fills the row of its place
pub fills_more : (ls : List Line) (l : Line) (before rows : List Row) → Fills ls before rows → Fills (ls ++ l ∷ []) before (set rows l.place l.row)
fills_more ls l before rows h p row e = ⊎_elim
    (λ (t : (p ≡ l.place) × (l.row ≡ row)). inl (lines_last p row ls l (let z : l ≡ line p row = λ i. let x : Line = record { place = sym t.0 i; row = t.1 i } in x in z)))
    (λ (t : (p ≢ l.place) × (slice_get rows p ≡ Some row)). ⊎_elim
    (λ is. inl (lines_left p row ls (l ∷ []) is))
    (λ (none : (times p (places_of ls) ≡ 0) × (slice_get before p ≡ Some row)).
    let all : times p (places_of (ls ++ l ∷ [])) ≡ times p (places_of ls ++ l.place ∷ []) = ap (times p) (places_append ls (l ∷ [])) in
    let sum = times_append p (places_of ls) (l.place ∷ []) in
    let apart : times p (l.place ∷ []) ≡ 0 = subst (λ (b : Bool). (if b then 1 else 0) + 0 ≡ 0) (sym (ne_eqb l.place p (λ q. t.0 (sym q)))) refl in
    inr (omega (arith, all, sum, apart, none.0), none.1))
    (h p row t.1))
    (get_set rows l.place p l.row row e)

not_past : (count x : ℕ) → ((count ≤ x) → ⊥) → x < count
not_past count x never = omega (arith, never)

-- where no lookup is of a place from the count on, the place of each line is below the count
pub place_below : (count : ℕ) (ls : List Line) (k : ℕ) (d : Line) → AreInside count ls → k < length ls → (get_or ls k d).place < count
place_below count [] k d inside lt = absurd (omega arith)
place_below count (l ∷ ls) zero d inside lt = not_past count l.place (λ le. let h = inside l.place le in let one : times l.place (l.place ∷ []) ≡ 1 = subst (λ (b : Bool). (if b then 1 else 0) + 0 ≡ 1) (sym (eq-eqb l.place l.place refl)) refl in omega arith)
place_below count (l ∷ ls) (suc k) d inside lt = place_below count ls k d (λ x le. let h = inside x le in omega arith) (omega arith)

jobs_left : (p : ℕ) (row : Row) (xs ys : List Job) → InJobs p row xs → InJobs p row (xs ++ ys)
jobs_left p row [] ys h = absurd h
jobs_left p row (x ∷ xs) ys h = ⊎_elim (λ e. inl e) (λ r. inr (jobs_left p row xs ys r)) h

jobs_last : (p : ℕ) (row : Row) (xs : List Job) (j : Job) → InLines p row j.lines.items → InJobs p row (xs ++ j ∷ [])
jobs_last p row [] j h = inl h
jobs_last p row (x ∷ xs) j h = inr (jobs_last p row xs j h)

lines_total_append : (p : ℕ) (xs ys : List Job) → lines_total p (xs ++ ys) ≡ lines_total p xs + lines_total p ys
lines_total_append p [] ys = omega arith
lines_total_append p (x ∷ xs) ys = let h = lines_total_append p xs ys in omega arith

-- each row is that of a lookup of its place, or there was none yet
abbrev pub AreFilled : List Job → List Row → Type 0
AreFilled jobs rows = (p : ℕ) (row : Row) → slice_get rows p ≡ Some row → InJobs p row jobs ⊎ (lines_total p jobs ≡ 0)

-- rows filled by some jobs, and then by one more, are filled by all of those jobs
pub filled_more : (js : List Job) (j : Job) (rows after : List Row) → AreFilled js rows → Fills j.lines.items rows after → AreFilled (js ++ j ∷ []) after
filled_more js j rows after h fills p row e = ⊎_elim
    (λ (is : InLines p row j.lines.items). inl (jobs_last p row js j is))
    (λ (t : (times p (places_of j.lines.items) ≡ 0) × (slice_get rows p ≡ Some row)). ⊎_elim
    (λ is. inl (jobs_left p row js (j ∷ []) is))
    (λ none. inr (let s = lines_total_append p js (j ∷ []) in let z = t.0 in omega arith))
    (h p row t.1))
    (fills p row e)

-- the passes of two lists of jobs are those of the second list, then those of the first
pub loaded_append : (xs ys : List Job) → loaded (xs ++ ys) ≡ loaded ys ++ loaded xs
loaded_append [] ys = sym (append-nil (loaded ys))
loaded_append (x ∷ xs) ys = ap (λ (l : List PassView). l ++ option_to_list x.pass) (loaded_append xs ys) ∙ append_assoc (loaded ys) (loaded xs) (option_to_list x.pass)

-- what was gathered of the workers that were taken back, of so many in all
pub record Gathered (all jobs : List Job) (before now : List PassView) (m : Sat) : Type 0 where
  -- the workers that were taken back
  pub done : List Job
  -- all workers are those that are left and those that were taken back
  pub parted : all ≡ jobs ++ done
  -- the passes are those from before and those of the workers that were taken back
  pub passes : now ≡ before ++ loaded done
  -- the seat has drawn each number as often as the workers that were taken back
  pub drawn : (x : ℕ) → times x m.0.drawn ≡ drawn_total x done
  -- no worker that was taken back has gone beyond the seat's next number
  pub below : AllBelow m.0.next done
  -- the seat holds nothing
  pub held : m.1 ≡ []

-- one more job gathered adds its pass and its draws
pub gathers_more : (all jobs rest : List Job) (j : Job) (before passes after : List PassView) (v : PassView) (m n : Sat) → Gathered all jobs before passes m → jobs ≡ rest ++ j ∷ []
    → j.pass ≡ Some v → after ≡ passes ++ v ∷ [] → n ≡ (both m.0 j.seat.me.0, m.1) → Gathered all rest before after n
gathers_more all jobs rest j before passes after v m n g is has more joined = record {
  done = j ∷ g.done;
  parted = g.parted ∙ ap (λ (l : List Job). l ++ g.done) is ∙ append_assoc rest (j ∷ []) g.done;
  passes = more ∙ ap (λ (l : List PassView). l ++ v ∷ []) g.passes ∙ append_assoc before (loaded g.done) (v ∷ []) ∙ ap (λ (o : Option PassView). before ++ (loaded g.done ++ option_to_list o)) (sym has);
  drawn = λ x. (let d = ap (λ (s : Sat). times x s.0.drawn) joined ∙ times_append x m.0.drawn j.seat.me.0.drawn in let o = g.drawn x in omega arith);
  below = (let e = ap (λ (s : Sat). s.0.next) joined in
      All-cons (λ (i : Job). i.seat.me.0.next ≤ n.0.next) j g.done (omega arith) (λ k d lt. let o = g.below k d lt in omega arith));
  held = ap (λ (s : Sat). s.1) joined ∙ g.held;
}

-- the passes are those that are left and those that the jobs have, once one job more has the last one
pub loaded_on : (all passes rest : List PassView) (jobs more : List Job) (j : Job) (v : PassView) → all ≡ passes ++ loaded jobs → passes ≡ rest ++ v ∷ [] → more ≡ jobs ++ j ∷ [] → j.pass ≡ Some v → all ≡ rest ++ loaded more
loaded_on all passes rest jobs more j v is popped pushed has =
    is ∙ ap (λ (l : List PassView). l ++ loaded jobs) popped ∙ append_assoc rest (v ∷ []) (loaded jobs)
    ∙ ap (λ (o : Option PassView). rest ++ (option_to_list o ++ loaded jobs)) (sym has)
    ∙ ap (λ (l : List PassView). rest ++ l) (sym (loaded_append jobs (j ∷ []))) ∙ ap (λ (l : List Job). rest ++ loaded l) (sym pushed)

-- the first seat keeps what is left of the deal once one worker more has its seat
pub remaining_less : (deal : Deal) (n more : ℕ) (m w : Sat) → m ≡ remaining deal n → more ≡ n + 1 → w ≡ (one_less m.0, m.1) → w ≡ remaining deal more
remaining_less deal n more m w is one e =
    let a : deal.workers + 1 - n - 1 ≡ deal.workers + 1 - more = omega arith in
    e ∙ ap (λ (s : Sat). let z : Sat = (one_less s.0, s.1) in z) is ∙ λ i. (hand deal (a i) 0 0 [], [])
