-- Whatever the table is, a step of the keeper that the core allows keeps the table's rule.
use Rattle.std.proofs.Common.{◌≡◌, ℕ, zero, suc, ◌<◌, ◌≢◌, Bool, List, [], ◌∷◌, ◌++◌, set, get_or, Some, refl, ap, sym, subst, ◌∙◌}
use Rattle.std.proofs.lemmas.List.{map-set}
use mathlib.Core.Option.{some}
use lib.ListN.{get_elem?}
use Rattle.atomic_table.specs.Table.{keeps, Allows}
use Rattle.frame_table.proofs.CoreNames.{Shape, frames_of, Event, KeeperStep, Ledger, Phase, Spent as spent_phase, keeper_finds, ledger_after, MayStep, step, only_if, after_keeper, words_of, History}
use Rattle.frame_table.proofs.CoreNames.{run_of, log_of, keeper_log_of}
use Rattle.frame_core.specs.declared.event.Event.TheVariants as event
use Rattle.frame_core.specs.State as core
use Rattle.frame_core.specs.Rule as core_rule
use Rattle.frame_core.proofs.Above.{decides}
use Rattle.frame_table.proofs.Names.{Tally, View, Keeper, Reader, Spent, KeeperLog, keeps_ledger, phase_of, Holds, IsAfter, Tied, Keeps, keeper_word, keeper_written, found_by, knows, IsKeeperStep}
use Rattle.frame_table.proofs.KeeperWords.{keeper_words}
use Rattle.frame_table.proofs.Looked.{each_put}
use Rattle.frame_table.proofs.Making.{kept, seen, ran, present, made}
use Rattle.frame_table.proofs.Orders.{begins_itself}

-- what a step that is allowed finds and makes
keeper_step : (sh : Shape) (s : core.State) (e : KeeperStep) → MayStep sh s.ledger e → step sh s (event.Keeper e) ≡ Some (keeper_finds s e, after_keeper sh s e (keeper_finds s e))
keeper_step sh s e may =
    let made : ℕ × core.State = (keeper_finds s e, after_keeper sh s e (keeper_finds s e)) in ap (λ (b : Bool). only_if b made) ((decides sh s.ledger e).1 may)

-- a step of the keeper that the ledger allows is the core's
pub keeper_step_is : (sh : Shape) (s : core.State) (e : KeeperStep) → core_rule.Rule sh s → MayStep sh s.ledger e → IsKeeperStep sh s e
keeper_step_is sh s e rule may = let one = keeper_words sh s rule e may in record {
  found = keeper_finds s e;
  next = after_keeper sh s e (keeper_finds s e);
  steps = keeper_step sh s e may;
  word = one.1;
  words = one.0;
  seats = refl;
  ledger = refl;
  told = one.2;
}

-- of a seat that is not the keeper's, what is told does not speak of the keeper
pub tied_beside_keeper : (sh : Shape) (h g : History) (tally tally' : Tally) (j : ℕ) (v : View) → ((q : ℕ) → log_of q g.trace ≡ log_of q h.trace) → j ≢ 0
    → Tied sh h tally j v → Tied sh g tally' j v
tied_beside_keeper sh h g tally tally' zero v same ne tied = absurd (ne refl)
tied_beside_keeper sh h g tally tally' (suc q) (Reader sh' phase log order) same ne tied = (tied.0, tied.1 ∙ sym (same q))
tied_beside_keeper sh h g tally tally' (suc q) Spent same ne tied = tt
tied_beside_keeper sh h g tally tally' (suc q) (Keeper sh' ledger t log order) same ne tied = absurd tied

-- the table keeps its rule where the keeper's view becomes one that tells another tally
pub keeper_retold : (sh : Shape) (h : History) (tally tally' : Tally) (words : List ℕ) (views : List View) (v w : View)
    → phase_of w ≡ spent_phase → Tied sh h tally' 0 w → get_elem? views 0 ≡ some v → IsAfter sh h tally words views → IsAfter sh h tally' words (set views 0 w)
keeper_retold sh h tally tally' words views v w keeper told at is = record {
  words_are = is.words_are;
  phases_are = map-set phase_of views 0 w ∙ (ap (λ (l : List Phase). set l 0 (phase_of w)) is.phases_are ∙ (λ i. keeper i ∷ h.state.seats));
  tied = each_put (Tied sh h tally') views 0 w told (λ j x ne of. tied_beside_keeper sh h h tally tally' j x (λ q. refl) ne (is.tied j x of));
}

-- an operation that leaves what the step leaves may make a step of the keeper, whatever the table is
pub keeper_may : (slots : ℕ) (e : KeeperStep) (f : ℕ → ℕ) (log : KeeperLog) (order : List Event) (sh : Shape) (k : Ledger) (tally : Tally) (id : ℕ) → MayStep sh k e
    → ((n : ℕ) → n < 18446744073709551616 → knows k e (found_by e n) → f n ≡ keeper_written k e n)
    → Allows (Holds sh) slots id (keeps_ledger sh k tally log order) (keeper_word (frames_of sh) e) f (λ n. Keeps e (keeps_ledger sh k tally log order) (found_by e n))
keeper_may slots e f log order sh k tally (suc id) may writes t h size at small = absurd (seen sh t h (suc id) (Keeper sh k tally log order) at)
keeper_may slots e f log order sh k tally zero may writes t h size at small =
    let past = run_of sh h.events in
    let s = past.state in
    let this : Event = event.Keeper e in
    let events : List Event = h.events ++ this ∷ [] in
    let v : View = Keeper sh k tally log order in
    let i : ℕ = keeper_word (frames_of sh) e in
    let n : ℕ = get_or t.words i 0 in
    let tied = seen sh t h 0 v at in
    let may' = subst (λ (x : Ledger). MayStep sh x e) tied.1 may in
    let one = keeper_words sh s (kept sh t h) e may' in
    let same : n ≡ get_or (words_of s) i 0 = ap (λ (l : List ℕ). get_or l i 0) h.after.words_are in
    let found : found_by e n ≡ keeper_finds s e = ap (found_by e) same ∙ one.1 in
    let knew : knows k e (found_by e n) = subst (λ (x : Ledger × ℕ). knows x.0 e x.1) (λ j. (sym tied.1 j, sym found j)) one.2 in
    let r : ℕ × core.State = (keeper_finds s e, after_keeper sh s e (keeper_finds s e)) in
    let is = keeper_step sh s e may' in
    let w : View = Keeper sh (ledger_after sh k e (found_by e n)) tally (log ++ (e, found_by e n) ∷ []) events in
    let logged : log ++ (e, found_by e n) ∷ [] ≡ keeper_log_of past.trace ++ (e, keeper_finds s e) ∷ [] = λ j. tied.3 j ++ (e, found j) ∷ [] in
    let words : set t.words i (f n) ≡ words_of r.1 = (λ j. set (h.after.words_are j) i (writes n small knew j))
    ∙ ((λ j. set (words_of s) i (keeper_written (tied.1 j) e (same j))) ∙ one.0) in (
      w,
      keeps,
      tt,
      made sh t h 0 v w at this r is i (f n) words refl refl refl (refl, (λ j. ledger_after sh (tied.1 j) e (found j)), tied.2, logged)
          (λ j x ne. tied_beside_keeper sh past record { state = r.1; trace = record { event = this; word = r.0 } ∷ past.trace } h.tally h.tally j x (λ q. refl) ne)
          (begins_itself events, logged ∙ ap (λ (g : History). keeper_log_of g.trace) (sym (ran sh t h 0 v w at this r is))),
      (refl, knew, present sh t h 0 v w at this r is order (found_by e n) (h.orders 0 v at).0 found),
    )
