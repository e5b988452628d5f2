-- Whatever the table is, a step of a reader that the core allows keeps the table's rule.
use Rattle.std.proofs.Common.{◌≡◌, ℕ, zero, suc, ◌<◌, ◌≢◌, true, Bool, cond, eqb, List, [], ◌∷◌, ◌++◌, set, get_or, slice_set, refl, ap, sym, subst, ◌∙◌, eq-eqb, ne_eqb}
use Rattle.atomic_table.specs.Table.{keeps, Allows}
use Rattle.frame_table.proofs.CoreNames.{Shape, Event, ReaderStep, Phase, Spent as spent_phase, words_of, History, run_of, log_of, may_read, seat_after}
use Rattle.frame_core.specs.declared.event.Event.TheVariants as event
use Rattle.frame_core.specs.State as core
use Rattle.frame_table.proofs.Names.{Tally, View, Keeper, Reader, Spent, reader_word, written, ReaderLog, sits, Holds, Tied, StepsNow, tells, IsReaderStep}
use Rattle.frame_table.proofs.Making.{kept, seen, phase_is, ran, present, made}
use Rattle.frame_table.proofs.Orders.{begins_itself}
use Rattle.frame_table.proofs.ReaderWords.{reader_step_is}

-- a reader's step leaves what the other views tell
tied_beside_reader : (sh : Shape) (h : History) (tally : Tally) (q : ℕ) (e : ReaderStep) (r : ℕ × core.State) → r.1.ledger ≡ h.state.ledger
    → (j : ℕ) (v : View) → j ≢ suc q → Tied sh h tally j v → Tied sh (record { state = r.1; trace = record { event = event.Reader q e; word = r.0 } ∷ h.trace }) tally j v
tied_beside_reader sh h tally q e r same zero (Keeper sh' ledger tally' log order) ne tied = (tied.0, tied.1 ∙ sym same, tied.2, tied.3)
tied_beside_reader sh h tally q e r same (suc p) (Reader sh' phase log order) ne tied =
    (tied.0, tied.1 ∙ sym (ap (λ (b : Bool). cond b (log_of p h.trace ++ (e, r.0) ∷ []) (log_of p h.trace)) (ne_eqb q p (λ k. ne (ap suc (sym k))))))
tied_beside_reader sh h tally q e r same (suc p) Spent ne tied = tt
tied_beside_reader sh h tally q e r same _ _ ne tied = absurd tied

-- an operation that leaves what the step leaves may make a step of a reader, whatever the table is
pub reader_may : (slots : ℕ) (e : ReaderStep) (phase : Phase) (log : ReaderLog) (order : List Event) (f : ℕ → ℕ) (sh : Shape) (id : ℕ) → may_read sh e phase ≡ true
    → ((n : ℕ) → n < 18446744073709551616 → tells sh e phase n → f n ≡ written e phase n)
    → Allows (Holds sh) slots id (sits sh phase log order) (reader_word sh e phase) f (StepsNow e (sits sh phase log order))
reader_may slots e phase log order f sh zero may writes t h size at small = absurd (seen sh t h 0 (Reader sh phase log order) at)
reader_may slots e phase log order f sh (suc q) may writes t h size at small =
    let past = run_of sh h.events in
    let s = past.state in
    let this : Event = event.Reader q e in
    let events : List Event = h.events ++ this ∷ [] in
    let v : View = Reader sh phase log order in
    let i : ℕ = reader_word sh e phase in
    let n : ℕ = get_or t.words i 0 in
    let here = phase_is sh t h q v at in
    let half : IsReaderStep sh s q e phase = subst (IsReaderStep sh s q e) here
    (reader_step_is sh s (kept sh t h) q e (subst (λ (x : Phase). may_read sh e x ≡ true) (sym here) may)) in
    let found : n ≡ half.found = ap (λ (l : List ℕ). get_or l i 0) h.after.words_are ∙ half.word in
    let told : tells sh e phase n = subst (tells sh e phase) (sym found) half.told in
    let w : View = Reader sh (seat_after sh e phase n) (log ++ (e, n) ∷ []) events in
    let r : ℕ × core.State = (half.found, half.next) in
    let mine = (seen sh t h (suc q) v at).1 in
    let logged : log ++ (e, n) ∷ [] ≡ cond (eqb q q) (log_of q past.trace ++ (e, half.found) ∷ []) (log_of q past.trace) = (λ k. mine k ++ (e, found k) ∷ [])
    ∙ sym (ap (λ (b : Bool). cond b (log_of q past.trace ++ (e, half.found) ∷ []) (log_of q past.trace)) (eq-eqb q q refl)) in (
      w,
      keeps,
      tt,
      made sh t h (suc q) v w at this r half.steps i (f n)
          ((λ k. set (h.after.words_are k) i (writes n small told k)) ∙ (ap (λ (m : ℕ). set (words_of s) i (written e phase m)) found ∙ half.words)) refl refl
          (ap (λ (l : List Phase). spent_phase ∷ l) (ap (λ (m : ℕ). slice_set s.seats q (seat_after sh e phase m)) found ∙ sym half.seats))
          (refl, logged) (λ j x ne. tied_beside_reader sh past h.tally q e r half.ledger j x ne)
          (begins_itself events, logged ∙ ap (λ (g : History). log_of q g.trace) (sym (ran sh t h (suc q) v w at this r half.steps))),
      (refl, told, (q, present sh t h (suc q) v w at this r half.steps order n (h.orders (suc q) v at).0 found)),
    )
