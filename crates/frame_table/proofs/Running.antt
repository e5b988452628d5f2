-- The rule of the table says that it runs safely.
use Rattle.std.proofs.Common.{◌≡◌, ◌↔◌, ℕ, zero, suc, ◌<◌, ◌≤◌, List, take, get_or, Option, ap, sym, ◌∙◌, refl, subst, arith, eq-eqb}
use Rattle.std.proofs.lemmas.Option.{slice_get_within, get_or_from_slice_get}
use mathlib.Core.Option.{some}
use lib.ListN.{get_elem?}
use Rattle.frame_table.proofs.CoreNames.{PAGE_WORDS, Shape, frames_of, Event, Ledger, Aim, Held, State, count_in, life_in, words_of, frame_word_at, frame_at, IsWritable, Rule, SeatRule, is_on}
use Rattle.frame_table.proofs.CoreNames.{phase_at, History, run_of, keeper_log_of, IsSafe}
use Rattle.frame_core.proofs.Above.{not_held, referenced, count_found, life_found, word_get, content_get, place_get, run_safe, run_given}
use Rattle.frame_table.proofs.Names.{Tally, View, Keeper, Reader, Spent, Moment, Holds, Tied, IsKeepers, KeeperLog, TheTableRunsSafely, LedgerIs, HoldIs}
use Rattle.frame_table.proofs.Making.{kept, seen, seated, phase_is}

-- what is known of the words, in a state of the core
module _ (sh : Shape) (h : History) (rule : Rule sh h.state) where
  abbrev s : State
  s = h.state

  -- the life in the word of a frame, and the count, as the words have them
  life_is : (f : ℕ) → f < frames_of sh → life_in (get_or (words_of s) (frame_word_at (frames_of sh) f) 0) ≡ (frame_at s.ledger f).generation
  life_is f below = ap life_in (word_get sh s rule f below) ∙ life_found sh s rule f below

  ledger_is : IsSafe sh h → LedgerIs sh h (words_of s) s.ledger (keeper_log_of h.trace)
  ledger_is safe = record {
    ledger_is = refl;
    log_is = refl;
    counts = λ f below. ap count_in (word_get sh s rule f below) ∙ (count_found sh s rule f below ∙ safe.counted f below);
    generations = life_is;
    contents = λ f i below inside. content_get sh s rule f i below inside;
    places = λ p below. place_get sh s rule p below;
  }

  -- what is true of a seat that holds
  held : (q : ℕ) (aim : Aim) (known : List (Option ℕ)) → phase_at s q ≡ Held aim known → SeatRule sh s.ledger (Held aim known)
  held q aim known at = subst (SeatRule sh s.ledger) at (rule.seats q)

  hold_is : (q : ℕ) (aim : Aim) (known : List (Option ℕ)) → phase_at s q ≡ Held aim known → HoldIs sh (words_of s) aim known
  hold_is q aim known at =
      let r = held q aim known at in
      let f : ℕ = aim.life.frame in
      let some = referenced sh s rule q f r.0.inside (ap (is_on f) at ∙ eq-eqb f f refl) in
      let word = word_get sh s rule f r.0.inside in
      let count = count_found sh s rule f r.0.inside in
      record {
        life = life_is f r.0.inside ∙ sym r.1.same;
        referenced = subst (λ (n : ℕ). 1 ≤ n) (sym (ap count_in word ∙ count)) some;
        read = λ i w of.
            let here = r.1.words i w of in
            let inside : i < PAGE_WORDS = omega (arith, slice_get_within (frame_at s.ledger f).content i w here, (rule.frames f r.0.inside).content) in
            content_get sh s rule f i r.0.inside inside ∙ get_or_from_slice_get (frame_at s.ledger f).content i w 0 here;
      }

module _ (sh : Shape) (t : Moment) (h : Holds sh t) where
  abbrev past : History
  past = run_of sh h.events

  keeper_is : (sh' : Shape) (ledger : Ledger) (tally : Tally) (log : KeeperLog) (order : List Event)
      → get_elem? t.views 0 ≡ some (Keeper sh' ledger tally log order) → (sh' ≡ sh) × LedgerIs sh past t.words ledger log
  keeper_is sh' ledger tally log order at =
      let tied = seen sh t h 0 (Keeper sh' ledger tally log order) at in (
        tied.0,
        subst (λ (x : List ℕ × Ledger × KeeperLog). LedgerIs sh past x.0 x.1 x.2)
            (λ i. (sym h.after.words_are i, sym tied.1 i, sym tied.3 i)) (ledger_is sh past (kept sh t h) (run_safe sh h.shape h.events)),
      )

-- the rule ties the keeper's view to the seat 0 alone
keepers_are : (sh : Shape) (h : History) (tally : Tally) (j : ℕ) (v : View) → Tied sh h tally j v → IsKeepers v ↔ j ≡ 0
keepers_are sh h tally zero (Keeper sh' ledger tally' log order) tied = ((λ k. refl), (λ e. tt))
keepers_are sh h tally (suc q) (Reader sh' phase log order) tied = ((λ k. absurd k), (λ e. absurd (omega (arith, e))))
keepers_are sh h tally (suc q) Spent tied = ((λ k. absurd k), (λ e. absurd (omega (arith, e))))
keepers_are sh h tally zero (Reader sh' phase log order) tied = absurd tied
keepers_are sh h tally zero Spent tied = absurd tied
keepers_are sh h tally (suc q) (Keeper sh' ledger tally' log order) tied = absurd tied

-- a table that keeps its rule runs safely
pub runs_safely : TheTableRunsSafely
runs_safely sh t h =
    let safe = run_safe sh h.shape h.events in
    let rule = kept sh t h in
    record {
      events = h.events;
      words = h.after.words_are;
      rule = rule;
      keepers = λ j v at. keepers_are sh (past sh t h) h.tally j v (seen sh t h j v at);
      keeper = keeper_is sh t h;
      reader = λ q sh' phase log order at. let tied = seen sh t h (suc q) _ at in (tied.0, seated sh t h q _ at, tied.1);
      given_back = λ q at. seated sh t h q Spent at;
      orders = h.orders;
      longest = h.longest;
      given = run_given sh h.shape h.events;
      safe = λ n. run_safe sh h.shape (take n h.events);
      holds = λ q aim known log order at. let here = phase_is sh t h q _ at in (
        safe.rightly q aim known here,
        subst (λ (words : List ℕ). HoldIs sh words aim known) (sym h.after.words_are) (hold_is sh (past sh t h) rule q aim known here),
      );
      unwritten = λ ledger tally log met q aim known mine order keeper at.
          let there = (held sh (past sh t h) rule q aim known (phase_is sh t h q _ at)).1.kind in
          subst (λ (k : Ledger). ¬ IsWritable (frame_at k aim.life.frame).kind) (sym (seen sh t h 0 _ keeper).1) (λ written. not_held _ written there);
    }
