-- Every run keeps the rule, its state and its trace go together, and so it is safe.
use Rattle.std.proofs.Common.{◌≡◌, ℕ, ◌+◌, ◌<◌, ◌≢◌, Bool, true, false, cond, List, [], ◌∷◌, ◌++◌, Option, Some, None, length, get_or, count_by, fold, suc, subst, sym, ap, ◌∙◌, refl, arith}
use Rattle.std.specs.List.{range_with_len}
use Rattle.std.proofs.lemmas.List.Sums.{sum_by-cons, length-filter, fold_push}
use Rattle.std.proofs.lemmas.List.{nil_from_length}
use Rattle.frame_core.proofs.Names.{PAGE_WORDS, Shape, IsShape, frames_of, Event, Keeper, KeeperStep, Put, Raise, Open, Kind, Aim, Life, Phase, Idle, Held, Spent, count_at, may_step, blank, frame_at}
use Rattle.frame_core.proofs.Names.{MayStep, Rule, CountFits, MayBeHeld, SeatRule, is_on, readers_on, IsSafe, WasUnheld, GivenUnheld, phase_at, State, step, only_if, History, first_history}
use Rattle.frame_core.proofs.Names.{history_after, history_with, run_of, held_by, holders, is_frame, life_of, HoldsRightly}
use Rattle.frame_core.proofs.Decides.{decides}
use Rattle.frame_core.proofs.Frames.{not_held}
use Rattle.frame_core.proofs.Keeps.{step_keeps, first_rule}
use Rattle.frame_core.proofs.Lists.{in_replicate, copied}
use Rattle.frame_core.proofs.Told.{Told, FrameTold, SeatTale, SeatTold, tale_of}
use Rattle.frame_core.proofs.Telling.{told_step}

-- ---------------------------------------------------------------- runs

-- a history is sound: its state keeps the rule, and goes together with its trace
pub record Sound (sh : Shape) (h : History) : Type 0 where
  pub rule : Rule sh h.state
  pub told : Told h.state (tale_of h.trace)

-- a sound history stays sound with a step that was made
pub sound_more : (sh : Shape) (h : History) (e : Event) (r : ℕ × State) → Sound sh h → step sh h.state e ≡ Some r → Sound sh (history_with h e (Some r))
sound_more sh h e r sound is = record { rule = step_keeps sh h.state e r is sound.rule; told = told_step sh h.state h.trace e r sound.rule sound.told is }

-- what is kept by each step that is made is true of every run
module _ (sh : Shape) (P : History → Type 0) (more : (h : History) (e : Event) (r : ℕ × State) → P h → step sh h.state e ≡ Some r → P (history_with h e (Some r))) where
  added : (h : History) (e : Event) (o : Option (ℕ × State)) → step sh h.state e ≡ o → P h → P (history_with h e o)
  added h e None is here = here
  added h e (Some r) is here = more h e r here is

  -- what holds of a history, and is kept by each step that is made, holds after any events
  pub run_all : (h : History) (events : List Event) → P h → P (fold (history_after sh) h events)
  run_all h [] here = here
  run_all h (e ∷ events) here = run_all (history_after sh h e) events (added h e (step sh h.state e) refl here)

-- the first history is sound
pub first_sound : (sh : Shape) → IsShape sh → Sound sh (first_history sh)
first_sound sh valid =
    let frame : FrameTold 0 (λ i. 0) (λ g i. None) blank = record {
      life_is = refl;
      words_are = λ i w e. copied PAGE_WORDS i 0 w e;
      named_as = λ i v w n e. absurd (cc (n));
      unnamed = λ h i. refl;
      later = λ g i h. refl;
    } in
    record {
      rule = first_rule sh valid;
      told = record {
        frames = λ f. in_replicate (FrameTold 0 (λ i. 0) (λ g i. None)) (frames_of sh) f blank blank frame frame;
        places = λ p life e. absurd (cc (in_replicate (λ (o : Option Life). o ≡ None) (frames_of sh) p None None refl refl, e));
        seats = λ q. in_replicate (SeatTold (λ f. 0) (λ f g i. None) record { loaded = None; counted = 0; held = None; read = []; given = λ f. _ }) sh.passes q Idle Spent refl refl;
      };
    }

-- the history of any events is sound
pub run_sound : (sh : Shape) → IsShape sh → (events : List Event) → Sound sh (run_of sh events)
run_sound sh valid events = run_all sh (Sound sh) (sound_more sh) (first_history sh) events (first_sound sh valid)

-- the rule holds after any events
pub run_rule : (sh : Shape) → IsShape sh → (events : List Event) → Rule sh (run_of sh events).state
run_rule sh valid events = (run_sound sh valid events).rule

-- ---------------------------------------------------------------- a run, one event further

-- a step that is made after some events leads the run of the events and that step to the step's state
pub run_step : (sh : Shape) (events : List Event) (e : Event) (r : ℕ × State) → step sh (run_of sh events).state e ≡ Some r
    → run_of sh (events ++ e ∷ []) ≡ record { state = r.1; trace = record { event = e; word = r.0 } ∷ (run_of sh events).trace }
run_step sh events e r is = fold_push (history_after sh) (first_history sh) events e ∙ ap (history_with (run_of sh events) e) is

-- ---------------------------------------------------------------- the holders are the seats that have counted themselves

-- a count over the numbers of a list's elements is a count over the elements
count_range : {A : Type 0} (p : ℕ → Bool) (q : A → Bool) (xs : List A) (d : A) (a : ℕ) → ((j : ℕ) → j < length xs → p (a + j) ≡ q (get_or xs j d))
    → count_by p (range_with_len a (length xs)) ≡ count_by q xs
count_range p q [] d a same = refl
count_range p q (x ∷ xs) d a same =
    let here : p a ≡ q x = subst (λ (j : ℕ). p j ≡ q x) (omega arith) (same 0 (omega arith)) in
    let rest = count_range p q xs d (a + 1) (λ j below. subst (λ (i : ℕ). p i ≡ q (get_or xs j d)) (omega arith) (same (suc j) (omega arith))) in
    let one : ◌≡◌ {A = ℕ} (cond (p a) 1 0) (cond (q x) 1 0) = ap (λ (b : Bool). cond b 1 0) here in
    sum_by-cons (λ (j : ℕ). cond (p j) 1 0) a (range_with_len (a + 1) (length xs))
    ∙ (omega (arith, one, rest) ∙ sym (sum_by-cons (λ z. cond (q z) 1 0) x xs))

held_on : (life : ℕ → ℕ) (named : ℕ → ℕ → ℕ → Option ℕ) (seat : SeatTale) (f : ℕ) (phase : Phase) → SeatTold life named seat phase → is_frame f seat.held ≡ is_on f phase
held_on life named seat f Idle told = ap (is_frame f) told
held_on life named seat f Spent told = ap (is_frame f) told
held_on life named seat f _ told = ap (is_frame f) told.0

-- an allowed step of the keeper
allowed : (sh : Shape) (s : State) (e : KeeperStep) (b : Bool) (a : ℕ × State) → may_step sh s.ledger e ≡ b → only_if b a ≢ None → MayStep sh s.ledger e
allowed sh s e true a is some = (decides sh s.ledger e).0 is
allowed sh s e false a is some = absurd (some refl)

module _ (sh : Shape) (h : History) (sound : Sound sh h) where
  -- in a sound history a frame has as many holders as its trace tells as readers on the seats
  pub holders_count : (f : ℕ) → length (holders sh.passes f h.trace) ≡ readers_on f h.state.seats
  holders_count f =
      length-filter (λ seat. is_frame f (held_by seat h.trace)) (range_with_len 0 sh.passes)
      ∙ subst (λ (n : ℕ). count_by (λ seat. is_frame f (held_by seat h.trace)) (range_with_len 0 n) ≡ readers_on f h.state.seats) sound.rule.seat_count
      (count_range (λ seat. is_frame f (held_by seat h.trace)) (is_on f) h.state.seats Spent 0
      (λ j below. subst (λ (i : ℕ). is_frame f (held_by i h.trace) ≡ is_on f (phase_at h.state j)) (omega arith)
      (held_on (tale_of h.trace).life (tale_of h.trace).named ((tale_of h.trace).seat j) f (phase_at h.state j) (sound.told.seats j))))

  none_held : (f : ℕ) → f < frames_of sh → count_at h.state f ≡ 0 → holders sh.passes f h.trace ≡ []
  none_held f below none = nil_from_length (holders sh.passes f h.trace) (omega (arith, holders_count f, (sound.rule.frames f below).counted, none))

  holds_rightly : (seat : ℕ) (aim : Aim) (known : List (Option ℕ)) → phase_at h.state seat ≡ Held aim known → HoldsRightly seat aim h.trace
  holds_rightly seat aim known at =
      let told = subst (SeatTold (tale_of h.trace).life (tale_of h.trace).named ((tale_of h.trace).seat seat)) at (sound.told.seats seat) in
      let rule = subst (SeatRule sh h.state.ledger) at (sound.rule.seats seat) in
      let same : aim.life.generation ≡ life_of aim.life.frame h.trace = rule.1.same ∙ sym (sound.told.frames aim.life.frame).life_is in
      record { named = told.1.loaded_is; frame = told.1.below; same_life = same; not_given = told.1.not_given same; words = told.2 }

  -- a sound history is safe
  pub safe : IsSafe sh h
  safe = record {
    raised = λ f some. let may = allowed sh h.state (Raise f) _ _ refl some in
        none_held f may.0 (subst (λ (k : Kind). CountFits k (count_at h.state f)) may.1 (sound.rule.frames f may.0).count_fits);
    opened = λ f some. let may = allowed sh h.state (Open f) _ _ refl some in
        none_held f may.0 (subst (λ (k : Kind). CountFits k (count_at h.state f)) may.1 (sound.rule.frames f may.0).count_fits);
    unwritten = λ f i w seat aim known some at same. let may = allowed sh h.state (Put f i w) _ _ refl some in
        let rule = subst (SeatRule sh h.state.ledger) at (sound.rule.seats seat) in
        not_held (frame_at h.state.ledger f).kind may.2 (subst (λ (g : ℕ). MayBeHeld (frame_at h.state.ledger g).kind) same rule.1.kind);
    rightly = holds_rightly;
    counted = λ f below. omega (arith, (sound.rule.frames f below).counted, holders_count f);
  }

-- after any events the core is safe
pub run_safe : (sh : Shape) → IsShape sh → (events : List Event) → IsSafe sh (run_of sh events)
run_safe sh valid events = safe sh (run_of sh events) (run_sound sh valid events)

-- ---------------------------------------------------------------- each frame that was raised or opened had no holder

was_unheld : (sh : Shape) (h : History) → Sound sh h → (e : Event) (r : ℕ × State) → step sh h.state e ≡ Some r → WasUnheld sh.passes h.trace e
was_unheld sh h sound (Keeper (Raise f)) r is = (safe sh h sound).raised f (λ none. cc (is, none))
was_unheld sh h sound (Keeper (Open f)) r is = (safe sh h sound).opened f (λ none. cc (is, none))
was_unheld sh h sound e r is = tt

abbrev Given : Shape → History → Type 0
Given sh h = Sound sh h × GivenUnheld sh.passes h.trace

-- each frame that was raised or opened in a run had no holder at that moment
pub run_given : (sh : Shape) → IsShape sh → (events : List Event) → GivenUnheld sh.passes (run_of sh events).trace
run_given sh valid events =
    (run_all sh (Given sh) (λ h e r here is. (sound_more sh h e r here.0 is, (was_unheld sh h here.0 e r is, here.1))) (first_history sh) events (first_sound sh valid, tt)).1
