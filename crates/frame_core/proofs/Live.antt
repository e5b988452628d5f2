-- A place stays live until the keeper gives its frame up, and what a live place names was never found gone.
use Rattle.std.proofs.Common.{◌≡◌, ℕ, zero, suc, ◌+◌, ◌-◌, ◌*◌, ◌<◌, ◌≤◌, ◌≢◌, ◌==◌, not, leb, if◌then◌else◌, Bool, true, false, cond, List, [], ◌∷◌, ◌++◌, length, get_or, set, Option, Some, None}
use Rattle.std.proofs.Common.{subst, sym, ap, ◌∙◌, refl, arith}
use Rattle.std.specs.Prelude.{All}
use Rattle.std.proofs.lemmas.Bool.{eqb-true, eq-eqb, ne_eqb, and_from}
use Rattle.std.proofs.lemmas.List.Elements.{All-nil, All-cons, All-weaker}
use Rattle.std.proofs.lemmas.List.Sums.{fold_push}
use Rattle.frame_core.proofs.Names.{PLACE_SPAN, Shape, IsShape, frames_of, Event, KeeperStep, Reap, Put, Raise, Open, Add, Sub, Publish, Replace, Withdraw, Freeze, Word, ReaderStep, LoadPlace}
use Rattle.frame_core.proofs.Names.{LoadFrame, Exchange, Leave, LoadWord, Kind, Free, Filling, Private, Stable, Dying, Retired, Ledger, Note, Aim, Life, Phase, Idle, Placed, Counted, Held, Spent}
use Rattle.frame_core.proofs.Names.{State, place_word, life_at, frame_word, count_in, life_in, blank, frame_at, named_at, named_anew, with_frame, IsLive, IsLoose, MayStep, Rule, IsNamed, BaseFits}
use Rattle.frame_core.proofs.Names.{MayBeNamed, count_at, frame_word_of, is_referenced, may_step, phase_at, aim_of, nothing_known, may_read, reader_finds, seat_after, reader_counts, after_keeper}
use Rattle.frame_core.proofs.Names.{step, first_history, history_with, History, run_of, SeatRule, reaped, raised, opened, added, lowered, filled, shown, frozen, ledger_after}
use Rattle.frame_core.specs.Live.{LiveAt, GivesUp, PublishMakesLive, LiveUntilGivenUp, Looked, looked_after, looked, found_gone, LivePlacesAreFound}
use Rattle.frame_core.proofs.Fitting.{frames_at_most}
use Rattle.frame_core.proofs.Keeps.{count_found, life_found, life_of_word, if_made, aimed}
use Rattle.frame_core.specs.declared.event.Event.TheVariants as event
use Rattle.frame_core.specs.Trace.{log_of}
use Rattle.frame_core.proofs.Lists.{each_set, in_replicate}
use Rattle.frame_core.proofs.Decides.{decides}
use Rattle.frame_core.proofs.Changes.{seat_there}
use Rattle.frame_core.proofs.Histories.{Sound, sound_more, run_all, first_sound}

-- ---------------------------------------------------------------- lists after a write

module _ {A : Type 0} where
  -- what holds of an element, and of what is written if it is written there, holds after the write
  still : (P : A → Type 0) (xs : List A) (i j : ℕ) (a d : A) → (j ≡ i → P a) → P (get_or xs j d) → P (get_or (set xs i a) j d)
  still P [] i j a d new old = old
  still P (x ∷ xs) zero zero a d new old = new refl
  still P (x ∷ xs) zero (suc j) a d new old = old
  still P (x ∷ xs) (suc i) zero a d new old = old
  still P (x ∷ xs) (suc i) (suc j) a d new old = still P xs i j a d (λ e. new (ap suc e)) old

  -- where an element stands that is not the default, a write leaves what was written
  written : (Q : A → Type 0) (xs : List A) (i : ℕ) (a d : A) → ¬ Q d → Q (get_or xs i d) → get_or (set xs i a) i d ≡ a
  written Q [] i a d never so = absurd (never so)
  written Q (x ∷ xs) zero a d never so = refl
  written Q (x ∷ xs) (suc i) a d never so = written Q xs i a d never so

  written_within : (xs : List A) (i : ℕ) (a d : A) → i < length xs → get_or (set xs i a) i d ≡ a
  written_within [] i a d below = absurd (omega arith)
  written_within (x ∷ xs) zero a d below = refl
  written_within (x ∷ xs) (suc i) a d below = written_within xs i a d (omega arith)

-- ---------------------------------------------------------------- live until given up

-- the note is of a frame that is stable in this life
abbrev IsStableIn : ℕ → Note → Type 0
IsStableIn generation note = (note.kind ≡ Stable) × (note.generation ≡ generation)

-- a private frame that is named is stable in its present life
named_is_stable : (k : Ledger) (p f : ℕ) → (frame_at k f).kind ≡ Private → IsStableIn (frame_at k f).generation (frame_at (named_anew k p f) f)
named_is_stable k p f kind =
    let is = written (λ (x : Note). x.kind ≡ Private) k.frames f (shown (frame_at k f)) blank (λ e. cc (e)) kind in
    subst (IsStableIn (frame_at k f).generation) (sym is) (refl, refl)

-- a publish makes its place live
pub publish_makes_live : PublishMakesLive
publish_makes_live sh k p f n below may =
    let life : Life = record { frame = f; generation = (frame_at k f).generation } in
    subst (IsLive (named_anew k p f)) (sym (written_within k.places p (Some life) None below)) (named_is_stable k p f may.2)

module _ (sh : Shape) (k : Ledger) (n p : ℕ) (life : Life) (at : named_at k p ≡ Some life) (live : IsLive k (Some life)) where
  -- what is known of the frame f, if it is the one named
  here : (f : ℕ) → life.frame ≡ f → IsStableIn life.generation (frame_at k f)
  here f e = subst (λ (g : ℕ). IsStableIn life.generation (frame_at k g)) e live

  was : LiveAt k p
  was = subst (IsLive k) (sym at) live

  -- a place is live where its frame is stable in the life named
  stays : (k' : Ledger) → named_at k' p ≡ named_at k p → IsLive k' (Some life) → LiveAt k' p
  stays k' same is = subst (IsLive k') (sym (same ∙ at)) is

  -- a frame changes, and if it is the one named it stays stable in its life
  frame_stays : (f : ℕ) (note : Note) → (life.frame ≡ f → IsStableIn life.generation note) → LiveAt (with_frame k f note) p
  frame_stays f note new = stays (with_frame k f note) refl (still (IsStableIn life.generation) k.frames f life.frame note blank new live)

  -- a frame of another kind is not the one named
  another : (f : ℕ) (kind : Kind) → (frame_at k f).kind ≡ kind → (Stable ≡ kind → ⊥) → life.frame ≡ f → ⊥
  another f kind is other e = other (sym (here f e).0 ∙ is)

  either : (b : Bool) (k' : Ledger) → (b ≡ true → LiveAt k' p) → LiveAt (cond b k' k) p
  either true k' new = new refl
  either false k' new = was

  lowered_stays : (f : ℕ) (b : Bool) → ((frame_at k f).base == 1) ≡ b → ¬ GivesUp k p (Sub f)
      → LiveAt (with_frame k f record { kind = cond b Dying (frame_at k f).kind; base = (frame_at k f).base - 1; generation = (frame_at k f).generation; content = (frame_at k f).content }) p
  lowered_stays f true is kept = frame_stays f _ (λ e. absurd (kept ((life, at, e), eqb-true (frame_at k f).base 1 is)))
  lowered_stays f false is kept = frame_stays f _ (here f)

  -- the place names a frame, or another place does
  anew_stays : (q f : ℕ) → (frame_at k f).kind ≡ Private → LiveAt (named_anew k q f) p
  anew_stays q f kind =
      let k' = named_anew k q f in
      let new : Life = record { frame = f; generation = (frame_at k f).generation } in
      still (IsLive k') k.places q p (Some new) None (λ e. named_is_stable k q f kind)
      (subst (IsLive k') (sym at) (still (IsStableIn life.generation) k.frames f life.frame (shown (frame_at k f)) blank (λ e. (refl, (here f e).1)) live))

  stays_live : (e : KeeperStep) → MayStep sh k e → ¬ GivesUp k p e → LiveAt (ledger_after sh k e n) p
  stays_live (Reap f) may kept = either (count_in n == 0) _ (λ b. frame_stays f _ (λ e. absurd (another f Dying may.1 (λ x. cc (x)) e)))
  stays_live (Put f i w) may kept = frame_stays f _ (here f)
  stays_live (Raise f) may kept = frame_stays f _ (λ e. absurd (another f Free may.1 (λ x. cc (x)) e))
  stays_live (Open f) may kept = frame_stays f _ (λ e. absurd (another f Filling may.1 (λ x. cc (x)) e))
  stays_live (Add f) may kept = frame_stays f _ (here f)
  stays_live (Sub f) may kept = lowered_stays f ((frame_at k f).base == 1) refl kept
  stays_live (Publish q f) may kept = anew_stays q f may.2
  stays_live (Replace q f) may kept = anew_stays q f may.2
  stays_live (Withdraw q) may kept = still (IsLive k) k.places q p None None
      (λ e. subst (IsLoose k) (ap (λ (r : ℕ). named_at k r) (sym e) ∙ at) may.1 live.1 live.0) was
  stays_live (Freeze f) may kept = either (count_in n == (frame_at k f).base) _ (λ b. frame_stays f _ (λ e. absurd (kept (life, at, e))))
  stays_live (Word f i) may kept = was

-- a live place stays live until the keeper gives its frame up
pub live_until_given_up : LiveUntilGivenUp
live_until_given_up sh k e n p may live kept = of (named_at k p) refl live where
  of : (o : Option Life) → named_at k p ≡ o → IsLive k o → LiveAt (ledger_after sh k e n) p
  of None at is = absurd is
  of (Some life) at is = stays_live sh k n p life at is e may kept

-- ---------------------------------------------------------------- lives that are over

-- a frame of this kind is never named again in its present life
abbrev IsSpent : Kind → Type 0
IsSpent Free = Unit {0}
IsSpent Dying = Unit {0}
IsSpent Retired = Unit {0}
IsSpent _ = ⊥

-- the life of a frame with this note is over
record IsOver (sh : Shape) (note : Note) (life : Life) : Type 0 where
  pub inside : life.frame < frames_of sh
  pub past : life.generation ≤ note.generation
  pub spent : life.generation ≡ note.generation → IsSpent note.kind

-- a life that is over stays so where the frame keeps its life, and is spent if it was
over_kept : (sh : Shape) (life : Life) (old new : Note) → old.generation ≡ new.generation → (IsSpent old.kind → IsSpent new.kind) → IsOver sh old life → IsOver sh new life
over_kept sh life old new same spent over = record {
  inside = over.inside;
  past = omega (arith, over.past, same);
  spent = λ e. spent (over.spent (omega (arith, e, same)));
}

module _ (sh : Shape) (k : Ledger) (n : ℕ) (life : Life) (over : IsOver sh (frame_at k life.frame) life) where
  abbrev Over : Ledger → Type 0
  Over k' = IsOver sh (frame_at k' life.frame) life

  -- a frame changes, and if it is that of the life, the life stays over
  frame_over : (f : ℕ) (note : Note) → (IsOver sh (frame_at k f) life → IsOver sh note life) → Over (with_frame k f note)
  frame_over f note new = still (λ (x : Note). IsOver sh x life) k.frames f life.frame note blank (λ e. new (subst (λ (g : ℕ). IsOver sh (frame_at k g) life) e over)) over

  -- the same, where the frame keeps its life
  same_over : (f : ℕ) (note : Note) → (frame_at k f).generation ≡ note.generation → (IsSpent (frame_at k f).kind → IsSpent note.kind) → Over (with_frame k f note)
  same_over f note same spent = frame_over f note (over_kept sh life (frame_at k f) note same spent)

  not_spent : (f : ℕ) (kind : Kind) → (frame_at k f).kind ≡ kind → (IsSpent kind → ⊥) → {A : Type 0} → IsSpent (frame_at k f).kind → A
  not_spent f kind is never spent = absurd (never (subst IsSpent is spent))

  if_over : (b : Bool) (k' : Ledger) → Over k' → Over (cond b k' k)
  if_over true k' new = new
  if_over false k' new = over

  reaped_spent : (b : Bool) → IsSpent (cond b Retired Free)
  reaped_spent true = tt
  reaped_spent false = tt

  lowered_spent : (b : Bool) (kind : Kind) → IsSpent kind → IsSpent (cond b Dying kind)
  lowered_spent true kind spent = tt
  lowered_spent false kind spent = spent

  stays_over : (e : KeeperStep) → MayStep sh k e → Over (ledger_after sh k e n)
  stays_over (Reap f) may = if_over (count_in n == 0) _ (same_over f (reaped sh.last_generation (frame_at k f)) refl (λ s. reaped_spent ((frame_at k f).generation == sh.last_generation)))
  stays_over (Put f i w) may = same_over f (filled i w (frame_at k f)) refl (λ s. s)
  stays_over (Raise f) may = frame_over f (raised (frame_at k f)) (λ was. record { inside = was.inside; past = omega (arith, was.past); spent = λ e. absurd (omega (arith, e, was.past)) })
  stays_over (Open f) may = same_over f (opened (frame_at k f)) refl (not_spent f Filling may.1 (λ s. s))
  stays_over (Add f) may = same_over f (added (frame_at k f)) refl (λ s. s)
  stays_over (Sub f) may = same_over f (lowered (frame_at k f)) refl (lowered_spent ((frame_at k f).base == 1) (frame_at k f).kind)
  stays_over (Publish p f) may = same_over f (shown (frame_at k f)) refl (not_spent f Private may.2 (λ s. s))
  stays_over (Replace p f) may = same_over f (shown (frame_at k f)) refl (not_spent f Private may.2 (λ s. s))
  stays_over (Withdraw p) may = over
  stays_over (Freeze f) may = if_over (count_in n == (frame_at k f).base) _ (same_over f (frozen (frame_at k f)) refl (λ s. tt))
  stays_over (Word f i) may = over

-- ---------------------------------------------------------------- what a lookup finds gone is over

-- the word names a life that is over
abbrev NamesOver : Shape → Ledger → ℕ → Type 0
NamesOver sh k w = (life : Life) × (w ≡ place_word (Some life)) × IsOver sh (frame_at k life.frame) life

-- what a log tells of a seat: what its lookup is after is what it loaded, and what it found gone is over
abbrev NamedIs : Phase → ℕ → Type 0
NamedIs (Placed aim failures) w = w ≡ place_word (Some aim.life)
NamedIs (Counted aim failures count) w = w ≡ place_word (Some aim.life)
NamedIs _ w = Unit {0}

record LogTells (sh : Shape) (k : Ledger) (phase : Phase) (l : Looked) : Type 0 where
  pub named : NamedIs phase l.named
  pub over : All (NamesOver sh k) l.gone

module _ (sh : Shape) (s : State) (rule : Rule sh s) where
  -- a frame that a place names has a reference in that life, while it is stable there
  pub live_referenced : (life : Life) → life.frame < frames_of sh → IsLive s.ledger (Some life) → is_referenced life.generation (frame_word_of s life.frame) ≡ true
  live_referenced life below live =
      let note = frame_at s.ledger life.frame in
      let r = rule.frames life.frame below in
      let base : BaseFits Stable note.base = subst (λ (x : Kind). BaseFits x note.base) live.0 r.base in
      let some : 1 ≤ count_at s life.frame = omega (arith, base.0, r.counted) in
      let count = count_found sh s rule life.frame below in
      and_from (not (count_in (frame_word_of s life.frame) == 0)) (life_in (frame_word_of s life.frame) == life.generation)
      (ap not (ne_eqb (count_in (frame_word_of s life.frame)) 0 (λ e. omega (arith, e, count, some))))
      (eq-eqb (life_in (frame_word_of s life.frame)) life.generation (life_found sh s rule life.frame below ∙ live.1))

  -- a life that may be named and whose frame word tells that it is gone is over
  gone_is_over : (life : Life) → IsNamed sh s.ledger life → is_referenced life.generation (frame_word_of s life.frame) ≡ false → IsOver sh (frame_at s.ledger life.frame) life
  gone_is_over life r gone = record {
    inside = r.inside;
    past = r.past;
    spent = λ same. kinds (frame_at s.ledger life.frame).kind (r.named same)
        (λ is. cc (live_referenced life r.inside (is, sym same), gone));
  } where
    kinds : (kind : Kind) → MayBeNamed kind → (kind ≡ Stable → ⊥) → IsSpent kind
    kinds Free may never = tt
    kinds Filling may never = may
    kinds Private may never = may
    kinds Stable may never = never refl
    kinds Dying may never = tt
    kinds Retired may never = tt

  -- no life that is over is live
  over_not_live : (life : Life) (w : ℕ) → IsNamed sh s.ledger life → IsLive s.ledger (Some life) → NamesOver sh s.ledger w → w ≢ place_word (Some life)
  over_not_live life w named live over same =
      let other = over.0 in
      let low : other.frame < PLACE_SPAN = omega (arith, over.2.inside, frames_at_most sh rule.shape) in
      let low' : life.frame < PLACE_SPAN = omega (arith, named.inside, frames_at_most sh rule.shape) in
      let words : other.generation * PLACE_SPAN + other.frame ≡ life.generation * PLACE_SPAN + life.frame = sym over.1 ∙ same in
      let frame : other.frame ≡ life.frame = omega (arith, words) in
      let generation : other.generation ≡ life.generation = omega (arith, words) in
      let note = frame_at s.ledger other.frame in
      let stable : IsStableIn life.generation note = subst (λ (f : ℕ). IsStableIn life.generation (frame_at s.ledger f)) (sym frame) live in
      subst IsSpent stable.0 (over.2.spent (generation ∙ sym stable.1))

-- ---------------------------------------------------------------- the log of each seat

-- the log of each seat tells so
abbrev Tells : Shape → History → Type 0
Tells sh h = (q : ℕ) → LogTells sh h.state.ledger (phase_at h.state q) (looked (log_of q h.trace))

-- one entry more
looked_more : (log : List (ReaderStep × ℕ)) (e : ReaderStep) (w : ℕ) → looked (log ++ (e, w) ∷ []) ≡ looked_after (looked log) e w
looked_more log e w = fold_push (λ (l : Looked) (x : ReaderStep × ℕ). looked_after l x.0 x.1) record { named = 0; gone = [] } log (e, w)

module _ (sh : Shape) (h : History) (sound : Sound sh h) (tells : Tells sh h) where
  abbrev s : State
  s = h.state

  -- a step of the keeper
  keeper_tells : (e : KeeperStep) (n : ℕ) → MayStep sh s.ledger e → Tells sh record { state = after_keeper sh s e n; trace = record { event = event.Keeper e; word = n } ∷ h.trace }
  keeper_tells e n may q = record {
    named = (tells q).named;
    over = All-weaker (NamesOver sh s.ledger) (NamesOver sh (ledger_after sh s.ledger e n))
        (λ w over. (over.0, over.1, stays_over sh s.ledger n over.0 over.2 e may)) (looked (log_of q h.trace)).gone (tells q).over;
  }

  module _ (q : ℕ) (there : q < length s.seats) where
    -- what the log told so far
    abbrev before : Looked
    before = looked (log_of q h.trace)

    told : (phase : Phase) → phase_at s q ≡ phase → LogTells sh s.ledger phase before
    told phase at = subst (λ (x : Phase). LogTells sh s.ledger x before) at (tells q)

    ruled : (phase : Phase) → phase_at s q ≡ phase → SeatRule sh s.ledger phase
    ruled phase at = subst (SeatRule sh s.ledger) at (sound.rule.seats q)

    -- of the seats after a step of this one only its own has a longer log
    seat_tells : (e : ReaderStep) (w : ℕ) (new : Phase) → LogTells sh s.ledger new (looked_after before e w)
        → Tells sh record { state = record { ledger = s.ledger; counts = s.counts; seats = set s.seats q new }; trace = record { event = event.Reader q e; word = w } ∷ h.trace }
    seat_tells e w new here =
        let log = λ (j : ℕ) (b : Bool). let l : List (ReaderStep × ℕ) = if b then log_of j h.trace ++ (e, w) ∷ [] else log_of j h.trace in l in
        each_set (λ j phase. LogTells sh s.ledger phase (looked (log j (q == j)))) s.seats q new Spent there
        (subst (λ (b : Bool). LogTells sh s.ledger new (looked (log q b))) (sym (eq-eqb q q refl)) (subst (LogTells sh s.ledger new) (sym (looked_more (log_of q h.trace) e w)) here))
        (λ j ne. subst (λ (b : Bool). LogTells sh s.ledger (phase_at s j) (looked (log j b))) (sym (ne_eqb q j (λ e. ne (sym e)))) (tells j))

    -- what the log says of the seat that is idle, or holds
    done : {phase : Phase} → LogTells sh s.ledger phase before → (new : Phase) → NamedIs new before.named → LogTells sh s.ledger new before
    done was new named = record { named = named; over = was.over }

    place_tells : (p : ℕ) (place : Option Life) → named_at s.ledger p ≡ place → phase_at s q ≡ Idle
        → LogTells sh s.ledger (cond (place_word place == 0) Idle (Placed (aim_of p (place_word place)) 0)) record { named = place_word place; gone = before.gone }
    place_tells p None is at = record { named = tt; over = (told Idle at).over }
    place_tells p (Some life) is at =
        subst (λ (x : Phase). LogTells sh s.ledger x record { named = place_word (Some life); gone = before.gone }) (sym (aimed sh s sound.rule p life (sound.rule.places p life is)))
        record { named = refl; over = (told Idle at).over }

    -- a frame word is loaded: of the life named, with a reference, or of one that is gone
    frame_tells : (aim : Aim) (failures : ℕ) (b : Bool) → is_referenced aim.life.generation (frame_word_of s aim.life.frame) ≡ b → phase_at s q ≡ Placed aim failures
        → LogTells sh s.ledger (cond b (Counted aim failures (count_in (frame_word_of s aim.life.frame))) Idle)
        (if not b then record { named = before.named; gone = before.named ∷ before.gone } else before)
    frame_tells aim failures true is at = record { named = (told (Placed aim failures) at).named; over = (told (Placed aim failures) at).over }
    frame_tells aim failures false is at =
        let was = told (Placed aim failures) at in record {
          named = tt;
          over = All-cons (NamesOver sh s.ledger) before.named before.gone (aim.life, was.named, gone_is_over sh s sound.rule aim.life (ruled (Placed aim failures) at).0 is) was.over;
        }

    -- what the log told of the life that is aimed at
    aimed_life : (aim : Aim) (failures : ℕ) → phase_at s q ≡ Placed aim failures → life_at before.named ≡ aim.life
    aimed_life aim failures at =
        ap life_at (told (Placed aim failures) at).named ∙ (life_of_word sh s sound.rule aim.life (ruled (Placed aim failures) at).0).1

    exchange_tells : (aim : Aim) (failures count : ℕ) (b c : Bool) → phase_at s q ≡ Counted aim failures count
        → LogTells sh s.ledger (cond b (Held aim nothing_known) (cond c Idle (Placed aim (failures + 1)))) before
    exchange_tells aim failures count true c at = done (told (Counted aim failures count) at) (Held aim nothing_known) tt
    exchange_tells aim failures count false true at = done (told (Counted aim failures count) at) Idle tt
    exchange_tells aim failures count false false at = done (told (Counted aim failures count) at) (Placed aim (failures + 1)) (told (Counted aim failures count) at).named

    reader_tells : (e : ReaderStep) (phase : Phase) → phase_at s q ≡ phase → may_read sh e phase ≡ true
        → Tells sh record {
          state = record { ledger = s.ledger; counts = reader_counts e phase (reader_finds s e phase) s.counts; seats = set s.seats q (seat_after sh e phase (reader_finds s e phase)) };
          trace = record { event = event.Reader q e; word = reader_finds s e phase } ∷ h.trace;
        }
    reader_tells (LoadPlace p) Idle at may = seat_tells (LoadPlace p) _ _ (place_tells p (named_at s.ledger p) refl at)
    reader_tells LoadFrame (Placed aim failures) at may =
        let w = frame_word_of s aim.life.frame in
        let b : Bool = is_referenced aim.life.generation w in
        let tests = ap (λ (life : Life). is_referenced life.generation w) (aimed_life aim failures at) in
        seat_tells LoadFrame w _ (subst (λ (c : Bool). LogTells sh s.ledger (cond b (Counted aim failures (count_in w)) Idle)
        (if not c then record { named = before.named; gone = before.named ∷ before.gone } else before)) (sym tests) (frame_tells aim failures b refl at))
    reader_tells Exchange (Counted aim failures count) at may =
        seat_tells Exchange _ _ (exchange_tells aim failures count (frame_word_of s aim.life.frame == frame_word aim.life.generation count) (leb sh.tries (failures + 1)) at)
    reader_tells Leave (Held aim known) at may = seat_tells Leave _ _ (done (told (Held aim known) at) Idle tt)
    reader_tells (LoadWord i) (Held aim known) at may = seat_tells (LoadWord i) _ _ (done (told (Held aim known) at) _ tt)
    reader_tells _ _ at may = absurd (cc (may))

-- a history in which the log of each seat tells so
abbrev Telling : Shape → History → Type 0
Telling sh h = Sound sh h × Tells sh h

tells_more : (sh : Shape) (h : History) (e : Event) (r : ℕ × State) → Telling sh h → step sh h.state e ≡ Some r → Telling sh (history_with h e (Some r))
tells_more sh h (event.Reader q e) r here is = (
  sound_more sh h (event.Reader q e) r here.0 is,
  if_made (may_read sh e (phase_at h.state q)) _ r (λ x. Tells sh record { state = x.1; trace = record { event = event.Reader q e; word = x.0 } ∷ h.trace }) is
      (λ may. reader_tells sh h here.0 here.1 q (seat_there sh e h.state q may) e (phase_at h.state q) refl may),
)
tells_more sh h (event.Keeper e) r here is = (
  sound_more sh h (event.Keeper e) r here.0 is,
  if_made (may_step sh h.state.ledger e) _ r (λ x. Tells sh record { state = x.1; trace = record { event = event.Keeper e; word = x.0 } ∷ h.trace }) is
      (λ may. keeper_tells sh h here.0 here.1 e _ ((decides sh h.state.ledger e).0 may)),
)

first_tells : (sh : Shape) → Tells sh (first_history sh)
first_tells sh q = record {
  named = in_replicate (λ (x : Phase). NamedIs x 0) sh.passes q Idle Spent tt tt;
  over = All-nil (NamesOver sh (first_history sh).state.ledger);
}

-- after any events each life that a live place names is found
pub run_live : (sh : Shape) → IsShape sh → (events : List Event) → LivePlacesAreFound (run_of sh events)
run_live sh valid events p life at live =
    let h = run_of sh events in
    let here = run_all sh (Telling sh) (tells_more sh) (first_history sh) events (first_sound sh valid, first_tells sh) in
    let named = here.0.rule.places p life at in record {
      named = (life_of_word sh h.state here.0.rule life named).0;
      referenced = live_referenced sh h.state here.0.rule life named.inside live;
      not_gone = λ q. All-weaker (NamesOver sh h.state.ledger) (λ w. w ≢ place_word (Some life))
          (λ w over. over_not_live sh h.state here.0.rule life w named live over) (found_gone (log_of q h.trace)) (here.1 q).over;
    }
