-- After each step, the state and the trace still go together. Of a step of the keeper that is said for any tale: what it adds to the tale is written out.
use Rattle.std.proofs.Common.{◌≡◌, ℕ, ◌+◌, ◌-◌, ◌*◌, ◌%◌, ◌<◌, ◌≢◌, ◌==◌, ◌&&◌, not, leb, Bool, true, false, cond, if◌then◌else◌, List, [], ◌∷◌, length, get_or, set, Option, Some, None, slice_get}
use Rattle.std.proofs.Common.{subst, sym, ap, ◌∙◌, refl, ⊎_elim, arith}
use Rattle.std.proofs.lemmas.Bool.{eq-eqb, eqb-true, ne_eqb, cases_eq, and_parts, ltb-true}
use Rattle.std.proofs.lemmas.List.Elements.{All-nil, All-cons}
use Rattle.std.proofs.lemmas.Option.{same_Some, slice_get-get_or}
use Rattle.frame_core.proofs.Names.{PLACE_SPAN, PAGE_WORDS, Shape, frames_of, Event, KeeperStep, Reap, Put, Raise, Open, Add, Sub, Publish, Replace, Withdraw, Freeze, Word, ReaderStep, LoadPlace}
use Rattle.frame_core.proofs.Names.{LoadFrame, Exchange, Leave, LoadWord, Free, Filling, Private, Dying, Retired, Ledger, Note, Life, Aim, Phase, Idle, Placed, Counted, Held, Spent, State, place_word}
use Rattle.frame_core.proofs.Names.{frame_word, count_in, life_in, blank, frame_at, named_at, with_frame, IsWritable, MayStep, reaped, raised, opened, added, lowered, filled, shown, frozen}
use Rattle.frame_core.proofs.Names.{frame_word_of, keeper_finds, may_step, phase_at, nothing_known, aim_of, is_referenced, may_read, reader_finds, seat_after, reader_counts, after_keeper, step, Entry}
use Rattle.frame_core.proofs.Names.{frame_in, Rule, IsNamed, HeldRule, SeatRule, MayBeNamed, MayBeHeld}
use Rattle.frame_core.specs.declared.event.Event.TheVariants as event
use Rattle.frame_core.proofs.Lists.{each_set, get_set}
use Rattle.frame_core.proofs.Decides.{decides}
use Rattle.frame_core.proofs.Fitting.{frames_at_most}
use Rattle.frame_core.proofs.Changes.{seat_there}
use Rattle.frame_core.proofs.Keeps.{if_made, aimed}
use Rattle.frame_core.proofs.Told.{SeatTale, Tale, Told, FrameTold, AimIs, SeatTold, PlaceTold, ReadRightly, tale_of}

-- ---------------------------------------------------------------- steps of the keeper

-- a step that leaves life and content of a frame alone, and makes nothing writable
record Quiet (old new : Note) : Type 0 where
  pub generation : old.generation ≡ new.generation
  pub content : old.content ≡ new.content
  pub kind : IsWritable new.kind → IsWritable old.kind

quiet_told : (life : ℕ) (words : ℕ → ℕ) (named : ℕ → ℕ → Option ℕ) (old new : Note) → Quiet old new → FrameTold life words named old → FrameTold life words named new
quiet_told life words named old new quiet told = record {
  life_is = told.life_is ∙ quiet.generation;
  words_are = subst (λ (content : List ℕ). (i w : ℕ) → slice_get content i ≡ Some w → words i ≡ w) quiet.content told.words_are;
  named_as = subst (λ (x : ℕ × List ℕ). (i v w : ℕ) → named x.0 i ≡ Some v → slice_get x.1 i ≡ Some w → v ≡ w) (λ i. (quiet.generation i, quiet.content i)) told.named_as;
  unnamed = λ h i. subst (λ (g : ℕ). named g i ≡ None) quiet.generation (told.unnamed (quiet.kind h) i);
  later = told.later;
}

-- what a tale says of a seat, after the lives, the words named, or what was opened changed
seat_map : (sh : Shape) (k : Ledger) (life life' : ℕ → ℕ) (named named' : ℕ → ℕ → ℕ → Option ℕ) (seat : SeatTale) (given' : ℕ → Bool)
    → ((aim : Aim) → IsNamed sh k aim.life → AimIs life named seat aim → AimIs life' named' (record seat { given = given' }) aim)
    → ((aim : Aim) (known : List (Option ℕ)) → HeldRule (frame_at k aim.life.frame) aim.life known → (i : ℕ) → named aim.life.frame aim.life.generation i ≡ named' aim.life.frame aim.life.generation i)
    → (phase : Phase) → SeatRule sh k phase → SeatTold life named seat phase → SeatTold life' named' (record seat { given = given' }) phase
seat_map sh k life life' named named' seat given' aims reads Idle rule told = told
seat_map sh k life life' named named' seat given' aims reads (Placed aim failures) rule told = (told.0, aims aim rule.0 told.1)
seat_map sh k life life' named named' seat given' aims reads (Counted aim failures count) rule told = (told.0, aims aim rule.0 told.1, told.2)
seat_map sh k life life' named named' seat given' aims reads (Held aim known) rule told =
    (told.0, aims aim rule.0 told.1, subst (λ (n : ℕ → Option ℕ). ReadRightly n seat.read) (λ j i. reads aim known rule.1 i j) told.2)
seat_map sh k life life' named named' seat given' aims reads Spent rule told = told

-- what was named stays named
still_named : (b : Bool) (v : ℕ) (o : Option ℕ) → (x : ℕ) × (o ≡ Some x) → (x : ℕ) × ((if b then Some v else o) ≡ Some x)
still_named true v o h = (v, refl)
still_named false v o h = h

-- the notes and places of this ledger, and the counts and seats of s
module _ (sh : Shape) (s : State) (T : Tale) (rule : Rule sh s) (told : Told s T) where
  abbrev k : Ledger
  k = s.ledger

  -- each frame is told of rightly, where this one is that changed
  each_frame : (T' : Tale) (f : ℕ) (note : Note) → f < frames_of sh → FrameTold (T'.life f) (T'.stored f) (T'.named f) note
      → ((g : ℕ) → g ≢ f → FrameTold (T.life g) (T.stored g) (T.named g) (frame_at k g) → FrameTold (T'.life g) (T'.stored g) (T'.named g) (frame_at k g))
      → (g : ℕ) → FrameTold (T'.life g) (T'.stored g) (T'.named g) (frame_at (with_frame k f note) g)
  each_frame T' f note below here others = each_set (λ g x. FrameTold (T'.life g) (T'.stored g) (T'.named g) x) k.frames f note blank
      (omega (arith, below, rule.frame_count)) here (λ g ne. others g ne (told.frames g))

  -- a step at one frame that leaves no mark in the tale
  tell_quiet : (f : ℕ) (note : Note) (counts : List ℕ) → f < frames_of sh → Quiet (frame_at k f) note → Told record { ledger = with_frame k f note; counts = counts; seats = s.seats } T
  tell_quiet f note counts below quiet = record {
    frames = each_frame T f note below (quiet_told (T.life f) (T.stored f) (T.named f) (frame_at k f) note quiet (told.frames f)) (λ g ne h. h);
    places = told.places;
    seats = told.seats;
  }

  -- a word is stored
  tell_put : (f i w : ℕ) → f < frames_of sh → IsWritable (frame_at k f).kind
      → Told record { ledger = with_frame k f (filled i w (frame_at k f)); counts = s.counts; seats = s.seats } (record T { stored = λ g j. if f == g && i == j then w else T.stored g j })
  tell_put f i w below writable =
      let old = frame_at k f in
      let before = told.frames f in record {
        frames = each_frame (record T { stored = λ g j. if f == g && i == j then w else T.stored g j }) f (filled i w old) below
            record {
              life_is = before.life_is;
              words_are = λ j v e. ⊎_elim
                  (λ (h : (j ≡ i) × (w ≡ v)). rw (eq-eqb f f refl, eq-eqb i j (sym h.0)) h.1)
                  (λ (h : (j ≢ i) × (slice_get old.content j ≡ Some v)). rw (eq-eqb f f refl, ne_eqb i j (λ q. h.0 (sym q))) (before.words_are j v h.1))
                  (get_set old.content i j w v e);
              named_as = λ j v x n e. absurd (cc (n, before.unnamed writable j));
              unnamed = before.unnamed;
              later = before.later;
            }
            (λ g ne h. rw (ne_eqb f g (λ q. ne (sym q))) h);
        places = told.places;
        seats = told.seats;
      }

  -- a frame is given its next life
  tell_raise : (f : ℕ) → f < frames_of sh
      → Told record { ledger = with_frame k f (raised (frame_at k f)); counts = s.counts; seats = s.seats } (record T { life = λ g. if f == g then T.life g + 1 else T.life g })
  tell_raise f below =
      let old = frame_at k f in
      let before = told.frames f in record {
        frames = each_frame (record T { life = λ g. if f == g then T.life g + 1 else T.life g }) f (raised old) below
            (rw (eq-eqb f f refl) record {
              life_is = omega (arith, before.life_is);
              words_are = before.words_are;
              named_as = λ i v w n e. absurd (cc (n, before.later (old.generation + 1) i (omega (arith, before.life_is))));
              unnamed = λ h i. before.later (old.generation + 1) i (omega (arith, before.life_is));
              later = λ g i h. before.later g i (omega (arith, h));
            })
            (λ g ne h. rw (ne_eqb f g (λ q. ne (sym q))) h);
        places = told.places;
        seats = λ q. seat_map sh k T.life (λ g. if f == g then T.life g + 1 else T.life g) T.named T.named (T.seat q) (T.seat q).given
            (λ aim life is. record {
              loaded_is = is.loaded_is;
              below = is.below;
              was_named = is.was_named;
              not_given = ⊎_elim
                  (λ (same : f ≡ aim.life.frame). rw (eq-eqb f aim.life.frame same)
                  (λ e. absurd (omega (arith, life.past, (told.frames aim.life.frame).life_is, e))))
                  (λ (ne : f ≡ aim.life.frame → ⊥). rw (ne_eqb f aim.life.frame ne) is.not_given)
                  (cases_eq f aim.life.frame);
            })
            (λ aim known held i. refl)
            (phase_at s q) (rule.seats q) (told.seats q);
      }

  -- a frame is opened
  tell_open : (f : ℕ) (counts : List ℕ) → f < frames_of sh → (frame_at k f).kind ≡ Filling
      → Told record { ledger = with_frame k f (opened (frame_at k f)); counts = counts; seats = s.seats } (record T { seat = λ q. record (T.seat q) { given = λ g. if f == g then true else (T.seat q).given g } })
  tell_open f counts below kind = record {
    frames = (tell_quiet f (opened (frame_at k f)) counts below record { generation = refl; content = refl; kind = λ h. subst IsWritable (sym kind) tt }).frames;
    places = told.places;
    seats = λ q. seat_map sh k T.life T.life T.named T.named (T.seat q) (λ g. if f == g then true else (T.seat q).given g)
        (λ aim life is. record {
          loaded_is = is.loaded_is;
          below = is.below;
          was_named = is.was_named;
          not_given = λ e. ⊎_elim
              (λ (same : f ≡ aim.life.frame).
              absurd (subst MayBeNamed (ap (λ (g : ℕ). (frame_at k g).kind) (sym same) ∙ kind) (life.named (e ∙ (told.frames aim.life.frame).life_is))))
              (λ (ne : f ≡ aim.life.frame → ⊥). rw (ne_eqb f aim.life.frame ne) (is.not_given e))
              (cases_eq f aim.life.frame);
        })
        (λ aim known held i. refl)
        (phase_at s q) (rule.seats q) (told.seats q);
  }

  -- a frame is named at a place
  tell_publish : (p f : ℕ) → p < frames_of sh → f < frames_of sh → (frame_at k f).kind ≡ Private
      → Told record {
        ledger = record { frames = set k.frames f (shown (frame_at k f)); places = set k.places p (Some record { frame = f; generation = (frame_at k f).generation }) };
        counts = s.counts;
        seats = s.seats;
      } (record T { named = λ h g i. if f == h && T.life h == g then Some (T.stored h i) else T.named h g i })
  tell_publish p f there below kind =
      let old = frame_at k f in
      let before = told.frames f in
      let named' = λ (h g i : ℕ). let o : Option ℕ = if f == h && T.life h == g then Some (T.stored h i) else T.named h g i in o in record {
        frames = each_frame (record T { named = named' }) f (shown old) below
            record {
              life_is = before.life_is;
              words_are = before.words_are;
              named_as = λ i v w n e.
                  let n' : Some (T.stored f i) ≡ Some v = rw (eq-eqb f f refl, eq-eqb (T.life f) old.generation before.life_is) at n in
                  sym (same_Some (T.stored f i) v n') ∙ before.words_are i w e;
              unnamed = λ h i. absurd h;
              later = λ g i h. rw (eq-eqb f f refl, ne_eqb (T.life f) g (λ e. omega (arith, e, h))) (before.later g i h);
            }
            (λ g ne h. rw (ne_eqb f g (λ q. ne (sym q))) h);
        places = each_set (λ x o. (life : Life) → o ≡ Some life → PlaceTold named' life) k.places p (Some record { frame = f; generation = old.generation }) None
            (omega (arith, there, rule.place_count))
            (λ life e. subst (PlaceTold named') (same_Some record { frame = f; generation = old.generation } life e)
            record { below = omega (arith, below, frames_at_most sh rule.shape); was_named = λ i. (T.stored f i, rw (eq-eqb f f refl, eq-eqb (T.life f) old.generation before.life_is) refl) })
            (λ x ne life e. let was = told.places x life e in
            record { below = was.below; was_named = λ i. still_named (f == life.frame && T.life life.frame == life.generation) (T.stored life.frame i) (T.named life.frame life.generation i) (was.was_named i) });
        seats = λ q. seat_map sh k T.life T.life T.named named' (T.seat q) (T.seat q).given
            (λ aim life is. record {
              loaded_is = is.loaded_is;
              below = is.below;
              was_named = λ i. still_named (f == aim.life.frame && T.life aim.life.frame == aim.life.generation) (T.stored aim.life.frame i) (T.named aim.life.frame aim.life.generation i) (is.was_named i);
              not_given = is.not_given;
            })
            (λ aim known held i. ⊎_elim
            (λ (same : f ≡ aim.life.frame). absurd (subst MayBeHeld (ap (λ (g : ℕ). (frame_at k g).kind) (sym same) ∙ kind) held.kind))
            (λ (ne : f ≡ aim.life.frame → ⊥). rw (ne_eqb f aim.life.frame ne) refl)
            (cases_eq f aim.life.frame))
            (phase_at s q) (rule.seats q) (told.seats q);
      }

  -- a place is emptied
  tell_withdraw : (p : ℕ) → p < frames_of sh → Told (record s { ledger = record k { places = set k.places p None } }) T
  tell_withdraw p there = record {
    frames = told.frames;
    places = each_set (λ x o. (life : Life) → o ≡ Some life → PlaceTold T.named life) k.places p None None (omega (arith, there, rule.place_count))
        (λ life e. absurd (cc (e))) (λ x ne. told.places x);
    seats = told.seats;
  }

  -- the kinds of a frame after a step that takes references away
  reap_quiet : (note : Note) (b : Bool) → Quiet note record { kind = cond b Retired Free; base = 0; generation = note.generation; content = note.content }
  reap_quiet note true = record { generation = refl; content = refl; kind = λ h. absurd h }
  reap_quiet note false = record { generation = refl; content = refl; kind = λ h. absurd h }

  lower_quiet : (note : Note) (b : Bool) → Quiet note (record note { kind = cond b Dying note.kind; base = note.base - 1 })
  lower_quiet note true = record { generation = refl; content = refl; kind = λ h. absurd h }
  lower_quiet note false = record { generation = refl; content = refl; kind = λ h. h }

  tell_freeze : (f : ℕ) (b : Bool) → f < frames_of sh
      → Told record { ledger = cond b (with_frame k f (frozen (frame_at k f))) k; counts = cond b (set s.counts f 0) s.counts; seats = s.seats } T
  tell_freeze f true below = tell_quiet f (frozen (frame_at k f)) (set s.counts f 0) below record { generation = refl; content = refl; kind = λ h. absurd h }
  tell_freeze f false below = told

  tell_reap : (f : ℕ) (b : Bool) → f < frames_of sh
      → Told record { ledger = cond b (with_frame k f (reaped sh.last_generation (frame_at k f))) k; counts = s.counts; seats = s.seats } T
  tell_reap f true below = let note = frame_at k f in tell_quiet f (reaped sh.last_generation note) s.counts below (reap_quiet note (note.generation == sh.last_generation))
  tell_reap f false below = told

-- a step of the keeper that is allowed
tell_keeper : (sh : Shape) (s : State) (t : List Entry) (e : KeeperStep) → Rule sh s → Told s (tale_of t) → MayStep sh s.ledger e
    → Told (after_keeper sh s e (keeper_finds s e)) (tale_of (record { event = event.Keeper e; word = keeper_finds s e } ∷ t))
tell_keeper sh s t (Reap f) rule told may = tell_reap sh s (tale_of t) rule told f (count_in (frame_word_of s f) == 0) may.0
tell_keeper sh s t (Put f i w) rule told may = tell_put sh s (tale_of t) rule told f i w may.0 may.2
tell_keeper sh s t (Raise f) rule told may = tell_raise sh s (tale_of t) rule told f may.0
tell_keeper sh s t (Open f) rule told may = tell_open sh s (tale_of t) rule told f _ may.0 may.1
tell_keeper sh s t (Add f) rule told may =
    tell_quiet sh s (tale_of t) rule told f (added (frame_at s.ledger f)) _ may.0 record { generation = refl; content = refl; kind = λ h. h }
tell_keeper sh s t (Sub f) rule told may =
    let note = frame_at s.ledger f in
    tell_quiet sh s (tale_of t) rule told f (lowered note) _ may.0 (lower_quiet sh s (tale_of t) rule told note (note.base == 1))
tell_keeper sh s t (Publish p f) rule told may = tell_publish sh s (tale_of t) rule told p f may.0 may.1 may.2
tell_keeper sh s t (Replace p f) rule told may = tell_publish sh s (tale_of t) rule told p f may.0 may.1 may.2
tell_keeper sh s t (Withdraw p) rule told may = tell_withdraw sh s (tale_of t) rule told p may.0
tell_keeper sh s t (Freeze f) rule told may =
    tell_freeze sh s (tale_of t) rule told f (count_in (frame_word_of s f) == (frame_at s.ledger f).base) may.0
tell_keeper sh s t (Word f i) rule told may = told

-- ---------------------------------------------------------------- steps of a reader

-- the frame in the word of a place is the one that was packed
frame_of_word : (g f : ℕ) → f < PLACE_SPAN → (g * PLACE_SPAN + f) % PLACE_SPAN ≡ f
frame_of_word g f below = omega arith

module _ (sh : Shape) (s : State) (t : List Entry) (rule : Rule sh s) (told : Told s (tale_of t)) (q : ℕ) (there : q < length s.seats) where
  abbrev T : Tale
  T = tale_of t

  -- what the trace tells of the seat
  abbrev own : SeatTale
  own = T.seat q

  -- where the seat has come so far, that is told
  mine : (phase : Phase) → phase_at s q ≡ phase → SeatTold T.life T.named own phase
  mine phase at = subst (SeatTold T.life T.named own) at (told.seats q)

  ruled : (phase : Phase) → phase_at s q ≡ phase → SeatRule sh s.ledger phase
  ruled phase at = subst (SeatRule sh s.ledger) at (rule.seats q)

  -- the seats after a step of the seat q: its own tale is the one at true, that of any other seat the one at false
  tell_seat : (new : Phase) (counts : List ℕ) (after : ℕ → Bool → SeatTale) → ((j : ℕ) → after j false ≡ T.seat j) → SeatTold T.life T.named (after q true) new
      → Told record { ledger = s.ledger; counts = counts; seats = set s.seats q new } (record T { seat = λ j. after j (q == j) })
  tell_seat new counts after others here = record {
    frames = told.frames;
    places = told.places;
    seats = each_set (λ j phase. SeatTold T.life T.named (after j (q == j)) phase) s.seats q new Spent there
        (subst (λ (b : Bool). SeatTold T.life T.named (after q b) new) (sym (eq-eqb q q refl)) here)
        (λ j ne. subst (λ (b : Bool). SeatTold T.life T.named (after j b) (phase_at s j)) (sym (ne_eqb q j (λ e. ne (sym e))))
        (subst (λ (x : SeatTale). SeatTold T.life T.named x (phase_at s j)) (sym (others j)) (told.seats j)));
  }

  -- what was told of an aim is told of it in a tale that differs in other parts
  same_aim : (aim : Aim) (counted : ℕ) (held : Option ℕ) (read : List (ℕ × ℕ)) → AimIs T.life T.named own aim
      → AimIs T.life T.named record { loaded = own.loaded; counted = counted; held = held; read = read; given = own.given } aim
  same_aim aim counted held read is = record { loaded_is = is.loaded_is; below = is.below; was_named = is.was_named; not_given = is.not_given }

  -- a place is loaded
  loaded_told : (p : ℕ) (place : Option Life) → named_at s.ledger p ≡ place → phase_at s q ≡ Idle
      → SeatTold T.life T.named (record own { loaded = Some (p, place_word place); given = λ f. false }) (cond (place_word place == 0) Idle (Placed (aim_of p (place_word place)) 0))
  loaded_told p None is at = mine Idle at
  loaded_told p (Some life) is at =
      let was = told.places p life is in
      subst (SeatTold T.life T.named (record own { loaded = Some (p, place_word (Some life)); given = λ f. false })) (sym (aimed sh s rule p life (rule.places p life is)))
      (mine Idle at, record { loaded_is = refl; below = was.below; was_named = was.was_named; not_given = λ e. refl })

  -- a frame word is loaded
  counted_told : (w : ℕ) (aim : Aim) (failures : ℕ) (b : Bool) → is_referenced aim.life.generation w ≡ b → phase_at s q ≡ Placed aim failures
      → SeatTold T.life T.named (record own { counted = w }) (cond b (Counted aim failures (count_in w)) Idle)
  counted_told w aim failures false is at = (mine (Placed aim failures) at).0
  counted_told w aim failures true is at =
      let m = mine (Placed aim failures) at in
      let life = eqb-true (life_in w) aim.life.generation (and_parts (not (count_in w == 0)) (life_in w == aim.life.generation) is).1 in
      (m.0, same_aim aim w own.held own.read m.1, omega (arith, life))

  -- an exchange is tried
  exchanged_told : (w count : ℕ) (aim : Aim) (failures : ℕ) (b c : Bool) → (w == frame_word aim.life.generation count) ≡ b → phase_at s q ≡ Counted aim failures count
      → SeatTold T.life T.named (record own { held = if w == own.counted then frame_in own.loaded else own.held; read = [] })
      (cond b (Held aim nothing_known) (cond c Idle (Placed aim (failures + 1))))
  exchanged_told w count aim failures true c is at =
      let m = mine (Counted aim failures count) at in
      let held : (if w == own.counted then frame_in own.loaded else own.held) ≡ Some aim.life.frame
      = rw (m.2, is, m.1.loaded_is) (ap (λ (x : ℕ). Some x) (frame_of_word aim.life.generation aim.life.frame m.1.below)) in
      (held, same_aim aim own.counted _ [] m.1, All-nil (λ (r : ℕ × ℕ). T.named aim.life.frame aim.life.generation r.0 ≡ Some r.1))
  exchanged_told w count aim failures false true is at = let m = mine (Counted aim failures count) at in rw (m.2, is) m.0
  exchanged_told w count aim failures false false is at =
      let m = mine (Counted aim failures count) at in
      let held : (if w == own.counted then frame_in own.loaded else own.held) ≡ None = rw (m.2, is) m.0 in
      (held, same_aim aim own.counted _ [] m.1)

  -- a word is loaded
  read_told : (i : ℕ) (aim : Aim) (known known' : List (Option ℕ)) → i < PAGE_WORDS → phase_at s q ≡ Held aim known
      → SeatTold T.life T.named (record own { read = (i, get_or (frame_at s.ledger aim.life.frame).content i 0) ∷ own.read }) (Held aim known')
  read_told i aim known known' below at =
      let m = mine (Held aim known) at in
      let r = ruled (Held aim known) at in
      let note = frame_at s.ledger aim.life.frame in
      let w = get_or note.content i 0 in
      let frame = told.frames aim.life.frame in
      let there = slice_get-get_or note.content i 0 (omega (arith, below, (rule.frames aim.life.frame r.0.inside).content)) in
      let was = m.1.was_named i in
      let was' : T.named aim.life.frame note.generation i ≡ Some was.0 = subst (λ (g : ℕ). T.named aim.life.frame g i ≡ Some was.0) r.1.same was.1 in
      let is : was.0 ≡ w = frame.named_as i was.0 w was' there in (
        m.0,
        same_aim aim own.counted own.held _ m.1,
        All-cons (λ (r : ℕ × ℕ). T.named aim.life.frame aim.life.generation r.0 ≡ Some r.1) (i, w) own.read (was.1 ∙ ap (λ (v : ℕ). Some v) is) m.2,
      )

  tell_reader : (e : ReaderStep) (phase : Phase) → phase_at s q ≡ phase → may_read sh e phase ≡ true
      → Told record { ledger = s.ledger; counts = reader_counts e phase (reader_finds s e phase) s.counts; seats = set s.seats q (seat_after sh e phase (reader_finds s e phase)) }
      (tale_of (record { event = event.Reader q e; word = reader_finds s e phase } ∷ t))
  tell_reader (LoadPlace p) Idle at may =
      let w = place_word (named_at s.ledger p) in
      tell_seat _ _ (λ j b. record (T.seat j) { loaded = if b then Some (p, w) else (T.seat j).loaded; given = λ f. if b then false else (T.seat j).given f })
      (λ j. refl) (loaded_told p (named_at s.ledger p) refl at)
  tell_reader LoadFrame (Placed aim failures) at may =
      let w = frame_word_of s aim.life.frame in
      tell_seat _ _ (λ j b. record (T.seat j) { counted = if b then w else (T.seat j).counted }) (λ j. refl)
      (counted_told w aim failures (is_referenced aim.life.generation w) refl at)
  tell_reader Exchange (Counted aim failures count) at may =
      let w = frame_word_of s aim.life.frame in
      tell_seat _ _ (λ j b. record (T.seat j) {
        held = if b && w == (T.seat j).counted then frame_in (T.seat j).loaded else (T.seat j).held;
        read = if b then [] else (T.seat j).read;
      }) (λ j. refl)
      (exchanged_told w count aim failures (w == frame_word aim.life.generation count) (leb sh.tries (failures + 1)) refl at)
  tell_reader Leave (Held aim known) at may =
      tell_seat _ _ (λ j b. record (T.seat j) { held = if b then None else (T.seat j).held }) (λ j. refl) refl
  tell_reader (LoadWord i) (Held aim known) at may =
      let w = get_or (frame_at s.ledger aim.life.frame).content i 0 in
      tell_seat _ _ (λ j b. record (T.seat j) { read = if b then (i, w) ∷ (T.seat j).read else (T.seat j).read }) (λ j. refl)
      (read_told i aim known (set known i (Some w)) (ltb-true i PAGE_WORDS may) at)
  tell_reader _ _ at may = absurd (cc (may))

-- ---------------------------------------------------------------- any step

-- where state and trace go together, they do so after each step that is made
pub told_step : (sh : Shape) (s : State) (t : List Entry) (e : Event) (r : ℕ × State) → Rule sh s → Told s (tale_of t) → step sh s e ≡ Some r
    → Told r.1 (tale_of (record { event = e; word = r.0 } ∷ t))
told_step sh s t (event.Reader q e) r rule told is =
    if_made (may_read sh e (phase_at s q)) _ r (λ x. Told x.1 (tale_of (record { event = event.Reader q e; word = x.0 } ∷ t))) is
    (λ may. tell_reader sh s t rule told q (seat_there sh e s q may) e (phase_at s q) refl may)
told_step sh s t (event.Keeper e) r rule told is =
    if_made (may_step sh s.ledger e) _ r (λ x. Told x.1 (tale_of (record { event = event.Keeper e; word = x.0 } ∷ t))) is
    (λ may. tell_keeper sh s t e rule told ((decides sh s.ledger e).0 may))
