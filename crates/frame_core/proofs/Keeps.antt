-- Every step keeps the rule, and the first state meets it.
use Rattle.std.proofs.Common.{◌≡◌, ℕ, ◌+◌, ◌-◌, ◌*◌, ◌/◌, ◌%◌, ◌<◌, ◌≤◌, ◌≢◌, ◌==◌, leb, not, Bool, true, false, cond, List, get_or, set, slice_get, Option, Some, None, replicate, length, subst, sym}
use Rattle.std.proofs.Common.{ap, ◌∙◌, refl, arith, ⊎_elim, get_or-set_same}
use Rattle.std.proofs.lemmas.Bool.{eqb-true, eqb-false, eq-eqb, ne_eqb, and_parts, not-true, leb-false, ltb-true}
use Rattle.std.proofs.lemmas.Option.{same_Some, slice_get-get_or}
use Rattle.std.proofs.lemmas.List.{length-replicate}
use Rattle.std.proofs.lemmas.List.Folds.{sum_by-replicate}
use Rattle.frame_core.proofs.Names.{PLACE_SPAN, PAGE_WORDS, Shape, IsShape, frames_of, Event, KeeperStep, Reap, Put, Raise, Open, Add, Sub, Publish, Replace, Withdraw, Freeze, Word, ReaderStep}
use Rattle.frame_core.proofs.Names.{LoadPlace, LoadFrame, Exchange, Leave, LoadWord, Kind, Filling, Private, Stable, Dying, Ledger, Note, Aim, Life, Phase, Idle, Placed, Counted, Held, Spent, State}
use Rattle.frame_core.proofs.Names.{place_word, life_at, frame_word, count_in, life_in, blank, first_ledger, frame_at, named_anew, named_at, with_frame, MayStep, reaped, raised, opened, added}
use Rattle.frame_core.proofs.Names.{lowered, filled, shown, frozen, count_at, frame_word_of, keeper_finds, may_step, counted_up, phase_at, aim_of, nothing_known, is_referenced, may_read, reader_finds}
use Rattle.frame_core.proofs.Names.{seat_after, reader_counts, first_state, after_keeper, after_reader, only_if, step, after, Rule, FrameRule, LifeRule, IsNamed, SeatRule, MayBeNamed, MayBeHeld}
use Rattle.frame_core.proofs.Names.{KnownFits, CountFits, GenerationFits, readers_on, is_on}
use Rattle.frame_core.specs.declared.event.Event.TheVariants as event
use Rattle.frame_core.proofs.Lists.{get_set, in_replicate, copied, count_set, count_one}
use Rattle.frame_core.proofs.Packed.{count_packed, life_packed, parts_of_word}
use Rattle.frame_core.proofs.Decides.{decides}
use Rattle.frame_core.proofs.Fitting.{frames_at_most, count_at_most}
use Rattle.frame_core.proofs.Frames.{reap_kept, put_kept, raise_kept, open_kept, add_kept, sub_kept, show_kept, freeze_kept}
use Rattle.frame_core.proofs.Changes.{seat_there, frame_changed, frame_noted, place_changed, seat_moved, seat_counted}

module _ (sh : Shape) (s : State) (rule : Rule sh s) where
  abbrev k : Ledger
  k = s.ledger

  -- the count in the word of a frame is its count
  pub count_found : (f : ℕ) → f < frames_of sh → count_in (frame_word_of s f) ≡ count_at s f
  count_found f below = count_packed (frame_at k f).generation (count_at s f) (omega (arith, count_at_most sh s rule f below))

  -- the life in the word of a frame is its life
  pub life_found : (f : ℕ) → f < frames_of sh → life_in (frame_word_of s f) ≡ (frame_at k f).generation
  life_found f below = life_packed (frame_at k f).generation (count_at s f) (omega (arith, count_at_most sh s rule f below))

  -- ---------------------------------------------------------------- the keeper's steps

  reap_cases : (f : ℕ) (b : Bool) → f < frames_of sh → (frame_at k f).kind ≡ Dying → (count_in (frame_word_of s f) == 0) ≡ b
      → Rule sh record { ledger = cond b (with_frame k f (reaped sh.last_generation (frame_at k f))) k; counts = s.counts; seats = s.seats }
  reap_cases f true below kind is = frame_noted sh s rule f (reaped sh.last_generation (frame_at k f)) below
      (reap_kept _ _ _ _ (rule.frames f below) kind (sym (count_found f below) ∙ eqb-true (count_in (frame_word_of s f)) 0 is))
  reap_cases f false below kind is = rule

  freeze_cases : (f : ℕ) (b : Bool) → f < frames_of sh → (frame_at k f).kind ≡ Stable → (count_in (frame_word_of s f) == (frame_at k f).base) ≡ b
      → Rule sh record { ledger = cond b (with_frame k f (frozen (frame_at k f))) k; counts = cond b (set s.counts f 0) s.counts; seats = s.seats }
  freeze_cases f true below kind is = frame_changed sh s rule f (frozen (frame_at k f)) 0 below
      (freeze_kept _ _ _ _ (rule.frames f below) kind (sym (count_found f below) ∙ eqb-true (count_in (frame_word_of s f)) (frame_at k f).base is))
  freeze_cases f false below kind is = rule

  -- the life in which a private frame is named
  named_life : (f : ℕ) → f < frames_of sh → (frame_at k f).kind ≡ Private
      → IsNamed sh (with_frame k f (shown (frame_at k f))) record { frame = f; generation = (frame_at k f).generation }
  named_life f below kind =
      let note = frame_at k f in
      let life : Life = record { frame = f; generation = note.generation } in
      let given = subst (λ (x : Kind). GenerationFits sh.last_generation x note.generation) kind (rule.frames f below).generation in
      subst (λ (x : Note). LifeRule sh x life) (sym (get_or-set_same k.frames f (shown note) blank (omega (arith, below, rule.frame_count))))
      record { inside = below; first = given.0; past = omega arith; named = λ same. tt }

  -- a place that names a private frame from now on keeps the rule
  named_keeps : (p f : ℕ) → p < frames_of sh → f < frames_of sh → (frame_at k f).kind ≡ Private
      → Rule sh record { ledger = named_anew k p f; counts = s.counts; seats = s.seats }
  named_keeps p f there below kind =
      let life : Life = record { frame = f; generation = (frame_at k f).generation } in
      place_changed sh record { ledger = with_frame k f (shown (frame_at k f)); counts = s.counts; seats = s.seats }
      (frame_noted sh s rule f (shown (frame_at k f)) below (show_kept _ _ _ _ (rule.frames f below) kind)) p (Some life) there
      (λ x e. subst (IsNamed sh (with_frame k f (shown (frame_at k f)))) (same_Some life x e) (named_life f below kind))

  -- a step of the keeper that the ledger allows keeps the rule
  pub keeper_keeps : (e : KeeperStep) → MayStep sh k e → Rule sh (after_keeper sh s e (keeper_finds s e))
  keeper_keeps (Reap f) may = reap_cases f (count_in (frame_word_of s f) == 0) may.0 may.1 refl
  keeper_keeps (Put f i w) may = frame_noted sh s rule f (filled i w (frame_at k f)) may.0 (put_kept _ _ _ _ (rule.frames f may.0) i w may.2)
  keeper_keeps (Raise f) may = frame_noted sh s rule f (raised (frame_at k f)) may.0 (raise_kept _ _ _ _ (rule.frames f may.0) may.1)
  keeper_keeps (Open f) may = frame_changed sh s rule f (opened (frame_at k f)) (count_at s f + 1) may.0 (open_kept _ _ _ _ (rule.frames f may.0) may.1)
  keeper_keeps (Add f) may = frame_changed sh s rule f (added (frame_at k f)) (count_at s f + 1) may.0 (add_kept _ _ _ _ (rule.frames f may.0) may.1 may.2)
  keeper_keeps (Sub f) may = frame_changed sh s rule f (lowered (frame_at k f)) (count_at s f - 1) may.0 (sub_kept _ _ _ _ (rule.frames f may.0) may.1)
  keeper_keeps (Publish p f) may = named_keeps p f may.0 may.1 may.2
  keeper_keeps (Replace p f) may = named_keeps p f may.0 may.1 may.2
  keeper_keeps (Withdraw p) may = place_changed sh s rule p None may.0 (λ life e. absurd (cc (e)))
  keeper_keeps (Freeze f) may = freeze_cases f (count_in (frame_word_of s f) == (frame_at k f).base) may.0 may.1 refl
  keeper_keeps (Word f i) may = rule

  -- ---------------------------------------------------------------- a reader's steps

  -- the word of a place that names a life is not 0, and tells that life
  pub life_of_word : (life : Life) → IsNamed sh k life → ¬ (place_word (Some life) ≡ 0) × (life_at (place_word (Some life)) ≡ life)
  life_of_word life r =
      let f = life.frame in
      let g = life.generation in
      let low : f < PLACE_SPAN = omega (arith, r.inside, frames_at_most sh rule.shape) in
      let some = r.first in
      let a : (g * PLACE_SPAN + f) % PLACE_SPAN ≡ f = omega arith in
      let b : (g * PLACE_SPAN + f) / PLACE_SPAN ≡ g = omega arith in
      ((λ e. omega (arith, some, e)), λ i. record { frame = a i; generation = b i })

  -- a seat that loaded the word of a place that names a life is Placed, with that life as its aim
  pub aimed : (p : ℕ) (life : Life) → IsNamed sh k life
      → cond (place_word (Some life) == 0) Idle (Placed (aim_of p (place_word (Some life))) 0) ≡ Placed record { place = p; life = life } 0
  aimed p life r =
      let w = life_of_word life r in
      ap (λ (b : Bool). cond b Idle (Placed (aim_of p (place_word (Some life))) 0)) (ne_eqb (place_word (Some life)) 0 w.0)
      ∙ ap (λ (l : Life). Placed record { place = p; life = l } 0) w.1

  module _ (q : ℕ) (phase : Phase) (at : phase_at s q ≡ phase) (there : q < length s.seats) where
    -- what is true of the seat
    mine : SeatRule sh k phase
    mine = subst (SeatRule sh k) at (rule.seats q)

    abbrev Moves : Phase → Type 0
    Moves new = Rule sh record { ledger = k; counts = s.counts; seats = set s.seats q new }

    moved : (new : Phase) → ((f : ℕ) → is_on f new ≡ is_on f phase) → SeatRule sh k new → Moves new
    moved new same here = seat_moved sh s rule q new there (λ f. same f ∙ ap (is_on f) (sym at)) here

  module _ (q : ℕ) (there : q < length s.seats) where
    load_place : (p : ℕ) (place : Option Life) → named_at k p ≡ place → (at : phase_at s q ≡ Idle)
        → Moves q Idle at there (cond (place_word place == 0) Idle (Placed (aim_of p (place_word place)) 0))
    load_place p None is at = moved q Idle at there Idle (λ f. refl) tt
    load_place p (Some life) is at =
        let r = rule.places p life is in
        subst (Moves q Idle at there) (sym (aimed p life r)) (moved q Idle at there (Placed record { place = p; life = life } 0) (λ f. refl) (r, omega (arith, rule.shape.tries_low)))

    load_frame : (aim : Aim) (failures : ℕ) (b : Bool) (at : phase_at s q ≡ Placed aim failures) → is_referenced aim.life.generation (frame_word_of s aim.life.frame) ≡ b
        → Moves q (Placed aim failures) at there (cond b (Counted aim failures (count_in (frame_word_of s aim.life.frame))) Idle)
    load_frame aim failures false at is = moved q (Placed aim failures) at there Idle (λ f. refl) tt
    load_frame aim failures true at is =
        let n = frame_word_of s aim.life.frame in
        let r = mine q (Placed aim failures) at there in
        let some = eqb-false (count_in n) 0 (not-true (count_in n == 0) (and_parts (not (count_in n == 0)) (life_in n == aim.life.generation) is).0) in
        let most = count_at_most sh s rule aim.life.frame r.0.inside in
        moved q (Placed aim failures) at there (Counted aim failures (count_in n)) (λ f. refl)
        (r.0, r.1, omega (arith, some), omega (arith, most, count_found aim.life.frame r.0.inside))

    -- a word that is loaded is known rightly
    known_more : (known : List (Option ℕ)) (content : List ℕ) (i : ℕ) → i < length content → KnownFits known content
        → KnownFits (set known i (Some (get_or content i 0))) content
    known_more known content i below fits j v e = ⊎_elim
        (λ (h : (j ≡ i) × (Some (get_or content i 0) ≡ Some v)). ap (λ (x : ℕ). slice_get content x) h.0 ∙ slice_get-get_or content i 0 below ∙ h.1)
        (λ (h : (j ≢ i) × (slice_get known j ≡ Some (Some v))). fits j v h.1)
        (get_set known i j (Some (get_or content i 0)) (Some v) e)

    load_word : (i : ℕ) (aim : Aim) (known : List (Option ℕ)) (at : phase_at s q ≡ Held aim known) → i < PAGE_WORDS
        → Moves q (Held aim known) at there (Held aim (set known i (Some (get_or (frame_at k aim.life.frame).content i 0))))
    load_word i aim known at below =
        let r = mine q (Held aim known) at there in
        let content = (frame_at k aim.life.frame).content in
        moved q (Held aim known) at there _ (λ f. refl) (
          r.0,
          record { same = r.1.same; kind = r.1.kind; words = known_more known content i (omega (arith, below, (rule.frames aim.life.frame r.0.inside).content)) r.1.words },
        )

    -- the same note, with other readers
    recounted : (last readers others : ℕ) (note : Note) (count after : ℕ) → FrameRule last readers note count → after ≡ note.base + others → CountFits note.kind after
        → FrameRule last others note after
    recounted last readers others note count after r counted fits = record { counted = counted; base = r.base; count_fits = fits; generation = r.generation; content = r.content }

    -- one more reader on a frame that has a reference
    counted_more : (kind : Kind) (count : ℕ) → CountFits kind count → 1 ≤ count → CountFits kind (count + 1)
    counted_more Private count h one = tt
    counted_more Stable count h one = tt
    counted_more Dying count h one = tt
    counted_more _ count h one = absurd (omega arith)

    -- a frame that may be named, and has a reference, may be held
    held_kind : (kind : Kind) (count : ℕ) → CountFits kind count → 1 ≤ count → MayBeNamed kind → MayBeHeld kind
    held_kind Filling count h one named = named
    held_kind Private count h one named = named
    held_kind Stable count h one named = tt
    held_kind Dying count h one named = tt
    held_kind _ count h one named = absurd (omega arith)

    -- after an exchange of a seat that had counted so
    abbrev Exchanges : Aim → ℕ → Bool → Bool → Type 0
    Exchanges aim failures b c = Rule sh record {
      ledger = k;
      counts = cond b (counted_up s.counts aim.life.frame) s.counts;
      seats = set s.seats q (cond b (Held aim nothing_known) (cond c Idle (Placed aim (failures + 1))));
    }

    exchange : (aim : Aim) (failures count : ℕ) (b c : Bool) → phase_at s q ≡ Counted aim failures count
        → (frame_word_of s aim.life.frame == frame_word aim.life.generation count) ≡ b → leb sh.tries (failures + 1) ≡ c → Exchanges aim failures b c
    exchange aim failures count true c at is more =
        let f = aim.life.frame in
        let note = frame_at k f in
        let r = mine q (Counted aim failures count) at there in
        let frame = rule.frames f r.0.inside in
        let most = count_at_most sh s rule f r.0.inside in
        let both = parts_of_word note.generation aim.life.generation (count_at s f) count (omega (arith, most)) (omega (arith, r.3))
        (eqb-true (frame_word_of s f) (frame_word aim.life.generation count) is) in
        let one : 1 ≤ count_at s f = omega (arith, both.1, r.2) in
        let yes : ◌≡◌ {A = ℕ} (cond (f == f) 1 0) 1 = ap (λ (b : Bool). cond b 1 0) (eq-eqb f f refl) in
        let was : ◌≡◌ {A = ℕ} (cond (is_on f (phase_at s q)) 1 0) 0 = ap (λ (x : Phase). cond (is_on f x) 1 0) at in
        let counted = count_set (is_on f) s.seats q Spent (Held aim nothing_known) there in
        seat_counted sh s rule q (Held aim nothing_known) f (count_at s f + 1) there r.0.inside
        (λ g ne. ne_eqb f g (λ e. ne (sym e)) ∙ ap (is_on g) (sym at))
        (r.0, record { same = sym both.0; kind = held_kind note.kind (count_at s f) frame.count_fits one (r.0.named (sym both.0)); words = λ i w e. absurd (cc (copied PAGE_WORDS i None (Some w) e)) })
        (recounted _ _ _ note _ _ frame (omega (arith, frame.counted, counted, yes, was)) (counted_more note.kind (count_at s f) frame.count_fits one))
    exchange aim failures count false true at is more = moved q (Counted aim failures count) at there Idle (λ f. refl) tt
    exchange aim failures count false false at is more =
        let r = mine q (Counted aim failures count) at there in
        moved q (Counted aim failures count) at there (Placed aim (failures + 1)) (λ f. refl) (r.0, leb-false sh.tries (failures + 1) more)

    -- one reader less
    counted_less : (kind : Kind) (count : ℕ) → CountFits kind count → CountFits kind (count - 1)
    counted_less Private count h = tt
    counted_less Stable count h = tt
    counted_less Dying count h = tt
    counted_less _ count h = omega arith

    leave : (aim : Aim) (known : List (Option ℕ)) → phase_at s q ≡ Held aim known
        → Rule sh record { ledger = k; counts = set s.counts aim.life.frame (count_at s aim.life.frame - 1); seats = set s.seats q Idle }
    leave aim known at =
        let f = aim.life.frame in
        let r = mine q (Held aim known) at there in
        let frame = rule.frames f r.0.inside in
        let on : is_on f (phase_at s q) ≡ true = ap (is_on f) at ∙ eq-eqb f f refl in
        let least = count_one (is_on f) s.seats q Spent there on in
        let less = count_set (is_on f) s.seats q Spent Idle there in
        let yes : ◌≡◌ {A = ℕ} (cond (is_on f (phase_at s q)) 1 0) 1 = ap (λ (b : Bool). cond b 1 0) on in
        seat_counted sh s rule q Idle f (count_at s f - 1) there r.0.inside (λ g ne. sym (ap (is_on g) at ∙ ne_eqb f g (λ e. ne (sym e)))) tt
        (recounted _ _ _ (frame_at k f) _ _ frame (omega (arith, frame.counted, less, yes, least)) (counted_less (frame_at k f).kind (count_at s f) frame.count_fits))

    reads : (e : ReaderStep) (phase : Phase) → phase_at s q ≡ phase → may_read sh e phase ≡ true → Rule sh record {
      ledger = k;
      counts = reader_counts e phase (reader_finds s e phase) s.counts;
      seats = set s.seats q (seat_after sh e phase (reader_finds s e phase));
    }
    reads (LoadPlace p) Idle at may = load_place p (named_at k p) refl at
    reads LoadFrame (Placed aim failures) at may = load_frame aim failures (is_referenced aim.life.generation (frame_word_of s aim.life.frame)) at refl
    reads Exchange (Counted aim failures count) at may = exchange aim failures count _ (leb sh.tries (failures + 1)) at refl refl
    reads Leave (Held aim known) at may = leave aim known at
    reads (LoadWord i) (Held aim known) at may = load_word i aim known at (ltb-true i PAGE_WORDS may)
    reads _ _ at may = absurd (cc (may))

  -- a step of a reader that the phase of its seat allows keeps the rule
  pub reader_keeps : (q : ℕ) (e : ReaderStep) → may_read sh e (phase_at s q) ≡ true → Rule sh (after_reader sh s q e (reader_finds s e (phase_at s q)))
  reader_keeps q e may = reads q (seat_there sh e s q may) e (phase_at s q) refl may

-- ---------------------------------------------------------------- any step

-- what holds of the step that a test allows holds of the step that was made
pub if_made : {A : Type 0} (b : Bool) (a r : A) (P : A → Type 0) → only_if b a ≡ Some r → (b ≡ true → P a) → P r
if_made true a r P e h = subst P (same_Some a r e) (h refl)
if_made false a r P e h = absurd (cc (e))

-- a step that is made keeps the rule
pub step_keeps : (sh : Shape) (s : State) (e : Event) (r : ℕ × State) → step sh s e ≡ Some r → Rule sh s → Rule sh r.1
step_keeps sh s (event.Reader q e) r is rule = if_made (may_read sh e (phase_at s q)) _ r (λ x. Rule sh x.1) is (reader_keeps sh s rule q e)
step_keeps sh s (event.Keeper e) r is rule = if_made (may_step sh s.ledger e) _ r (λ x. Rule sh x.1) is (λ may. keeper_keeps sh s rule e ((decides sh s.ledger e).0 may))

-- the state after an event, allowed or not
after_option : (sh : Shape) (s : State) (o : Option (ℕ × State)) → ((r : ℕ × State) → o ≡ Some r → Rule sh r.1) → Rule sh s → Rule sh (after s o)
after_option sh s None h rule = rule
after_option sh s (Some r) h rule = h r refl

-- the state after an event, allowed or not, keeps the rule
pub after_keeps : (sh : Shape) (s : State) (e : Event) → Rule sh s → Rule sh (after s (step sh s e))
after_keeps sh s e rule = after_option sh s (step sh s e) (λ r is. step_keeps sh s e r is rule) rule

-- the first state meets the rule
pub first_rule : (sh : Shape) → IsShape sh → Rule sh (first_state sh)
first_rule sh valid =
    let n = frames_of sh in
    let none : (f : ℕ) → readers_on f (replicate sh.passes Idle) ≡ 0 = λ f. omega (arith, sum_by-replicate (λ phase. cond (is_on f phase) 1 0) sh.passes Idle) in
    let frame : (f : ℕ) → FrameRule sh.last_generation (readers_on f (replicate sh.passes Idle)) blank 0 = λ f.
    record { counted = omega (arith, none f); base = refl; count_fits = refl; generation = omega (arith, valid.generation_low); content = length-replicate {A = ℕ} PAGE_WORDS 0 } in
    record {
      shape = valid;
      frame_count = length-replicate n blank;
      place_count = length-replicate n None;
      count_count = length-replicate {A = ℕ} n 0;
      seat_count = length-replicate sh.passes Idle;
      frames = λ f below. in_replicate (λ x. FrameRule sh.last_generation (readers_on f (replicate sh.passes Idle)) x (get_or (replicate n 0) f 0)) n f blank blank
          (in_replicate (λ c. FrameRule sh.last_generation (readers_on f (replicate sh.passes Idle)) blank c) n f 0 0 (frame f) (frame f))
          (in_replicate (λ c. FrameRule sh.last_generation (readers_on f (replicate sh.passes Idle)) blank c) n f 0 0 (frame f) (frame f));
      places = λ p life e. absurd (cc (in_replicate (λ (o : Option Life). o ≡ None) n p None None refl refl, e));
      seats = λ q. in_replicate (SeatRule sh (first_ledger sh)) sh.passes q Idle Spent tt tt;
    }
