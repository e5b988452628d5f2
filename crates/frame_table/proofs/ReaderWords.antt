-- A step of a reader, as its seat sees it, is the core's step of the same name: it changes one word of the table, and is told what it found there.
use Rattle.std.proofs.Common.{◌≡◌, ℕ, ◌+◌, ◌-◌, ◌<◌, ◌≤◌, Bool, true, false, cond, eqb, set, get_or, Option, Some, None, subst, refl, ap, sym, ◌∙◌, arith, eq-eqb}
use Rattle.std.proofs.lemmas.Bool.{ltb-true}
use Rattle.std.proofs.lemmas.Option.{get_or_from_slice_get}
use Rattle.frame_table.proofs.CoreNames.{PAGE_WORDS, Shape, frames_of, ReaderStep, LoadPlace, LoadFrame, Exchange, Leave, LoadWord, Life, Phase, Idle, Placed, Counted, Held, State, place_word}
use Rattle.frame_table.proofs.CoreNames.{frame_word, words_of, frame_word_at, content_at, count_at, frame_word_of, counted_up, frame_at, named_at, Rule, SeatRule, is_on, phase_at, may_read}
use Rattle.frame_table.proofs.CoreNames.{reader_finds, reader_counts, only_if, after_reader}
use Rattle.frame_core.proofs.Above.{as_it_was, count_at_most, life_low, referenced, count_found, life_of_word, word_get, content_get, place_get, word_counted}
use Rattle.frame_table.proofs.Names.{reader_word, written, tells, NamesFrame, IsReaderStep}
use Rattle.frame_table.proofs.Looked.{there}

module _ (sh : Shape) (s : State) (rule : Rule sh s) (q : ℕ) where
  abbrev F : ℕ
  F = frames_of sh

  ruled : (phase : Phase) → phase_at s q ≡ phase → SeatRule sh s.ledger phase
  ruled phase at = subst (SeatRule sh s.ledger) at (rule.seats q)

  -- what a step finds stands there, what it leaves is there after it, and what it is told is as the rule says
  abbrev OneWord : ReaderStep → Phase → Type 0
  OneWord e phase = let i : ℕ = reader_word sh e phase in let n : ℕ = reader_finds s e phase in
      (get_or (words_of s) i 0 ≡ n) × (set (words_of s) i (written e phase n) ≡ words_of (record s { counts = reader_counts e phase n s.counts })) × tells sh e phase n

  names_frame : (p : ℕ) (place : Option Life) → named_at s.ledger p ≡ place → NamesFrame sh (place_word place)
  names_frame p None is some = absurd (some refl)
  names_frame p (Some life) is some =
      let r = rule.places p life is in
      let w = (life_of_word sh s rule life r).1 in
      (subst (λ (l : Life). l.frame < F) (sym w) r.inside, subst (λ (l : Life). 1 ≤ l.generation) (sym w) r.first)

  exchanged : (f : ℕ) (b : Bool) → f < F
      → set (words_of s) (frame_word_at F f) (cond b (frame_word_of s f + 1) (frame_word_of s f)) ≡ words_of (record s { counts = cond b (counted_up s.counts f) s.counts })
  exchanged f true below = word_counted sh s rule f (frame_word_of s f + 1) (count_at s f + 1) below (omega arith)
  exchanged f false below = as_it_was s (frame_word_at F f) (frame_word_of s f) (word_get sh s rule f below)

  words : (e : ReaderStep) (phase : Phase) → phase_at s q ≡ phase → may_read sh e phase ≡ true → OneWord e phase
  words (LoadPlace p) Idle at may =
      let here = place_get sh s rule p (ltb-true p F may) in (here, as_it_was s p _ here, names_frame p (named_at s.ledger p) refl)
  words LoadFrame (Placed aim failures) at may =
      let f = aim.life.frame in
      let inside = (ruled (Placed aim failures) at).0.inside in
      let here = word_get sh s rule f inside in
      let most = count_at_most sh s rule f inside in
      (here, as_it_was s (frame_word_at F f) _ here, (omega (arith, most, count_found sh s rule f inside), omega (arith, most, life_low sh s rule f inside)))
  words Exchange (Counted aim failures count) at may =
      let f = aim.life.frame in
      let inside = (ruled (Counted aim failures count) at).0.inside in
      (word_get sh s rule f inside, exchanged f (eqb (frame_word_of s f) (frame_word aim.life.generation count)) inside, tt)
  words Leave (Held aim known) at may =
      let f = aim.life.frame in
      let inside = (ruled (Held aim known) at).0.inside in
      let some = referenced sh s rule q f inside (ap (is_on f) at ∙ eq-eqb f f refl) in (
        word_get sh s rule f inside,
        word_counted sh s rule f (frame_word_of s f - 1) (count_at s f - 1) inside (omega (arith, some)),
        omega (arith, some, count_found sh s rule f inside),
      )
  words (LoadWord i) (Held aim known) at may =
      let f = aim.life.frame in
      let r = ruled (Held aim known) at in
      let here = content_get sh s rule f i r.0.inside (ltb-true i PAGE_WORDS may) in
      (here, as_it_was s (content_at F f i) _ here, λ v e. get_or_from_slice_get (frame_at s.ledger f).content i v 0 (r.1.words i v (there known i v e)))
  words _ _ at may = absurd (cc (may))

  -- a step of a reader that its phase allows is the core's
  pub reader_step_is : (e : ReaderStep) → may_read sh e (phase_at s q) ≡ true → IsReaderStep sh s q e (phase_at s q)
  reader_step_is e may =
      let one = words e (phase_at s q) refl may in
      let found : ℕ = reader_finds s e (phase_at s q) in
      let made : ℕ × State = (found, after_reader sh s q e found) in
      record {
        found = found;
        next = made.1;
        steps = ap (λ (b : Bool). only_if b made) may;
        word = one.0;
        words = one.1;
        seats = refl;
        ledger = refl;
        told = one.2;
      }
