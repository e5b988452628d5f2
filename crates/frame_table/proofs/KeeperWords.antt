-- A step of the keeper changes one word of the table, and is told what it found there.
use Rattle.std.proofs.Common.{◌≡◌, ℕ, ◌+◌, ◌-◌, ◌<◌, ◌≤◌, ◌==◌, Bool, true, false, cond, eqb, set, get_or, Some, None, refl, ap, sym, subst, ◌∙◌, arith}
use Rattle.std.proofs.lemmas.Bool.{eqb-true, eqb-false, eq-eqb, ne_eqb}
use Rattle.frame_table.proofs.CoreNames.{COUNT_SPAN, Shape, frames_of, KeeperStep, Reap, Put, Raise, Open, Add, Sub, Publish, Replace, Withdraw, Freeze, Word, Kind, Free, Filling, Ledger, State}
use Rattle.frame_table.proofs.CoreNames.{frame_word, count_in, words_of, frame_word_at, content_at, count_at, frame_word_of, keeper_finds, frame_at, with_frame, MayStep, reaped, filled, raised}
use Rattle.frame_table.proofs.CoreNames.{opened, added, lowered, named_anew, shown, frozen, after_keeper, Rule, CountFits, GenerationFits}
use Rattle.frame_core.proofs.Above.{as_it_was, base_at_most, count_at_most, life_low, count_found, life_found, word_get, content_get, word_set, note_set, content_set, place_set, words_same}
use Rattle.frame_table.specs.Keeping.{keeper_word, keeper_written, found_by, word_of_frame, knows}

-- the word that a step leaves, what it is told, and what it knew of that
abbrev pub OneWord : Shape → State → KeeperStep → Type 0
OneWord sh s e = let i : ℕ = keeper_word (frames_of sh) e in let n : ℕ = get_or (words_of s) i 0 in
    (set (words_of s) i (keeper_written s.ledger e n) ≡ words_of (after_keeper sh s e (keeper_finds s e))) × (found_by e n ≡ keeper_finds s e) × knows s.ledger e (keeper_finds s e)

module _ (sh : Shape) (s : State) (rule : Rule sh s) where
  abbrev F : ℕ
  F = frames_of sh

  abbrev k : Ledger
  k = s.ledger

  -- a step that works on the word i, where n stands
  on_word : (e : KeeperStep) (n : ℕ) → get_or (words_of s) (keeper_word F e) 0 ≡ n
      → set (words_of s) (keeper_word F e) (keeper_written k e n) ≡ words_of (after_keeper sh s e (keeper_finds s e)) → found_by e n ≡ keeper_finds s e
      → knows k e (keeper_finds s e) → OneWord sh s e
  on_word e n is left found told =
      (ap (λ (m : ℕ). set (words_of s) (keeper_word F e) (keeper_written k e m)) is ∙ left, ap (found_by e) is ∙ found, told)

  reaps : (f : ℕ) (b : Bool) → f < F → set (words_of s) (frame_word_at F f) (frame_word_of s f)
      ≡ words_of record { ledger = cond b (with_frame k f (reaped sh.last_generation (frame_at k f))) k; counts = s.counts; seats = s.seats }
  reaps f true below = note_set sh s rule f (frame_word_of s f) (reaped sh.last_generation (frame_at k f)) below refl refl
  reaps f false below = as_it_was s (frame_word_at F f) (frame_word_of s f) (word_get sh s rule f below)

  -- two words of one life are equal exactly where their counts are
  same_life : (f c : ℕ) (b : Bool) → f < F → (count_in (frame_word_of s f) == c) ≡ b → eqb (frame_word_of s f) (frame_word (frame_at k f).generation c) ≡ b
  same_life f c true below is = eq-eqb (frame_word_of s f) (frame_word (frame_at k f).generation c)
      (ap (frame_word (frame_at k f).generation) (sym (count_found sh s rule f below) ∙ eqb-true (count_in (frame_word_of s f)) c is))
  same_life f c false below is = ne_eqb (frame_word_of s f) (frame_word (frame_at k f).generation c)
      (λ e. eqb-false (count_in (frame_word_of s f)) c is (count_found sh s rule f below ∙ omega (arith, e)))

  freezes : (f : ℕ) (b : Bool) → f < F → set (words_of s) (frame_word_at F f) (cond b (frame_word (frame_at k f).generation 0) (frame_word_of s f))
      ≡ words_of record { ledger = cond b (with_frame k f (frozen (frame_at k f))) k; counts = cond b (set s.counts f 0) s.counts; seats = s.seats }
  freezes f true below = word_set sh s rule f (frame_word (frame_at k f).generation 0) 0 (frozen (frame_at k f)) below refl refl
  freezes f false below = as_it_was s (frame_word_at F f) (frame_word_of s f) (word_get sh s rule f below)

  -- the word of a frame without a reference
  empty_word : (f : ℕ) → count_at s f ≡ 0 → frame_word_of s f ≡ frame_word (frame_at k f).generation 0
  empty_word f none = ap (frame_word (frame_at k f).generation) none

  -- a store of its name to a place leaves the words of the state in which the place names the frame
  named_anew_words : (p f : ℕ) → p < F → f < F → set (words_of s) p (word_of_frame k f) ≡ words_of (record s { ledger = named_anew k p f })
  named_anew_words p f there below =
      let note = shown (frame_at k f) in
      place_set sh s rule p (Some record { frame = f; generation = (frame_at k f).generation }) (with_frame k f note).frames there (words_same sh s rule f note below refl refl)

  -- each step of the keeper that is allowed finds and leaves the words of the states before and after it
  pub keeper_words : (e : KeeperStep) → MayStep sh k e → OneWord sh s e
  keeper_words (Reap f) may = on_word (Reap f) (frame_word_of s f) (word_get sh s rule f may.0) (reaps f (count_in (frame_word_of s f) == 0) may.0) refl tt
  keeper_words (Put f i w) may = (content_set sh s rule f i w (filled i w (frame_at k f)) may.0 may.1 refl refl, refl, tt)
  keeper_words (Raise f) may =
      let frame = rule.frames f may.0 in
      let none : CountFits Free (count_at s f) = subst (λ (x : Kind). CountFits x (count_at s f)) may.1 frame.count_fits in
      let low : GenerationFits sh.last_generation Free (frame_at k f).generation =
      subst (λ (x : Kind). GenerationFits sh.last_generation x (frame_at k f).generation) may.1 frame.generation in
      on_word (Raise f) (frame_word_of s f) (word_get sh s rule f may.0)
      (note_set sh s rule f (frame_word_of s f + COUNT_SPAN) (raised (frame_at k f)) may.0 (omega arith) refl) refl
      (empty_word f none, omega (arith, low, rule.shape.generation_high))
  keeper_words (Open f) may =
      let none : CountFits Filling (count_at s f) = subst (λ (x : Kind). CountFits x (count_at s f)) may.1 (rule.frames f may.0).count_fits in
      on_word (Open f) (frame_word_of s f) (word_get sh s rule f may.0)
      (word_set sh s rule f (frame_word_of s f + 1) (count_at s f + 1) (opened (frame_at k f)) may.0 (omega arith) refl) refl (empty_word f none, life_low sh s rule f may.0)
  keeper_words (Add f) may = on_word (Add f) (frame_word_of s f) (word_get sh s rule f may.0)
      (word_set sh s rule f (frame_word_of s f + 1) (count_at s f + 1) (added (frame_at k f)) may.0 (omega arith) refl) refl
      (omega (arith, count_at_most sh s rule f may.0, life_low sh s rule f may.0))
  keeper_words (Sub f) may =
      let some : 1 ≤ count_at s f = omega (arith, may.1, (rule.frames f may.0).counted) in
      on_word (Sub f) (frame_word_of s f) (word_get sh s rule f may.0)
      (word_set sh s rule f (frame_word_of s f - 1) (count_at s f - 1) (lowered (frame_at k f)) may.0 (omega (arith, some)) refl) refl
      (omega (arith, some, count_found sh s rule f may.0))
  keeper_words (Publish p f) may = (named_anew_words p f may.0 may.1, refl, life_low sh s rule f may.1)
  keeper_words (Replace p f) may = (named_anew_words p f may.0 may.1, refl, life_low sh s rule f may.1)
  keeper_words (Withdraw p) may = (place_set sh s rule p None k.frames may.0 refl, refl, tt)
  keeper_words (Freeze f) may =
      let note = frame_at k f in
      let b : Bool = count_in (frame_word_of s f) == note.base in
      on_word (Freeze f) (frame_word_of s f) (word_get sh s rule f may.0)
      (ap (λ (c : Bool). set (words_of s) (frame_word_at F f) (cond c (frame_word note.generation 0) (frame_word_of s f))) (same_life f note.base b may.0 refl) ∙ freezes f b may.0)
      refl (life_found sh s rule f may.0, base_at_most note.kind note.base (rule.frames f may.0).base)
  keeper_words (Word f i) may =
      let here = content_get sh s rule f i may.0 may.1 in
      on_word (Word f i) (get_or (frame_at k f).content i 0) here (as_it_was s (content_at F f i) _ here) refl refl
