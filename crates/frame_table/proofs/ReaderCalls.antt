-- What each step of a reader asks of the table.
use Rattle.std.proofs.Common.{◌≡◌, ℕ, ◌+◌, ◌-◌, ◌%◌, ◌^◌, ◌<◌, Bool, true, false, cond, eqb, List, [], get_or, Option, refl, ap, sym, subst, arith}
use Rattle.std.proofs.lemmas.Bool.{eqb-true, lt-ltb}
use prog.Atomic.{either}
use Rattle.atomic_table.specs.Table.{carried_after}
use Rattle.frame_table.proofs.CoreNames.{PAGE_WORDS, Shape, frames_of, Event, LoadPlace, LoadFrame, Exchange, Leave, LoadWord, Aim, Idle, Placed, Counted, Held, frame_word, frame_word_at, content_at}
use Rattle.frame_table.proofs.Names.{ReaderLog, sits, StepsAt, StepsNow, loads_place, loads_word}
use Rattle.frame_table.proofs.Allowed.{MayLoad, MayExchange, MaySubOne, one_less_word}
use Rattle.frame_table.proofs.ReaderMay.{reader_may}

module _ (slots id : ℕ) (sh : Shape) (log : ReaderLog) (order : List Event) where
  -- an idle pass may load a place
  pub may_load_place : (p : ℕ) → p < frames_of sh → MayLoad loads_place slots id sh p (sits sh Idle log order)
  may_load_place p below t h size at small =
      let r = reader_may slots (LoadPlace p) Idle log order (λ n. n) sh id (lt-ltb p (frames_of sh) below) (λ n small told. refl) t h size at small in
      (r.0, r.1, r.2, r.3, λ o is. subst (λ (k : ℕ). StepsNow (LoadPlace k) (sits sh Idle log order) (get_or t.words p 0) (r.0, carried_after [] r.1)) is r.4)

  -- a pass that was told a place may load the word of the frame named
  pub may_load_frame : (aim : Aim) (failures : ℕ)
      → MayLoad (StepsAt LoadFrame) slots id sh (frame_word_at (frames_of sh) aim.life.frame) (sits sh (Placed aim failures) log order)
  may_load_frame aim failures t h size at small =
      let r = reader_may slots LoadFrame (Placed aim failures) log order (λ n. n) sh id refl (λ n small told. refl) t h size at small in (r.0, r.1, r.2, r.3, λ is. r.4)

  exchanged : (n c : ℕ) (b : Bool) → eqb n c ≡ b → either b (c + 1) n ≡ cond b (n + 1) n
  exchanged n c true is = let e : n ≡ c = eqb-true n c is in ap (λ (m : ℕ). m + 1) (sym e)
  exchanged n c false is = refl

  -- a pass that was told a frame word may exchange it for one more
  pub may_exchange : (aim : Aim) (failures count loaded : ℕ) → loaded ≡ frame_word aim.life.generation count
      → MayExchange (StepsAt Exchange) slots id loaded (loaded + 1) sh (frame_word_at (frames_of sh) aim.life.frame) (sits sh (Counted aim failures count) log order)
  may_exchange aim failures count loaded is =
      subst (λ (w : ℕ). MayExchange (StepsAt Exchange) slots id w (w + 1) sh (frame_word_at (frames_of sh) aim.life.frame) (sits sh (Counted aim failures count) log order))
      (sym is) (λ t h size at small.
      let w : ℕ = frame_word aim.life.generation count in
      let r = reader_may slots Exchange (Counted aim failures count) log order (λ n. either (eqb n w) (w + 1) n) sh id refl
      (λ n small told. exchanged n w (eqb n w) refl) t h size at small in
      (r.0, r.1, r.2, r.3, λ is. r.4))

  -- a pass that holds may take one from the frame word
  pub may_leave : (aim : Aim) (known : List (Option ℕ))
      → MaySubOne (StepsAt Leave) slots id sh (frame_word_at (frames_of sh) aim.life.frame) (sits sh (Held aim known) log order)
  may_leave aim known t h size at small =
      let r = reader_may slots Leave (Held aim known) log order (λ n. (n + (2 ^ 64 - 1)) % 2 ^ 64) sh id refl
      (λ n small told. one_less_word n told small) t h size at small in (r.0, r.1, r.2, r.3, λ is. r.4)

  -- a pass that holds a frame may load each word of its page
  pub may_load_word : (aim : Aim) (known : List (Option ℕ)) (i : ℕ) → i < PAGE_WORDS → MayLoad loads_word slots id sh (content_at (frames_of sh) aim.life.frame i) (sits sh (Held aim known) log order)
  may_load_word aim known i below t h size at small = let r = reader_may slots (LoadWord i) (Held aim known) log order (λ n. n) sh id (lt-ltb i PAGE_WORDS below) (λ n small told. refl) t h size at small in
      (r.0, r.1, r.2, r.3, λ j within is. let same : i ≡ j = omega arith in subst (λ (k : ℕ). StepsNow (LoadWord k) (sits sh (Held aim known) log order) (get_or t.words (content_at (frames_of sh) aim.life.frame i) 0) (r.0, carried_after [] r.1)) same r.4)
