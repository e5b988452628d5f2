-- What each step of the keeper asks of the table.
use Rattle.std.proofs.Common.{◌≡◌, ℕ, ◌+◌, ◌-◌, ◌*◌, ◌%◌, ◌^◌, ◌<◌, ◌≤◌, Bool, true, false, cond, eqb, refl, ap, sym, subst, ◌∙◌, arith}
use mathlib.Core.Option.{none as unsaid}
use prog.Atomic.{either}
use Rattle.atomic_table.specs.Table.{step, Allows}
use Rattle.frame_table.proofs.CoreNames.{COUNT_SPAN, FRAME_WORDS, MOST_LIVES, MOST_REFERENCES, PAGE_WORDS, PLACE_SPAN, Shape, frames_of, KeeperStep, Reap, Put, Raise, Open, Add, Sub, Publish, Replace}
use Rattle.frame_table.proofs.CoreNames.{Withdraw, Freeze, Word, Ledger, frame_word, life_in, frame_word_at, content_at, frame_at, MayStep}
use Rattle.frame_table.proofs.Names.{Holds, Sat, IsKeeper, shape_in, ledger_in, tally_in, keeper_log, order_in, Keeps, keeper_word, keeper_written, found_by, word_of_frame, knows, on_frame, puts}
use Rattle.frame_table.proofs.Names.{publishes, replaces, withdraws, shows}
use Rattle.frame_table.proofs.Allowed.{turned, weaker, MayLoad, MayStore, MayExchange, MayAdd, MaySubOne, one_less_word}
use Rattle.frame_table.proofs.KeeperMay.{keeper_may}

raised : (n d : ℕ) → d ≤ COUNT_SPAN → n < FRAME_WORDS → (n + d) % 18446744073709551616 ≡ n + d
raised n d few small = omega arith

named : (g f w : ℕ) → f < PLACE_SPAN → g ≤ MOST_LIVES → w ≡ (g * PLACE_SPAN + f) % 18446744073709551616 → w ≡ g * PLACE_SPAN + f
named g f w low few is = omega arith

-- of the life of a word that is there, the words with few references fit
fits : (n g c w : ℕ) → n < 18446744073709551616 → life_in n ≡ g → c ≤ MOST_REFERENCES → w ≡ frame_word g c % 18446744073709551616 → w ≡ frame_word g c
fits n g c w small life few is = omega arith

-- as the machine exchanges, and as the step says
exchanged : (b : Bool) (m n : ℕ) → either b m n ≡ cond b m n
exchanged true m n = refl
exchanged false m n = refl

-- a frame word is of one frame, and a word of a page of one page
one_frame : (F f g : ℕ) → frame_word_at F f ≡ frame_word_at F g → f ≡ g
one_frame F f g is = omega arith

one_word : (F f i g j : ℕ) → i < PAGE_WORDS → j < PAGE_WORDS → content_at F f i ≡ content_at F g j → (f ≡ g) × (i ≡ j)
one_word F f i g j below below' is = (omega arith, omega arith)

module _ (slots id : ℕ) (key sh : Shape) (me : Sat) (at : ℕ) (keeper : IsKeeper sh me) (same : key ≡ sh) where
  abbrev k : Ledger
  k = ledger_in me

  -- what an operation owes that makes of n what `write` says
  abbrev Writes : KeeperStep → (ℕ → ℕ) → Type 0
  Writes e write = (n : ℕ) → n < 18446744073709551616 → knows k e (found_by e n) → write n ≡ keeper_written k e n

  -- the operation makes the step e, and so each step that is e where it works on the same word
  makes : (e : KeeperStep) (write : ℕ → ℕ) (then : ℕ → Sat → Type 0) → at ≡ keeper_word (frames_of sh) e → MayStep sh k e → Writes e write
      → ((n : ℕ) (m : Sat) → shape_in me ≡ sh → Keeps e me (found_by e n) m → then n m) → Allows (Holds key) slots id me at write then
  makes e write then is may writes tells =
      weaker write (λ n. Keeps e me (found_by e n)) then (λ n m. tells n m (ap shape_in keeper))
      (turned (λ (key : Shape) (i : ℕ) (m : Sat). Allows (Holds key) slots id m i write (λ n. Keeps e m (found_by e n))) key sh at _ me _ same is keeper
      (keeper_may slots e write (keeper_log me) (order_in me) sh k (tally_in me) id may writes))

  -- of each frame whose word it is, the step is told: that is the one
  at_frame_word : (e : ℕ → KeeperStep) (f : ℕ) (write : ℕ → ℕ) → ((F g : ℕ) → keeper_word F (e g) ≡ frame_word_at F g) → ((g n : ℕ) → found_by (e g) n ≡ n)
      → at ≡ frame_word_at (frames_of sh) f → MayStep sh k (e f) → Writes (e f) write
      → Allows (Holds key) slots id me at write (λ n m. (g : ℕ) → at ≡ keeper_word (frames_of (shape_in me)) (e g) → Keeps (e g) me n m)
  at_frame_word e f write word found is may writes = makes (e f) write (λ n m. (g : ℕ) → at ≡ keeper_word (frames_of (shape_in me)) (e g) → Keeps (e g) me n m)
      (is ∙ sym (word (frames_of sh) f)) may writes (λ n m shape keeps g is'.
      let one : f ≡ g = one_frame (frames_of sh) f g (sym is ∙ (is' ∙ (word (frames_of (shape_in me)) g ∙ ap (λ (s : Shape). frame_word_at (frames_of s) g) shape))) in
      subst (λ (x : ℕ). Keeps (e x) me n m) one (subst (λ (w : ℕ). Keeps (e f) me w m) (found f n) keeps))

  -- the keeper may load the word of a dying frame
  pub may_reap : (f : ℕ) → at ≡ frame_word_at (frames_of sh) f → MayStep sh k (Reap f) → MayLoad (on_frame Reap) slots id key at me
  may_reap f is may = at_frame_word Reap f (λ n. n) (λ F g. refl) (λ g n. refl) is may (λ n small told. refl)

  -- the keeper may add a life to the word of a free frame
  pub may_raise : (f : ℕ) → at ≡ frame_word_at (frames_of sh) f → MayStep sh k (Raise f) → MayAdd (on_frame Raise) slots id COUNT_SPAN key at me
  may_raise f is may = at_frame_word Raise f (λ n. (n + COUNT_SPAN) % 2 ^ 64) (λ F g. refl) (λ g n. refl) is may
      (λ n small told. raised n COUNT_SPAN (omega arith) (omega (arith, told.0, told.1)))

  -- the keeper may add one to the word of a frame that it fills
  pub may_open : (f : ℕ) → at ≡ frame_word_at (frames_of sh) f → MayStep sh k (Open f) → MayAdd (on_frame Open) slots id 1 key at me
  may_open f is may = at_frame_word Open f (λ n. (n + 1) % 2 ^ 64) (λ F g. refl) (λ g n. refl) is may
      (λ n small told. raised n 1 (omega arith) (omega (arith, told.0, told.1)))

  -- the keeper may add one to the word of a frame on which it has a reference
  pub may_add : (f : ℕ) → at ≡ frame_word_at (frames_of sh) f → MayStep sh k (Add f) → MayAdd (on_frame Add) slots id 1 key at me
  may_add f is may = at_frame_word Add f (λ n. (n + 1) % 2 ^ 64) (λ F g. refl) (λ g n. refl) is may
      (λ n small told. raised n 1 (omega arith) (omega (arith, told)))

  -- the keeper may take one from the word of a frame on which it has a reference
  pub may_sub : (f : ℕ) → at ≡ frame_word_at (frames_of sh) f → MayStep sh k (Sub f) → MaySubOne (on_frame Sub) slots id key at me
  may_sub f is may = at_frame_word Sub f (λ n. (n + (2 ^ 64 - 1)) % 2 ^ 64) (λ F g. refl) (λ g n. refl) is may (λ n small told. one_less_word n told small)

  -- the keeper may exchange the word of a stable frame for one without a reference
  pub may_freeze : (f alone none : ℕ) → at ≡ frame_word_at (frames_of sh) f → MayStep sh k (Freeze f)
      → alone ≡ frame_word (frame_at k f).generation (frame_at k f).base % 2 ^ 64 → none ≡ frame_word (frame_at k f).generation 0 % 2 ^ 64
      → MayExchange (on_frame Freeze) slots id alone none key at me
  may_freeze f alone none is may is_alone is_none =
      let g = (frame_at k f).generation in
      let base = (frame_at k f).base in
      at_frame_word Freeze f (λ n. either (eqb n alone) none n) (λ F g. refl) (λ g n. refl) is may
      (λ n small told. (λ i. either (eqb n (fits n g base alone small told.0 told.1 is_alone i)) (fits n g 0 none small told.0 (omega arith) is_none i) n)
      ∙ exchanged (eqb n (frame_word g base)) (frame_word g 0) n)

  -- the same of a word of a page
  same_word : (f i g j : ℕ) → at ≡ content_at (frames_of sh) f i → i < PAGE_WORDS → j < PAGE_WORDS → shape_in me ≡ sh
      → at ≡ content_at (frames_of (shape_in me)) g j → (f ≡ g) × (i ≡ j)
  same_word f i g j is below below' shape is' =
      one_word (frames_of sh) f i g j below below' (sym is ∙ (is' ∙ ap (λ (s : Shape). content_at (frames_of s) g j) shape))

  -- the keeper may store a word of a page that it may write
  pub may_put : (f i w : ℕ) → at ≡ content_at (frames_of sh) f i → MayStep sh k (Put f i w) → MayStore puts slots id w key at me
  may_put f i w is may = makes (Put f i w) (λ n. w) (λ n. puts (step slots at w 0 unsaid) me w) is may (λ n small told. refl) (λ n m shape keeps g j below is'.
      let one = same_word f i g j is may.1 below shape is' in subst (λ (x : ℕ × ℕ). Keeps (Put x.0 x.1 w) me 0 m) (λ y. (one.0 y, one.1 y)) keeps)

  -- the keeper may load a word of a page that it may read
  pub may_show : (f i : ℕ) → at ≡ content_at (frames_of sh) f i → MayStep sh k (Word f i) → MayLoad shows slots id key at me
  may_show f i is may = makes (Word f i) (λ n. n) (shows (step slots at 0 0 unsaid) me) is may (λ n small told. refl) (λ n m shape keeps g j below is'.
      let one = same_word f i g j is may.1 below shape is' in subst (λ (x : ℕ × ℕ). Keeps (Word x.0 x.1) me n m) (λ y. (one.0 y, one.1 y)) keeps)

  -- the keeper may store to a place the word that names a frame which it may publish there
  pub may_publish : (f w : ℕ) → f < PLACE_SPAN → w ≡ word_of_frame k f % 2 ^ 64 → MayStep sh k (Publish at f) → MayStore publishes slots id w key at me
  may_publish f w low is may =
      let one : f ≡ w % PLACE_SPAN = omega arith in
      makes (Publish at f) (λ n. w) (λ n. publishes (step slots at w 0 unsaid) me w) refl may (λ n small told. named (frame_at k f).generation f w low told is)
      (λ n m shape keeps q at_q. subst (λ (x : ℕ × ℕ). Keeps (Publish x.0 x.1) me 0 m) (λ y. (at_q y, one y)) keeps)

  -- the same to a place whose frame it may replace by that one
  pub may_replace : (f w : ℕ) → f < PLACE_SPAN → w ≡ word_of_frame k f % 2 ^ 64 → MayStep sh k (Replace at f) → MayStore replaces slots id w key at me
  may_replace f w low is may =
      let one : f ≡ w % PLACE_SPAN = omega arith in
      makes (Replace at f) (λ n. w) (λ n. replaces (step slots at w 0 unsaid) me w) refl may (λ n small told. named (frame_at k f).generation f w low told is)
      (λ n m shape keeps q at_q. subst (λ (x : ℕ × ℕ). Keeps (Replace x.0 x.1) me 0 m) (λ y. (at_q y, one y)) keeps)

  -- the keeper may empty a place that is loose
  pub may_withdraw : MayStep sh k (Withdraw at) → MayStore withdraws slots id 0 key at me
  may_withdraw may = makes (Withdraw at) (λ n. 0) (λ n. withdraws (step slots at 0 0 unsaid) me 0) refl may (λ n small told. refl)
      (λ n m shape keeps q at_q. subst (λ (x : ℕ). Keeps (Withdraw x) me 0 m) at_q keeps)
