-- A write to a word of the state is a write to one word of the list, and a read likewise.
use Rattle.std.proofs.Common.{◌≡◌, ℕ, ◌+◌, ◌-◌, ◌*◌, ◌<◌, List, [], ◌∷◌, ◌++◌, Option, None, map, length, set, get_or, replicate, zero, suc, sym, ap, ◌∙◌, refl, arith}
use Rattle.std.specs.List.{flat_map}
use Rattle.std.proofs.lemmas.List.{length-append, length-map, map-set, set-append_left, set-append_right, set-get_or, get_or-append-add, get_or_append_left, get_or-map}
use Rattle.std.proofs.Math.Nat.{suc-mul}
use Rattle.frame_core.proofs.Names.{PAGE_WORDS, Shape, frames_of, LINE_WORDS, Note, Life, State, place_word, frame_word, count_at, frame_word_of, blank, frame_at, named_at, with_frame, frame_words}
use Rattle.frame_core.proofs.Names.{line_of, page_of, pages_of, words_of, frame_word_at, content_at, Rule}

module _ {A : Type 0} where
  -- a write past the first part
  set_right : (xs ys : List A) (m n : ℕ) (v : A) → length xs ≡ m → set (xs ++ ys) (m + n) v ≡ xs ++ set ys n v
  set_right xs ys m n v e = let here : (m + n) - m ≡ n = omega arith in set-append_right xs ys m (m + n) v e (omega arith) ∙ ap (λ (k : ℕ). xs ++ set ys k v) here

-- blocks of one length, laid end to end
module _ {A : Type 0} (g : A → List ℕ) (n : ℕ) (d : A) where
  abbrev Blocks : List A → Type 0
  Blocks xs = (i : ℕ) → i < length xs → length (g (get_or xs i d)) ≡ n

  rest : (x : A) (xs : List A) → Blocks (x ∷ xs) → Blocks xs
  rest x xs blocks i below = blocks (suc i) (omega (arith, below))

  flat_set : (xs : List A) (k j v : ℕ) (y : A) → Blocks xs → k < length xs → j < n → set (g (get_or xs k d)) j v ≡ g y
      → set (flat_map g xs) (k * n + j) v ≡ flat_map g (set xs k y)
  flat_set [] k j v y blocks at below is = absurd (omega (arith, at))
  flat_set (z ∷ xs) zero j v y blocks at below is =
      let long : j < length (g z) = omega (arith, blocks 0 at, below) in
      let at_j : zero * n + j ≡ j = omega arith in
      ap (λ (m : ℕ). set (g z ++ flat_map g xs) m v) at_j ∙ (set-append_left (g z) (flat_map g xs) j v long ∙ ap (λ (w : List ℕ). w ++ flat_map g xs) is)
  flat_set (z ∷ xs) (suc k) j v y blocks at below is =
      let next : suc k * n + j ≡ n + (k * n + j) = omega (arith, suc-mul k n) in
      ap (λ (m : ℕ). set (g z ++ flat_map g xs) m v) next
      ∙ (set_right (g z) (flat_map g xs) n (k * n + j) v (blocks 0 (omega arith))
      ∙ ap (λ (w : List ℕ). g z ++ w) (flat_set xs k j v y (rest z xs blocks) (omega (arith, at)) below is))

  flat_get : (xs : List A) (k j : ℕ) → Blocks xs → k < length xs → j < n → get_or (flat_map g xs) (k * n + j) 0 ≡ get_or (g (get_or xs k d)) j 0
  flat_get [] k j blocks at below = absurd (omega (arith, at))
  flat_get (z ∷ xs) zero j blocks at below =
      let long : j < length (g z) = omega (arith, blocks 0 at, below) in
      let at_j : zero * n + j ≡ j = omega arith in
      ap (λ (m : ℕ). get_or (g z ++ flat_map g xs) m 0) at_j ∙ get_or_append_left (g z) (flat_map g xs) 0 j long
  flat_get (z ∷ xs) (suc k) j blocks at below =
      let next : suc k * n + j ≡ length (g z) + (k * n + j) = omega (arith, suc-mul k n, blocks 0 (omega arith)) in
      ap (λ (m : ℕ). get_or (g z ++ flat_map g xs) m 0) next
      ∙ (get_or-append-add (g z) (flat_map g xs) (k * n + j) 0 ∙ flat_get xs k j (rest z xs blocks) (omega (arith, at)) below)

  flat_long : (xs : List A) → Blocks xs → length (flat_map g xs) ≡ length xs * n
  flat_long [] blocks = omega arith
  flat_long (z ∷ xs) blocks =
      omega (arith, length-append (g z) (flat_map g xs), blocks 0 (omega arith), flat_long xs (rest z xs blocks), suc-mul (length xs) n)

-- an element that is exchanged for one with the same block
flat_same : {A : Type 0} (g : A → List ℕ) (xs : List A) (f : ℕ) (y d : A) → g y ≡ g (get_or xs f d) → flat_map g (set xs f y) ≡ flat_map g xs
flat_same g [] f y d same = refl
flat_same g (z ∷ zs) zero y d same = ap (λ (w : List ℕ). w ++ flat_map g zs) same
flat_same g (z ∷ zs) (suc f) y d same = ap (λ (w : List ℕ). g z ++ w) (flat_same g zs f y d same)

-- ---------------------------------------------------------------- frame words

words_long : (notes : List Note) (counts : List ℕ) → length counts ≡ length notes → length (frame_words notes counts) ≡ length notes
words_long [] counts e = refl
words_long (n ∷ notes) [] e = absurd (omega arith)
words_long (n ∷ notes) (c ∷ counts) e = ap suc (words_long notes counts (omega arith))

words_get : (notes : List Note) (counts : List ℕ) (f : ℕ) → length counts ≡ length notes
    → get_or (frame_words notes counts) f 0 ≡ frame_word (get_or notes f blank).generation (get_or counts f 0)
words_get [] [] f e = refl
words_get [] (c ∷ counts) f e = absurd (omega arith)
words_get (n ∷ notes) [] f e = absurd (omega arith)
words_get (n ∷ notes) (c ∷ counts) zero e = refl
words_get (n ∷ notes) (c ∷ counts) (suc f) e = words_get notes counts f (omega arith)

words_set : (notes : List Note) (counts : List ℕ) (f : ℕ) (n : Note) (c : ℕ) → length counts ≡ length notes
    → set (frame_words notes counts) f (frame_word n.generation c) ≡ frame_words (set notes f n) (set counts f c)
words_set [] counts f n c e = refl
words_set (m ∷ notes) [] f n c e = absurd (omega arith)
words_set (m ∷ notes) (b ∷ counts) zero n c e = refl
words_set (m ∷ notes) (b ∷ counts) (suc f) n c e = ap (λ (l : List ℕ). frame_word m.generation b ∷ l) (words_set notes counts f n c (omega arith))

-- ---------------------------------------------------------------- the words of a state

-- a word that is written as it was leaves the words as they were
pub as_it_was : (s : State) (i n : ℕ) → get_or (words_of s) i 0 ≡ n → set (words_of s) i n ≡ words_of s
as_it_was s i n is = ap (set (words_of s) i) (sym is) ∙ set-get_or (words_of s) i 0

module _ (sh : Shape) (s : State) (rule : Rule sh s) where
  abbrev F : ℕ
  F = frames_of sh

  abbrev places : List ℕ
  places = map place_word s.ledger.places

  abbrev words : List ℕ
  words = frame_words s.ledger.frames s.counts

  abbrev lines : List ℕ
  lines = flat_map line_of words

  abbrev pages : List ℕ
  pages = flat_map page_of s.ledger.frames

  same_long : length s.counts ≡ length s.ledger.frames
  same_long = rule.count_count ∙ sym rule.frame_count

  places_long : length places ≡ F
  places_long = length-map s.ledger.places place_word ∙ rule.place_count

  all_words : length words ≡ F
  all_words = words_long s.ledger.frames s.counts same_long ∙ rule.frame_count

  lines_long : length lines ≡ F * LINE_WORDS
  lines_long = flat_long line_of LINE_WORDS 0 words (λ i below. refl) ∙ ap (λ (n : ℕ). n * LINE_WORDS) all_words

  pages_fit : (i : ℕ) → i < length s.ledger.frames → length (get_or s.ledger.frames i blank).content ≡ PAGE_WORDS
  pages_fit i below = (rule.frames i (omega (arith, below, rule.frame_count))).content

  -- the word of the frame f stands where its frame word lies
  pub word_get : (f : ℕ) → f < F → get_or (words_of s) (frame_word_at F f) 0 ≡ frame_word_of s f
  word_get f below =
      let moved : frame_word_at F f ≡ length places + (f * LINE_WORDS + 0) = omega (arith, places_long) in
      ap (λ (m : ℕ). get_or (words_of s) m 0) moved
      ∙ (get_or-append-add places (lines ++ pages_of s.ledger.frames) (f * LINE_WORDS + 0) 0
      ∙ (get_or_append_left lines (pages_of s.ledger.frames) 0 (f * LINE_WORDS + 0) (omega (arith, below, lines_long))
      ∙ (flat_get line_of LINE_WORDS 0 words f 0 (λ i below. refl) (omega (arith, below, all_words)) (omega arith)
      ∙ words_get s.ledger.frames s.counts f same_long)))

  -- the content word i of the frame f stands at the place i of that frame's page
  pub content_get : (f i : ℕ) → f < F → i < PAGE_WORDS → get_or (words_of s) (content_at F f i) 0 ≡ get_or (frame_at s.ledger f).content i 0
  content_get f i below inside =
      let n : ℕ = f * PAGE_WORDS + i in
      let moved : content_at F f i ≡ length places + (length lines + (LINE_WORDS + n)) = omega (arith, places_long, lines_long) in
      ap (λ (m : ℕ). get_or (words_of s) m 0) moved
      ∙ (get_or-append-add places (lines ++ pages_of s.ledger.frames) (length lines + (LINE_WORDS + n)) 0
      ∙ (get_or-append-add lines (pages_of s.ledger.frames) (LINE_WORDS + n) 0
      ∙ (get_or-append-add (replicate LINE_WORDS 0) pages n 0
      ∙ flat_get page_of PAGE_WORDS blank s.ledger.frames f i pages_fit (omega (arith, below, rule.frame_count)) inside)))

  -- the word of the place p stands at p
  pub place_get : (p : ℕ) → p < F → get_or (words_of s) p 0 ≡ place_word (named_at s.ledger p)
  place_get p below =
      get_or_append_left places (lines ++ pages_of s.ledger.frames) 0 p (omega (arith, below, places_long))
      ∙ get_or-map place_word s.ledger.places p None 0 (omega (arith, below, rule.place_count))

  -- a write of a frame word leaves the words of the state with that life and count, where the content stays
  pub word_set : (f v count : ℕ) (note : Note) → f < F → v ≡ frame_word note.generation count → note.content ≡ (frame_at s.ledger f).content
      → set (words_of s) (frame_word_at F f) v ≡ words_of record { ledger = with_frame s.ledger f note; counts = set s.counts f count; seats = s.seats }
  word_set f v count note below is same =
      let moved : frame_word_at F f ≡ F + (f * LINE_WORDS + 0) = omega arith in
      let new : set words f v ≡ frame_words (set s.ledger.frames f note) (set s.counts f count) =
      ap (set words f) is ∙ words_set s.ledger.frames s.counts f note count same_long in
      let others : pages ≡ flat_map page_of (set s.ledger.frames f note) = sym (flat_same page_of s.ledger.frames f note blank same) in
      ap (λ (m : ℕ). set (words_of s) m v) moved
      ∙ (set_right places (lines ++ pages_of s.ledger.frames) F (f * LINE_WORDS + 0) v places_long
      ∙ (ap (λ (w : List ℕ). places ++ w) (set-append_left lines (pages_of s.ledger.frames) (f * LINE_WORDS + 0) v (omega (arith, below, lines_long)))
      ∙ λ i. places ++ ((flat_set line_of LINE_WORDS 0 words f 0 v v (λ i below. refl) (omega (arith, below, all_words)) (omega arith) refl ∙ ap (flat_map line_of) new) i
      ++ (replicate LINE_WORDS 0 ++ others i))))

  -- a write of a frame word leaves the words of the state with that life, where count and content stay
  pub note_set : (f v : ℕ) (note : Note) → f < F → v ≡ frame_word note.generation (count_at s f) → note.content ≡ (frame_at s.ledger f).content
      → set (words_of s) (frame_word_at F f) v ≡ words_of record { ledger = with_frame s.ledger f note; counts = s.counts; seats = s.seats }
  note_set f v note below is same = word_set f v (count_at s f) note below is same
      ∙ ap (λ (c : List ℕ). words_of record { ledger = with_frame s.ledger f note; counts = c; seats = s.seats }) (set-get_or s.counts f 0)

  -- a write of a frame word leaves the words of the state with that count, where the life stays
  pub count_set : (f v count : ℕ) → f < F → v ≡ frame_word (frame_at s.ledger f).generation count
      → set (words_of s) (frame_word_at F f) v ≡ words_of (record s { counts = set s.counts f count })
  count_set f v count below is = word_set f v count (frame_at s.ledger f) below is refl
      ∙ ap (λ (n : List Note). words_of record { ledger = record { frames = n; places = s.ledger.places }; counts = set s.counts f count; seats = s.seats })
      (set-get_or s.ledger.frames f blank)

  -- a write of a content word leaves the words of the state with that content, where the life stays
  pub content_set : (f i v : ℕ) (note : Note) → f < F → i < PAGE_WORDS → set (frame_at s.ledger f).content i v ≡ note.content
      → note.generation ≡ (frame_at s.ledger f).generation → set (words_of s) (content_at F f i) v ≡ words_of (record s { ledger = with_frame s.ledger f note })
  content_set f i v note below inside is same =
      let n : ℕ = f * PAGE_WORDS + i in
      let moved : content_at F f i ≡ F + (F * LINE_WORDS + (LINE_WORDS + n)) = omega arith in
      let old : frame_word note.generation (count_at s f) ≡ get_or words f 0 =
      ap (λ (g : ℕ). frame_word g (count_at s f)) same ∙ sym (words_get s.ledger.frames s.counts f same_long) in
      let frames : words ≡ frame_words (set s.ledger.frames f note) s.counts =
      sym (ap (set words f) old ∙ set-get_or words f 0) ∙ (words_set s.ledger.frames s.counts f note (count_at s f) same_long
      ∙ ap (frame_words (set s.ledger.frames f note)) (set-get_or s.counts f 0)) in
      ap (λ (m : ℕ). set (words_of s) m v) moved
      ∙ (set_right places (lines ++ pages_of s.ledger.frames) F (F * LINE_WORDS + (LINE_WORDS + n)) v places_long
      ∙ (ap (λ (w : List ℕ). places ++ w) (set_right lines (pages_of s.ledger.frames) (F * LINE_WORDS) (LINE_WORDS + n) v lines_long)
      ∙ (ap (λ (w : List ℕ). places ++ (lines ++ w)) (set_right (replicate LINE_WORDS 0) pages LINE_WORDS n v refl)
      ∙ λ j. places ++ (flat_map line_of (frames j) ++ (replicate LINE_WORDS 0
      ++ flat_set page_of PAGE_WORDS blank s.ledger.frames f i v note pages_fit (omega (arith, below, rule.frame_count)) inside is j)))))

  -- a frame that is known otherwise, in the same life and with the same content, has the same words
  pub words_same : (f : ℕ) (note : Note) → f < F → note.generation ≡ (frame_at s.ledger f).generation → note.content ≡ (frame_at s.ledger f).content
      → words_of s ≡ words_of record { ledger = with_frame s.ledger f note; counts = s.counts; seats = s.seats }
  words_same f note below life same =
      sym (set-get_or (words_of s) (frame_word_at F f) 0)
      ∙ note_set f (get_or (words_of s) (frame_word_at F f) 0) note below (word_get f below ∙ ap (λ (g : ℕ). frame_word g (count_at s f)) (sym life)) same

  -- a write of a place's word leaves the words of the state with that place, where all frames keep their words
  pub place_set : (p : ℕ) (place : Option Life) (notes : List Note) → p < F → words_of s ≡ words_of (record s { ledger = record s.ledger { frames = notes } })
      → set (words_of s) p (place_word place) ≡ words_of (record s { ledger = record { frames = notes; places = set s.ledger.places p place } })
  place_set p place notes below same =
      let others : List ℕ = flat_map line_of (frame_words notes s.counts) ++ pages_of notes in
      ap (λ (w : List ℕ). set w p (place_word place)) same
      ∙ (set-append_left places others p (place_word place) (omega (arith, below, places_long))
      ∙ ap (λ (w : List ℕ). w ++ others) (sym (map-set place_word s.ledger.places p place)))
