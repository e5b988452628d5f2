-- Words, parted at each space.
use Rattle.ksm_lines.proofs.Names.{[], after_first, All, All-weaker, AllPass-from_list_all, ap, arith, before_first, Bool, cases_lt, drop, ended, eqb, eqb-true, Err, fails_before_first, false, get_or}
use Rattle.ksm_lines.proofs.Names.{Gives, GivesLast, inl, inr, is_ok, is_some, kind_of, length, LineFault, List, list_all, list_all_at, lt-ltb, ltb-true, ne_eqb, None, number, Ok, Option, Part}
use Rattle.ksm_lines.proofs.Names.{passes_at_first, position, position_or_len, read, refl, Result, slice_split_first, slice_split_none, Some, sym, take, take_rest, Told, true, values, words_left}
use Rattle.ksm_lines.proofs.Names.{words_of, ℕ, ◌+◌, ◌-◌, ◌<◌, ◌>>=◌, ◌∙◌, ◌∷◌, ◌≡◌, ◌≢◌}
use denote.Ref.{Bor}
use Rattle.ksm_lines.proofs.Names.parts
use Rattle.ksm_lines.proofs.Booleans.{is_chosen}

abbrev pub is_space : ℕ → Bool
is_space byte = eqb byte 32

-- a byte that passes a test is none that fails it
pub other : (p : ℕ → Bool) (out byte : ℕ) → p out ≡ false → p byte ≡ true → eqb byte out ≡ false
other p out byte fails passes = ne_eqb byte out (λ is. cc (sym passes ∙ ap p is ∙ fails))

-- what follows of each byte that passes a test is true of all bytes of a text that do
pub each : (p : ℕ → Bool) (P : ℕ → Type 0) (text : List ℕ) → ((byte : ℕ) → p byte ≡ true → P byte) → list_all p text ≡ true → All P text
each p P text is passes = All-weaker (λ byte. p byte ≡ true) P is text (AllPass-from_list_all p text passes)

-- a text is one word, or its first word ends at a space
pub by_space : {P : Type 0} (text : List ℕ)
    → (position_or_len is_space text < length text → words_of text ≡ before_first is_space text ∷ words_of (after_first is_space text) → P)
    → (words_of text ≡ text ∷ [] → P) → P
by_space text some none =
    elim (cases_lt (position_or_len is_space text) (length text)) [
      | inl lt ↦ some lt (slice_split_first is_space text 0 lt)
      | inr le ↦ none (slice_split_none is_space text (λ k d lt. fails_before_first is_space text k d (omega arith)))
    ]

-- a text has a first word
pub split_part : (text : List ℕ) → (first : List ℕ) × (rest : List (List ℕ)) × (words_of text ≡ first ∷ rest)
split_part text = by_space text (λ lt is. (before_first is_space text, words_of (after_first is_space text), is)) (λ is. (text, [], is))

-- a text has at least one word
pub not_ended : (text : List ℕ) → ended (words_of text) ≡ None
not_ended text = ap ended (split_part text).2

-- where a space is found, the words are what stands before the space, and the words of what is behind
pub cut_at : (text : List ℕ) (at : ℕ) → position is_space text ≡ Some at
    → words_of text ≡ take at text ∷ words_of (take (length text - (at + 1)) (drop (at + 1) text))
cut_at text at e =
    let is = is_chosen _ _ _ e in
    rw (take_rest text (at + 1), is.1) (slice_split_first is_space text 0 (ltb-true _ _ is.0))

-- where no space is found, the whole text is the one word
pub cut_none : (text : List ℕ) → position is_space text ≡ None → words_of text ≡ text ∷ []
cut_none text e =
    by_space text (λ lt is. let found : position is_space text ≡ Some (position_or_len is_space text) = rw (lt-ltb _ _ lt) refl in absurd (cc (sym e ∙ found)))
    (λ is. is)

-- a value with nothing behind it
abbrev pub alone : {A : Type 0} → Option A → Option (A × Unit {0})
alone None = None
alone (Some a) = Some (a, tt)

-- the first of a text's values, where no word is left behind
abbrev ends : {A : Type 0} → Option (A × List (List ℕ)) → Option (A × Unit {0})
ends first = first >>= λ next. ended next.1 >>= λ end. Some (next.0, end)

-- what is read as the last word of a text is read of the text, where no word with a space is read
last_text : (part : Part) (test : ℕ → Bool) (text : List ℕ) → test 32 ≡ false → ((word : List ℕ) → list_all test word ≡ false → read (kind_of part) word ≡ None)
    → values (part ∷ []) (words_of text) ≡ alone (read (kind_of part) text)
last_text part test text space none =
    by_space text (λ lt is.
    let first : is_space (get_or text (position_or_len is_space text) 0) ≡ true = passes_at_first is_space text 0 lt in
    let unread = none text (list_all_at test text (position_or_len is_space text) 0 lt (ap test (eqb-true _ 32 first) ∙ space)) in
    ap (values (part ∷ [])) is ∙ more (read (kind_of part) (before_first is_space text)) _ (not_ended (after_first is_space text)) ∙ sym (ap (λ o. alone o) unread))
    (λ is. ap (values (part ∷ [])) is ∙ one (read (kind_of part) text))
  where
    one : {A : Type 0} (o : Option A) → ends (o >>= λ told. Some (told, [])) ≡ alone o
    one None = refl
    one (Some a) = refl

    more : {A : Type 0} (o : Option A) (words : List (List ℕ)) → ended words ≡ None → ends (o >>= λ told. Some (told, words)) ≡ None
    more None words e = refl
    more (Some a) words e = rw e refl

-- a call that gives what is read of what is left, where nothing with a space is read, gives what is read as its last word
pub gives_last : (part : Part) (test : ℕ → Bool) (r : Result (Told (kind_of part)) LineFault) (left : Option (Bor (List ℕ))) (text : Bor (List ℕ)) → left ≡ Some text → test 32 ≡ false
    → ((word : List ℕ) → list_all test word ≡ false → read (kind_of part) word ≡ None) → Gives r (read (kind_of part) text.now) → GivesLast r (values (part ∷ []) (words_left left))
gives_last part test r left text is space none gives = rw (is, last_text part test text.now space none) (of r (read (kind_of part) text.now) gives)
  where
    of : {A : Type 0} (r : Result A LineFault) (o : Option A) → Gives r o → GivesLast r (alone o)
    of (Ok a) o h = rw h refl
    of (Err e) o h = rw h refl

-- ---- whether a word is read as a part, told by a call

pub is_given : {A : Type 0} (r : Result A LineFault) (o : Option A) → Gives r o → is_ok r ≡ is_some o
is_given (Ok a) o h = rw h refl
is_given (Err e) o h = rw h refl

-- of a number that is no guest's
pub is_number : (part : Part) (text : List ℕ) (r : Result ℕ LineFault) → part ≢ parts.Guest → part ≢ parts.Content → part ≢ parts.Knob → part ≢ parts.Shown
    → Gives r (read number text) → is_ok r ≡ is_some (read (kind_of part) text)
is_number part text r not_guest not_content not_knob not_shown h = of part not_guest not_content not_knob not_shown
  where
    is : is_ok r ≡ is_some (read number text)
    is = is_given r _ h

    same : (o : Option ℕ) → is_some o ≡ is_some (o >>= λ n. Some (Some n))
    same None = refl
    same (Some n) = refl

    of : (part : Part) → part ≢ parts.Guest → part ≢ parts.Content → part ≢ parts.Knob → part ≢ parts.Shown → is_ok r ≡ is_some (read (kind_of part) text)
    of parts.Guest a b c d = absurd (a refl)
    of parts.Content a b c d = absurd (b refl)
    of parts.Knob a b c d = absurd (c refl)
    of parts.Shown a b c d = absurd (d refl)
    of parts.Page a b c d = is
    of parts.Node a b c d = is
    of parts.Place a b c d = is
    of parts.Pass a b c d = is
    of parts.Value a b c d = is
    of parts.Visits a b c d = is ∙ same (read number text)
