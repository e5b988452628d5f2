-- Bytes are read as a line exactly where they write it.
use Rattle.ksm_lines.proofs.Names.{[], all_knobs, all_shown, ap, append-nil, AreWritten, arith, Bool, bytes_eq, bytes_eq-Decides, cond, content, Err, false, Form, form_in, Gives, guest, IfErr, IfOk}
use Rattle.ksm_lines.proofs.Names.{IsLine, IsOf, IsWritten, Kind, kind_of, Knob, knob, knob_name, knob_of, left_out, Line, line_at, line_of, LineFault, List, list_all, ltb, made}
use Rattle.ksm_lines.proofs.Names.{named_in, None, number, Ok, Option, Part, read, refl, Result, Shown, shown, shown_name, shown_of, Some, sym, Told, true}
use Rattle.ksm_lines.proofs.Names.{values, Values, visits, ℕ, ◌++◌, ◌>>=◌, ◌^◌, ◌∙◌, ◌∷◌, ◌≡◌, ◌≢◌}
use Rattle.ksm_lines.proofs.Numbers.{number_again, number_takes}

-- values that are there and equal are equal
pub some_is : {A : Type 0} (x y : A) → Some x ≡ Some y → x ≡ y
some_is x y e = cc

-- where more was made of what was read, it was read
pub bound : {A B : Type 0} (o : Option A) (then : A → Option B) (b : B) → (o >>= then) ≡ Some b → (a : A) × (o ≡ Some a) × (then a ≡ Some b)
bound None then b e = absurd cc
bound (Some a) then b e = (a, refl, e)

-- ---- one word

-- the name of a knob is read as that knob
knob_read : (named : Knob) → knob_of (knob_name named) ≡ Some named
knob_read named = grind arith

-- the name of what is shown is read as that
shown_read : (named : Shown) → shown_of (shown_name named) ≡ Some named
shown_read named = grind arith

-- the word that writes what is told is read as that
pub word_read : (kind : Kind) (told : Told kind) (word : List ℕ) → IsWritten kind told word → read kind word ≡ Some told
word_read guest n word h = rw (h.1, number_again (2 ^ 16) n (omega arith) h.0) refl
word_read number n word h = rw (h.1, number_again (2 ^ 32) n (omega arith) h.0) refl
word_read visits told word h = rw (h.3, h.1, number_again (2 ^ 32) h.0 (omega arith) h.2) refl
word_read content page word h = h
word_read knob named word h = ap knob_of h ∙ knob_read named
word_read shown named word h = ap shown_of h ∙ shown_read named

-- what is found by its name has that name
pub name_is : {A : Type 0} (name_of : A → List ℕ) (all : List A) (name : List ℕ) (found : A) → named_in name_of all name ≡ Some found → name ≡ name_of found
name_is name_of [] name found e = absurd cc
name_is name_of (x ∷ xs) name found e =
    elim (bytes_eq name (name_of x)) as (λ b. (b ≡ true → name ≡ name_of x) → cond b (Some x) (named_in name_of xs name) ≡ Some found → name ≡ name_of found) [
      | true ↦ λ same h. same refl ∙ ap name_of (some_is x found h)
      | false ↦ λ same h. name_is name_of xs name found h
    ] (bytes_eq-Decides name (name_of x)).0 e

-- what has the name of none of some things is found by none
none_named : {A : Type 0} (name_of : A → List ℕ) (all : List A) (word : List ℕ) → ((found : A) → word ≢ name_of found) → named_in name_of all word ≡ None
none_named {A = A} name_of all word none = go (named_in name_of all word) refl
  where
    go : (o : Option A) → named_in name_of all word ≡ o → o ≡ None
    go None is = refl
    go (Some found) is = absurd (none found (name_is name_of all word found is))

begun_by_none : {A : Type 0} (name_of : A → List ℕ) (all : List A) (word : List ℕ) → ((found : A) (left : List ℕ) → word ≢ name_of found ++ left) → named_in name_of all word ≡ None
begun_by_none name_of all word none = none_named name_of all word (λ found is. none found [] (is ∙ sym (append-nil (name_of found))))

-- what no name of a knob begins is read as no knob
pub no_knob : (word : List ℕ) → ((named : Knob) (left : List ℕ) → word ≢ knob_name named ++ left) → knob_of word ≡ None
no_knob = begun_by_none knob_name all_knobs

-- and so of what is shown
pub no_shown : (word : List ℕ) → ((named : Shown) (left : List ℕ) → word ≢ shown_name named ++ left) → shown_of word ≡ None
no_shown = begun_by_none shown_name all_shown

abbrev pub above_space : ℕ → Bool
above_space byte = ltb 32 byte

-- the name of what is shown has no space, and nothing before it
pub shown_above : (named : Shown) → list_all above_space (shown_name named) ≡ true
shown_above named = grind arith

-- a word with such a byte is not shown
pub not_shown : (word : List ℕ) → list_all above_space word ≡ false → shown_of word ≡ None
not_shown word e = none_named shown_name all_shown word (λ named is. cc (sym e ∙ ap (list_all above_space) is ∙ shown_above named))

-- a word that is read writes what it tells
pub word_written : (kind : Kind) (told : Told kind) (word : List ℕ) → read kind word ≡ Some told → IsWritten kind told word
word_written guest n word e = number_takes (2 ^ 16) word n (omega arith) e
word_written number n word e = number_takes (2 ^ 32) word n (omega arith) e
word_written visits told word e =
    let n = bound (read number word) (λ n. Some (Some n)) told e in
    let is = number_takes (2 ^ 32) word n.0 (omega arith) n.1 in
    (n.0, sym (some_is (Some n.0) told n.2), is.0, is.1)
word_written content page word e = e
word_written knob named word e = name_is knob_name all_knobs word named e
word_written shown named word e = name_is shown_name all_shown word named e

-- ---- the words of a line

-- words that write values are read as these
pub values_read : (parts : List Part) (told : Values parts) (words : List (List ℕ)) → AreWritten parts told words → values parts words ≡ Some told
values_read [] told [] h = refl
values_read [] told (w ∷ ws) h = absurd h
values_read (part ∷ parts) told [] h = rw (h.0, values_read parts told.1 [] h.1) refl
values_read (part ∷ parts) told (w ∷ ws) h = rw (word_read (kind_of part) told.0 w h.0, values_read parts told.1 ws h.1) refl

step : {A B : Type 0} (o : Option A) (words : List (List ℕ)) (later : List (List ℕ) → Option B) (told : A × B)
    → (let first : Option (A × List (List ℕ)) = o >>= (λ a. Some (a, words)) in first >>= λ next. later next.1 >>= λ b. Some (next.0, b)) ≡ Some told → (o ≡ Some told.0) × (later words ≡ Some told.1)
step None words later told e = absurd cc
step {A = A} {B = B} (Some a) words later told e =
    let pair = λ (b : B). let both : A × B = (a, b) in Some both in
    let b = bound (later words) pair told e in
    let same : (a, b.0) ≡ told = some_is (a, b.0) told b.2 in
    (ap (λ (t : A × B). Some t.0) same, b.1 ∙ ap (λ (t : A × B). Some t.1) same)

-- words that are read as values write these
pub values_written : (parts : List Part) (told : Values parts) (words : List (List ℕ)) → values parts words ≡ Some told → AreWritten parts told words
values_written [] told [] e = tt
values_written [] told (w ∷ ws) e = absurd cc
values_written (part ∷ parts) told [] e =
    let both = step (left_out (kind_of part)) [] (values parts) told e in (both.0, values_written parts told.1 [] both.1)
values_written (part ∷ parts) told (w ∷ ws) e =
    let both = step (read (kind_of part) w) ws (values parts) told e in
    (word_written (kind_of part) told.0 w both.0, values_written parts told.1 ws both.1)

-- words are read as the line that they are
pub line_again : (line : Line) (words : List (List ℕ)) → IsLine line words → line_at words ≡ Some line
line_again line [] h = absurd h
line_again line (name ∷ words) h = of (form_in name) h
  where
    of : (o : Option Form) → IsOf line o words → (o >>= λ form. line_of form words) ≡ Some line
    of None h = absurd h
    of (Some form) h = rw (values_read form.1 h.0 words h.2) (ap (λ (l : Line). Some l) h.1)

-- words that are read as a line are that line
pub line_takes : (line : Line) (words : List (List ℕ)) → line_at words ≡ Some line → IsLine line words
line_takes line [] e = absurd cc
line_takes line (name ∷ words) e = of (form_in name) e
  where
    of : (o : Option Form) → (o >>= λ form. line_of form words) ≡ Some line → IsOf line o words
    of None e = absurd cc
    of (Some form) e =
        let told = bound (values form.1 words) (λ told. Some (made form.1 form.2 told)) line e in
        (told.0, some_is _ _ told.2, values_written form.1 told.0 words told.1)

-- ---- both, of a call

-- a reader that gives what the words are read as gives the line that they are
pub given_written : (r : Result Line LineFault) (words : List (List ℕ)) → Gives r (line_at words) → IfOk r (λ line. IsLine line words)
given_written (Ok line) words h = line_takes line words h
given_written (Err f) words h = tt

-- and each line that they are
pub written_given : (r : Result Line LineFault) (words : List (List ℕ)) → Gives r (line_at words) → (line : Line) → IsLine line words → r ≡ Ok line
written_given (Ok found) words h line w = ap (λ (l : Line). Ok l) (some_is found line (sym h ∙ line_again line words w))
written_given (Err f) words h line w = absurd (cc (sym h ∙ line_again line words w))

-- and where it gives none, they are none
pub none_given : (r : Result Line LineFault) (words : List (List ℕ)) → Gives r (line_at words) → IfErr r (λ fault. (line : Line) → ¬ (IsLine line words))
none_given (Ok found) words h = tt
none_given (Err f) words h = λ line w. cc (sym h ∙ line_again line words w)
