-- Where clap finds no fault in the words, they give the settings texts, which its rows hold.
use Rattle.std.proofs.Common.{◌≡◌, ◌∙◌, ◌⊎◌, ap, refl, sym, subst, false, List, [], ◌∷◌, ◌++◌, map, Option, Some, None, inl, inr, append-nil, append_assoc}
use Rattle.std.specs.Prelude.{⊤}
use Rattle.std.specs.List.{fold}
use Rattle.clap.specs.Kinds.{or_else}
use Rattle.clap.specs.Faults.{settle_fault, turn_fault, walk_fault}
use Rattle.clap.specs.Walk.{Waiting, idle, Held, Row, Text, Walk, option, settled_rows, walk_from, walked}
use Rattle.ksm_options.specs.Settings.{AllFit, Given, IsOnce, Setting, flag, has, name_of}
use Rattle.ksm_options.specs.Told.{Gives, apart, dashes, joined, nothing}
use Rattle.ksm_options.proofs.Rows.{fit_more, once_more, text_fits, text_is_new, use_more}
use Rattle.ksm_options.proofs.Steps.{after_use, first_none, held, joined_fault, joined_step, name_fault, name_step, row_for, rules, second_none, shape, text_fault, two_hyphens, used_fault, used_rows}
use Rattle.ksm_options.proofs.Steps.{waiting_for}
use Rattle.ksm_options.proofs.Turns.{after_hyphens, hyphens_step, idle_turn, no_more, value_turn, waiting_fault, waiting_hyphens}

-- the rows stand for what was given so far, each setting once and in its range
pub record Settled (given : List Given) (rows : List Row) : Type 0 where
  pub rows_are : rows ≡ map row_for given
  pub once : IsOnce given
  pub fit : AllFit given

-- the rest of the words gives texts, and the rows at the end stand for all that was given
pub record Reads (before : List Given) (words : List Text) (end : Walk) : Type 0 where
  pub given : List Given
  pub gives : Gives words given
  pub at_end : Settled (before ++ given) (settled_rows rules end.held.pending end.held.rows)

-- where a walk along words ends
abbrev pub end_of : Walk → List Text → Walk
end_of w words = fold (walked rules []) w words

abbrev ReadsFrom : List Text → Walk → Type 0
ReadsFrom words w = (before : List Given) (rows : List Row) (pending : Option (Text × List Text)) → w ≡ walk_from (held rows pending)
    → (settle_fault rules false (held rows pending) ≡ [] → Settled before (settled_rows rules pending rows))
    → walk_fault shape [] w words ≡ [] → settle_fault rules false (end_of w words).held ≡ [] → Reads before words (end_of w words)

abbrev AllRead : List Text → Type 0
AllRead words = (w : Walk) → ReadsFrom words w

abbrev TailRead : List Text → Type 0
TailRead [] = ⊤
TailRead (word ∷ words) = AllRead words

-- it is enough to read from a walk that is written out
abbrev ReadsAt : List Text → Type 0
ReadsAt words = (before : List Given) (rows : List Row) (pending : Option (Text × List Text))
    → (settle_fault rules false (held rows pending) ≡ [] → Settled before (settled_rows rules pending rows))
    → walk_fault shape [] (walk_from (held rows pending)) words ≡ [] → settle_fault rules false (end_of (walk_from (held rows pending)) words).held ≡ []
    → Reads before words (end_of (walk_from (held rows pending)) words)

anywhere : (words : List Text) → ReadsAt words → AllRead words
anywhere words read w before rows pending is =
    subst (λ v. (settle_fault rules false (held rows pending) ≡ [] → Settled before (settled_rows rules pending rows))
    → walk_fault shape [] v words ≡ [] → settle_fault rules false (end_of v words).held ≡ [] → Reads before words (end_of v words)) (sym is) (read before rows pending)

-- the walk over one more word
faults_here : (w : Walk) (word : Text) (words : List Text) → walk_fault shape [] w (word ∷ words) ≡ [] → turn_fault shape [] w word ≡ []
unfolding walk_fault
faults_here w word words e = first_none _ _ e

faults_after : (w : Walk) (word : Text) (words : List Text) → walk_fault shape [] w (word ∷ words) ≡ [] → walk_fault shape [] (walked rules [] w word) words ≡ []
unfolding walk_fault
faults_after w word words e = second_none _ _ e

-- nothing follows `--`
ends_here : (h : Held) (waiting : Waiting) (words : List Text) (w : Walk) → w ≡ after_hyphens (record (walk_from h) { waiting = waiting }) → walk_fault shape [] w words ≡ [] → words ≡ []
ends_here h waiting [] w is e = refl
ends_here h waiting (word ∷ words) w is e =
    let bad = sym (no_more h waiting word) ∙ (ap (λ v. turn_fault shape [] v word) (sym is) ∙ faults_here w word words e) in
    cc

-- ---- the end, and `--`

-- nothing more is given
no_more_given : (before : List Given) (words : List Text) (end : Walk) → Gives words [] → Settled before (settled_rows rules end.held.pending end.held.rows) → Reads before words end
no_more_given before words end gives now =
    record { given = []; gives = gives; at_end = subst (λ g. Settled g (settled_rows rules end.held.pending end.held.rows)) (sym (append-nil before)) now }

read_none : AllRead []
read_none = anywhere [] (λ before rows pending now faults ends. no_more_given before [] (walk_from (held rows pending)) nothing (now ends))

read_hyphens : (words : List Text) → AllRead (two_hyphens ∷ words)
read_hyphens words = anywhere (two_hyphens ∷ words) (λ before rows pending now faults ends.
    let after = faults_after (walk_from (held rows pending)) two_hyphens words faults in
    let last : words ≡ [] = ends_here (held rows pending) idle words _ (hyphens_step (held rows pending)) after in
    at words (sym last) before rows pending now ends)
  where
    at : (words : List Text) → [] ≡ words → (before : List Given) (rows : List Row) (pending : Option (Text × List Text))
        → (settle_fault rules false (held rows pending) ≡ [] → Settled before (settled_rows rules pending rows))
        → settle_fault rules false (end_of (walk_from (held rows pending)) (two_hyphens ∷ words)).held ≡ []
        → Reads before (two_hyphens ∷ words) (end_of (walk_from (held rows pending)) (two_hyphens ∷ words))
    at words none before rows pending now ends =
        subst (λ ws. settle_fault rules false (end_of (walk_from (held rows pending)) (two_hyphens ∷ ws)).held ≡ []
        → Reads before (two_hyphens ∷ ws) (end_of (walk_from (held rows pending)) (two_hyphens ∷ ws))) none
        (λ e. subst (λ v. settle_fault rules false v.held ≡ [] → Reads before (two_hyphens ∷ []) v) (sym (hyphens_step (held rows pending)))
        (λ f. no_more_given before (two_hyphens ∷ []) (after_hyphens (walk_from (held rows pending))) dashes (now f)) e) ends

-- ---- a text that a setting is given

one_more : (s : Setting) (text : Text) (before : List Given) (rows now : List Row) → Settled before rows → now ≡ after_use s text rows → text_fault s text rows ≡ []
    → Settled (before ++ (s, text) ∷ []) now
one_more s text before rows now was is e =
    let f : text_fault s text (map row_for before) ≡ [] = ap (text_fault s text) (sym was.rows_are) ∙ e in
    let new : has s before ≡ false = text_is_new s text before f in
    record {
      rows_are = is ∙ (ap (after_use s text) was.rows_are ∙ use_more s text before new);
      once = once_more s text before was.once new;
      fit = fit_more s text before was.fit (text_fits s text rows e);
    }

-- what follows is read after what the words gave before
given_more : (s : Setting) (text : Text) (before : List Given) (words all : List Text) (end : Walk) → ((given : List Given) → Gives words given → Gives all ((s, text) ∷ given))
    → Reads (before ++ (s, text) ∷ []) words end → Reads before all end
given_more s text before words all end gives rest = record {
  given = (s, text) ∷ rest.given;
  gives = gives rest.given rest.gives;
  at_end = subst (λ g. Settled g (settled_rows rules end.held.pending end.held.rows)) (append_assoc before ((s, text) ∷ []) rest.given) rest.at_end;
}

read_joined : (s : Setting) (text : Text) (words : List Text) → AllRead words → AllRead ((flag s ++ 61 ∷ text) ∷ words)
read_joined s text words next = anywhere _ (λ before rows pending now faults ends.
    let w = walk_from (held rows pending) in
    let word = flag s ++ 61 ∷ text in
    let here : or_else (or_else (settle_fault rules false (held rows pending)) (text_fault s text (settled_rows rules pending rows))) [] ≡ [] =
    sym (joined_fault s text (held rows pending)) ∙ faults_here w word words faults in
    let both = first_none _ [] here in
    let settles = first_none _ (text_fault s text (settled_rows rules pending rows)) both in
    let fits = second_none (settle_fault rules false (held rows pending)) _ both in
    let rows_now = after_use s text (settled_rows rules pending rows) in
    given_more s text before words (word ∷ words) _ (λ given g. joined s text words given g)
    (next (walked rules [] w word) (before ++ (s, text) ∷ []) rows_now None (joined_step s text (held rows pending))
    (λ _. one_more s text before (settled_rows rules pending rows) rows_now (now settles) refl fits) (faults_after w word words faults) ends))

read_apart : (s : Setting) (words : List Text) → TailRead words → AllRead (flag s ∷ words)
read_apart s [] tail = anywhere _ (λ before rows pending now faults ends.
    let bad = sym (waiting_fault s (settled_rows rules pending rows)) ∙ (ap (λ (v : Walk). settle_fault rules false v.held) (sym (name_step s (held rows pending))) ∙ ends) in
    absurd (cc))
read_apart s (text ∷ words) next = anywhere _ (λ before rows pending now faults ends.
    let w = walk_from (held rows pending) in
    let rows_now = settled_rows rules pending rows in
    let here : or_else (settle_fault rules false (held rows pending)) [] ≡ [] = sym (name_fault s (held rows pending)) ∙ faults_here w (flag s) (text ∷ words) faults in
    let was = now (first_none _ [] here) in
    let step = name_step s (held rows pending) in
    let after = faults_after w (flag s) (text ∷ words) faults in
    let turn : turn_fault shape [] (waiting_for s (held rows_now None)) text ≡ [] = ap (λ v. turn_fault shape [] v text) (sym step) ∙ faults_here _ text words after in
    let second = ap (λ v. walked rules [] v text) step in
    let rest = faults_after _ text words after in
    at before rows_now (walked rules [] (walked rules [] w (flag s)) text) was second (value_turn s rows_now text turn) rest ends)
  where
    at : (before : List Given) (rows : List Row) (v : Walk) → Settled before rows → v ≡ walked rules [] (waiting_for s (held rows None)) text
        → ((text ≡ two_hyphens) ⊎ (walked rules [] (waiting_for s (held rows None)) text ≡ walk_from (held rows (Some (name_of s, text ∷ [])))))
        → walk_fault shape [] v words ≡ [] → settle_fault rules false (end_of v words).held ≡ [] → Reads before (flag s ∷ text ∷ words) (end_of v words)
    at before rows v was is (inl hyphens) faults ends =
        let stands = is ∙ (ap (walked rules [] (waiting_for s (held rows None))) hyphens ∙ waiting_hyphens s (held rows None)) in
        let last : words ≡ [] = ends_here (held rows (Some (name_of s, []))) (option (name_of s)) words v stands faults in
        let bad = sym (waiting_fault s rows) ∙ (ap (λ (u : Walk). settle_fault rules false u.held) (sym stands) ∙ (ap (λ ws. settle_fault rules false (end_of v ws).held) (sym last) ∙ ends)) in
        absurd (cc)
    at before rows v was is (inr step) faults ends =
        given_more s text before words (flag s ∷ text ∷ words) (end_of v words) (λ given g. apart s text words given g)
        (next v (before ++ (s, text) ∷ []) rows (Some (name_of s, text ∷ [])) (is ∙ step)
        (λ e. one_more s text before rows _ was (used_rows s text rows) (sym (used_fault s text rows) ∙ e)) faults ends)

read_word : (word : Text) (words : List Text) → AllRead words → TailRead words → AllRead (word ∷ words)
read_word word words next tail = anywhere _ (λ before rows pending now faults ends.
    which rows pending (idle_turn rows pending word (faults_here _ word words faults)) (walk_from (held rows pending)) before rows pending refl now faults ends)
  where
    named : (s : Setting) → ((word ≡ flag s) ⊎ ((text : Text) × (word ≡ flag s ++ 61 ∷ text))) → AllRead (word ∷ words)
    named s (inl is) = subst (λ x. AllRead (x ∷ words)) (sym is) (read_apart s words tail)
    named s (inr is) = subst (λ x. AllRead (x ∷ words)) (sym is.1) (read_joined s is.0 words next)

    which : (rows : List Row) (pending : Option (Text × List Text)) → ((word ≡ two_hyphens)
        ⊎ ((s : Setting) × (settle_fault rules false (held rows pending) ≡ []) × ((word ≡ flag s) ⊎ ((text : Text) × (word ≡ flag s ++ 61 ∷ text))))) → AllRead (word ∷ words)
    which rows pending (inl is) = subst (λ x. AllRead (x ∷ words)) (sym is) (read_hyphens words)
    which rows pending (inr x) = named x.0 x.2

read_all : (words : List Text) → AllRead words × TailRead words
read_all [] = (read_none, tt)
read_all (word ∷ words) =
    let rest = read_all words in
    (read_word word words rest.0 rest.1, rest.0)

-- where a walk along the words finds no fault, the words give texts, and the walk's rows hold those texts
pub words_read : (words : List Text) → walk_fault shape [] (walk_from (held [] None)) words ≡ [] → settle_fault rules false (end_of (walk_from (held [] None)) words).held ≡ []
    → Reads [] words (end_of (walk_from (held [] None)) words)
words_read words faults ends = (read_all words).0 _ [] [] None refl (λ _. record { rows_are = refl; once = tt; fit = tt }) faults ends
