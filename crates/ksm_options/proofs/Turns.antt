-- What one word may be, where clap finds no fault.
use Rattle.std.proofs.Common.{◌≡◌, ◌∙◌, ◌⊎◌, ap, refl, sym, true, false, List, [], ◌∷◌, ◌++◌, Option, Some, None, Bool, cond, inl, inr}
use Rattle.std.specs.Str.{bytes_eq}
use Rattle.std.proofs.lemmas.Slice.Eq.{bytes_eq-Decides}
use Rattle.clap.specs.Lexer.{long_of}
use Rattle.clap.specs.Kinds.{or_else}
use Rattle.clap.specs.Faults.{flag_word_fault, settle_fault, step_fault, turn_fault}
use Rattle.clap.specs.Walk.{Row, Text, Walk, Waiting, Step, Held, after_step, idle, next, option, plain_word, long_or_other, trailing, walk_from, walked}
use Rattle.clap.specs.declared.error.kind.ErrorKind.TheVariants as kind
use Rattle.clap.proofs.OnLiterals.{clap_on_literals}
use Rattle.ksm_options.specs.Settings.{Setting, Nodes, Frames, Passes, Tries, LastGeneration, flag, name_of}
use Rattle.ksm_options.proofs.Steps.{first_none, held, rules, second_none, shape, two_hyphens, waiting_for}
use Rattle.ksm_options.proofs.AnyWord.{Reading, word_cases}

-- what the parser does with a word, waiting or idle
abbrev pub met : Bool → Waiting → Text → Held → Held × Step
met b waiting word h = cond b (h, trailing 1) (long_or_other rules waiting word (long_of word) h)

-- an idle parser takes without a fault two hyphens, or a setting's name, alone or with its value
pub idle_turn : (rows : List Row) (pending : Option (Text × List Text)) (word : Text) → turn_fault shape [] (walk_from (held rows pending)) word ≡ []
    → (word ≡ two_hyphens)
    ⊎ ((s : Setting) × (settle_fault rules false (held rows pending) ≡ []) × ((word ≡ flag s) ⊎ ((text : Text) × (word ≡ flag s ++ 61 ∷ text))))
idle_turn rows pending word e = go (bytes_eq word two_hyphens) refl e
  where
    other : Reading idle word (held rows pending) → step_fault shape 1 (met false idle word (held rows pending)).0 (met false idle word (held rows pending)).1 ≡ []
        → (s : Setting) × (settle_fault rules false (held rows pending) ≡ []) × ((word ≡ flag s) ⊎ ((text : Text) × (word ≡ flag s ++ 61 ∷ text)))
    other (inl is) f =
        let bad = sym (ap (λ (p : Held × Step). step_fault shape 1 p.0 p.1) is) ∙ f in
        cc
    other (inr is) f = is

    go : (b : Bool) → bytes_eq word two_hyphens ≡ b
        → or_else (cond b [] (flag_word_fault rules false (long_of word) word (held rows pending)))
        (step_fault shape 1 (met b idle word (held rows pending)).0 (met b idle word (held rows pending)).1) ≡ []
        → (word ≡ two_hyphens)
        ⊎ ((s : Setting) × (settle_fault rules false (held rows pending) ≡ []) × ((word ≡ flag s) ⊎ ((text : Text) × (word ≡ flag s ++ 61 ∷ text))))
    go true is f = inl ((bytes_eq-Decides word two_hyphens).0 is)
    go false is f = inr (other (word_cases idle word rows pending (first_none _ _ f)) (second_none _ _ f))

-- ---- the word after `--NAME`

-- a setting's name at the end of the words is an invalid value
pub waiting_fault : (s : Setting) (rows : List Row) → settle_fault rules false (held rows (Some (name_of s, []))) ≡ kind.InvalidValue ∷ []
waiting_fault Nodes rows = refl
waiting_fault Frames rows = refl
waiting_fault Passes rows = refl
waiting_fault Tries rows = refl
waiting_fault LastGeneration rows = refl

-- a word behind a setting's name is its text
pub value_plain : (s : Setting) (rows : List Row) (word : Text)
    → ◌≡◌ {A = Held × Step} (plain_word rules (option (name_of s)) word (held rows (Some (name_of s, [])))) (held rows (Some (name_of s, word ∷ [])), next idle)
value_plain Nodes rows word = refl
value_plain Frames rows word = refl
value_plain Passes rows word = refl
value_plain Tries rows word = refl
value_plain LastGeneration rows word = refl

-- a word behind a setting's name that is read as no flag becomes the text of the setting
pub value_step : (s : Setting) (rows : List Row) (word : Text) → bytes_eq word two_hyphens ≡ false
    → long_or_other rules (option (name_of s)) word (long_of word) (held rows (Some (name_of s, []))) ≡ plain_word rules (option (name_of s)) word (held rows (Some (name_of s, [])))
    → walked rules [] (waiting_for s (held rows None)) word ≡ walk_from (held rows (Some (name_of s, word ∷ [])))
unfolding clap_on_literals
value_step s rows word none is =
    ap (λ b. let m = met b (option (name_of s)) word (held rows (Some (name_of s, []))) in after_step rules word (waiting_for s (held rows None)) m.0 m.1) none
    ∙ ap (λ (m : Held × Step). after_step rules word (waiting_for s (held rows None)) m.0 m.1) (is ∙ value_plain s rows word)

-- a waiting parser takes without a fault two hyphens, or the text of its setting
pub value_turn : (s : Setting) (rows : List Row) (word : Text) → turn_fault shape [] (waiting_for s (held rows None)) word ≡ []
    → (word ≡ two_hyphens) ⊎ (walked rules [] (waiting_for s (held rows None)) word ≡ walk_from (held rows (Some (name_of s, word ∷ []))))
value_turn s rows word e = go (bytes_eq word two_hyphens) refl e
  where
    other : bytes_eq word two_hyphens ≡ false → Reading (option (name_of s)) word (held rows (Some (name_of s, [])))
        → walked rules [] (waiting_for s (held rows None)) word ≡ walk_from (held rows (Some (name_of s, word ∷ [])))
    other none (inl is) = value_step s rows word none is
    other none (inr is) =
        let bad = sym (waiting_fault s rows) ∙ is.1 in
        cc

    go : (b : Bool) → bytes_eq word two_hyphens ≡ b
        → or_else (cond b [] (flag_word_fault rules false (long_of word) word (held rows (Some (name_of s, [])))))
        (step_fault shape 1 (met b (option (name_of s)) word (held rows (Some (name_of s, [])))).0 (met b (option (name_of s)) word (held rows (Some (name_of s, [])))).1) ≡ []
        → (word ≡ two_hyphens) ⊎ (walked rules [] (waiting_for s (held rows None)) word ≡ walk_from (held rows (Some (name_of s, word ∷ []))))
    go true is f = inl ((bytes_eq-Decides word two_hyphens).0 is)
    go false is f = inr (other is (word_cases (option (name_of s)) word rows (Some (name_of s, [])) (first_none _ _ f)))

-- ---- `--`

-- the parser once two hyphens have come
abbrev pub after_hyphens : Walk → Walk
after_hyphens w = record w { is_trailing = true }

-- two hyphens end the options of an idle parser
pub hyphens_step : (h : Held) → walked rules [] (walk_from h) two_hyphens ≡ after_hyphens (walk_from h)
unfolding clap_on_literals
hyphens_step h = refl

-- two hyphens end the options of a waiting parser
pub waiting_hyphens : (s : Setting) (h : Held) → walked rules [] (waiting_for s h) two_hyphens ≡ after_hyphens (waiting_for s h)
unfolding clap_on_literals
waiting_hyphens s h = refl

-- a word after two hyphens is an argument that the program does not know
pub no_more : (h : Held) (waiting : Waiting) (word : Text) → turn_fault shape [] (after_hyphens (record (walk_from h) { waiting = waiting })) word ≡ kind.UnknownArgument ∷ []
unfolding clap_on_literals
no_more h waiting word = refl
