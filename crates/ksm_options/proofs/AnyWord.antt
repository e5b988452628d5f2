-- What any word may be, where clap finds no fault.
use Rattle.std.proofs.Common.{◌≡◌, ◌∙◌, ap, refl, sym, codes, true, false, List, [], ◌∷◌, ◌++◌, Option, Some, None, Bool, ℕ, cond, ◌||◌, inl, inr, ◌⊎◌, arith, ◌+◌, take}
use Rattle.std.specs.Prelude.{◌==◌, option_and_then, slice_get, length, drop, suc}
use Rattle.std.specs.Option.{option_map_or}
use Rattle.std.specs.Str.{bytes_eq, chars}
use Rattle.clap.specs.Lexer.{long_of, short_of, strip_byte, long_of_rest, has_byte}
use Rattle.clap.specs.Kinds.{Kinds}
use Rattle.std.proofs.lemmas.Slice.Eq.{bytes_eq-Decides}
use Rattle.clap.specs.Faults.{long_fault, settle_fault, flag_word_fault, flags_fault, bundle_fault, bundle_step_fault, short_fault}
use Rattle.std.specs.List.{position_or_len, before_first, after_first}
use Rattle.clap.specs.Walk.{long_or_other, short_or_plain, plain_word, after_flag, arg_by_short, plain, Held, Row, Rule, Text, Waiting, arg_by_long}
use Rattle.std.proofs.lemmas.Bool.Decides.{nat_tests}
use Rattle.clap.proofs.WalkLemmas.{bundle_ends}
use Rattle.clap.proofs.OnLiterals.{clap_on_literals}
use Rattle.ksm_options.specs.Settings.{Setting, Nodes, Frames, Passes, Tries, LastGeneration, flag, name_of}
use Rattle.ksm_options.proofs.Steps.{first_none, held, rules, second_none}

-- ---- `--NAME`, whatever the name is

-- what a long name comes to, by what is at it
abbrev pick : Bool → Bool → Bool → Bool → Bool → Bool → Option Rule
pick a b c d e f = cond (a || false) (arg_by_long rules (name_of Nodes)) (cond (b || false) (arg_by_long rules (name_of Frames)) (cond (c || false) (arg_by_long rules (name_of Passes))
    (cond (d || false) (arg_by_long rules (name_of Tries)) (cond (e || false) (arg_by_long rules (name_of LastGeneration)) (cond (f || false) (arg_by_long rules (codes "help")) None)))))

long_settles : (s : Setting) (v : Option Text) (h : Held) → long_fault rules false (arg_by_long rules (name_of s)) v h ≡ [] → settle_fault rules false h ≡ []
long_settles Nodes (Some v) h e = first_none _ _ e
long_settles Frames (Some v) h e = first_none _ _ e
long_settles Passes (Some v) h e = first_none _ _ e
long_settles Tries (Some v) h e = first_none _ _ e
long_settles LastGeneration (Some v) h e = first_none _ _ e
long_settles Nodes None h e = e
long_settles Frames None h e = e
long_settles Passes None h e = e
long_settles Tries None h e = e
long_settles LastGeneration None h e = e

help_fails : (v : Option Text) (h : Held) → long_fault rules false (arg_by_long rules (codes "help")) v h ≡ [] → ⊥
help_fails (Some v) h e = cc
help_fails None h e =
    let bad = second_none (settle_fault rules false h) _ e in
    cc

-- a long name that is no fault is a setting's
long_cases : (name : Text) (v : Option Text) (h : Held) → long_fault rules false (arg_by_long rules name) v h ≡ []
    → (s : Setting) × (name_of s ≡ name) × (settle_fault rules false h ≡ [])
long_cases name v h e = go (bytes_eq (codes "nodes") name) (bytes_eq (codes "frames") name) (bytes_eq (codes "passes") name) (bytes_eq (codes "tries") name)
    (bytes_eq (codes "last-generation") name) (bytes_eq (codes "help") name) refl refl refl refl refl e
  where
    at : (s : Setting) → bytes_eq (name_of s) name ≡ true → long_fault rules false (arg_by_long rules (name_of s)) v h ≡ []
        → (s : Setting) × (name_of s ≡ name) × (settle_fault rules false h ≡ [])
    at s is f = (s, (bytes_eq-Decides (name_of s) name).0 is, long_settles s v h f)

    go : (a b c d e f : Bool) → bytes_eq (codes "nodes") name ≡ a → bytes_eq (codes "frames") name ≡ b → bytes_eq (codes "passes") name ≡ c → bytes_eq (codes "tries") name ≡ d
        → bytes_eq (codes "last-generation") name ≡ e → long_fault rules false (pick a b c d e f) v h ≡ []
        → (s : Setting) × (name_of s ≡ name) × (settle_fault rules false h ≡ [])
    go true b c d e f p q r s t fault = at Nodes p fault
    go false true c d e f p q r s t fault = at Frames q fault
    go false false true d e f p q r s t fault = at Passes r fault
    go false false false true e f p q r s t fault = at Tries s fault
    go false false false false true f p q r s t fault = at LastGeneration t fault
    go false false false false false true p q r s t fault = absurd (help_fails v h fault)
    go false false false false false false p q r s t fault = cc

-- ---- `-abc`

short_fails : (c : ℕ) (rest : Text) (h : Held) (next : Held → Kinds) → short_fault rules false (arg_by_short rules c) rest h next ≡ [] → ⊥
short_fails c rest h next e = go (104 == c) e
  where
    go : (b : Bool) → short_fault rules false (cond (b || false) (arg_by_short rules 104) None) rest h next ≡ [] → ⊥
    go true f =
        let g = first_none _ _ f in
        let bad = second_none (settle_fault rules false h) _ g in
        cc
    go false f = cc

-- a word of short flags that is no fault spells no character, so it is read as any other
short_cases : (flags word : Text) (waiting : Waiting) (rows : List Row) (pending : Option (Text × List Text)) → bundle_fault rules false flags (held rows pending) ≡ []
    → short_or_plain rules waiting word (Some flags) (held rows pending) ≡ plain_word rules waiting word (held rows pending)
unfolding clap_on_literals
short_cases [] word waiting rows pending e = refl
short_cases (x ∷ xs) word waiting rows pending e = go (slice_get (chars (x ∷ xs)) 0) refl e
  where
    go : (o : Option ℕ) → slice_get (chars (x ∷ xs)) 0 ≡ o → bundle_step_fault rules false o (x ∷ xs) 0 (held rows pending) (flags_fault rules false (length xs)) ≡ []
        → short_or_plain rules waiting word (Some (x ∷ xs)) (held rows pending) ≡ plain_word rules waiting word (held rows pending)
    go None is f = ap (λ p. after_flag rules waiting word p.0 p.1) (sym (bundle_ends rules (length (x ∷ xs)) (x ∷ xs) 0 plain (held rows pending) (sym is)))
    go (Some c) is f = absurd (short_fails c _ (held rows pending) _ f)

-- ---- what a long word spells

strip_is : (word : Text) (rest : Text) → strip_byte 45 word ≡ Some rest → word ≡ 45 ∷ rest
strip_is [] rest e = cc
strip_is (x ∷ xs) rest e = go (x == 45) refl e
  where
    go : (b : Bool) → (x == 45) ≡ b → cond b (Some xs) None ≡ Some rest → x ∷ xs ≡ 45 ∷ rest
    go true is f =
        let first : x ≡ 45 = grind (arith, nat_tests) in
        cc
    go false is f = cc

split_more : (x : ℕ) (xs : Text) (p q : ℕ) → q ≡ suc p → xs ≡ take p xs ++ 61 ∷ drop (p + 1) xs → x ∷ xs ≡ take q (x ∷ xs) ++ 61 ∷ drop (q + 1) (x ∷ xs)
split_more x xs p q is e =
    let more : q + 1 ≡ suc (p + 1) = omega arith in
    rw (more, is) (ap (λ t. x ∷ t) e)

take_more : (x : ℕ) (xs : Text) (p q : ℕ) → q ≡ suc p → take p xs ≡ xs → take q (x ∷ xs) ≡ x ∷ xs
take_more x xs p q is e = rw is (ap (λ t. x ∷ t) e)

parts_are : (text : Text) → has_byte 61 text ≡ true → text ≡ before_first (λ x. x == 61) text ++ 61 ∷ after_first (λ x. x == 61) text
parts_are [] e = cc
parts_are (x ∷ xs) e = go (x == 61) refl e (parts_are xs)
  where
    go : (b : Bool) → (x == 61) ≡ b → (b || has_byte 61 xs) ≡ true → (has_byte 61 xs ≡ true → xs ≡ before_first (λ x. x == 61) xs ++ 61 ∷ after_first (λ x. x == 61) xs) → x ∷ xs ≡ before_first (λ x. x == 61) (x ∷ xs) ++ 61 ∷ after_first (λ x. x == 61) (x ∷ xs)
    go true is f more =
        let first : x ≡ 61 = grind (arith, nat_tests) in
        rw is (ap (λ y. y ∷ xs) first)
    go false is f more = split_more x xs (position_or_len (λ x. x == 61) xs) _ (rw is (omega arith)) (more f)

whole_is : (text : Text) → has_byte 61 text ≡ false → before_first (λ x. x == 61) text ≡ text
whole_is [] e = refl
whole_is (x ∷ xs) e = go (x == 61) refl e (whole_is xs)
  where
    go : (b : Bool) → (x == 61) ≡ b → (b || has_byte 61 xs) ≡ false → (has_byte 61 xs ≡ false → before_first (λ x. x == 61) xs ≡ xs) → before_first (λ x. x == 61) (x ∷ xs) ≡ x ∷ xs
    go true is f more = cc
    go false is f more = take_more x xs (position_or_len (λ x. x == 61) xs) _ (rw is (omega arith)) (more f)

-- the word that has a long name, and maybe a text after `=`
abbrev spelled : Text → Option Text → Text
spelled name None = 45 ∷ 45 ∷ name
spelled name (Some text) = 45 ∷ 45 ∷ (name ++ 61 ∷ text)

spelled_rest : (rest : Text) (p : Text × Option Text) → long_of_rest rest ≡ Some p → 45 ∷ 45 ∷ rest ≡ spelled p.0 p.1
spelled_rest [] p e = cc
spelled_rest (x ∷ xs) p e = go (has_byte 61 (x ∷ xs)) refl e
  where
    go : (b : Bool) → has_byte 61 (x ∷ xs) ≡ b → Some (before_first (λ x. x == 61) (x ∷ xs), cond b (Some (after_first (λ x. x == 61) (x ∷ xs))) None) ≡ Some p
        → 45 ∷ 45 ∷ x ∷ xs ≡ spelled p.0 p.1
    go true is f = ap (λ t. 45 ∷ 45 ∷ t) (parts_are (x ∷ xs) is) ∙ ap (λ o. option_map_or (λ (q : Text × Option Text). spelled q.0 q.1) o []) f
    go false is f = ap (λ t. 45 ∷ 45 ∷ t) (sym (whole_is (x ∷ xs) is)) ∙ ap (λ o. option_map_or (λ (q : Text × Option Text). spelled q.0 q.1) o []) f

spelled_is : (word : Text) (p : Text × Option Text) → long_of word ≡ Some p → word ≡ spelled p.0 p.1
spelled_is word p e = go (strip_byte 45 word) refl e
  where
    go2 : (rest : Text) (o : Option Text) → strip_byte 45 rest ≡ o → option_and_then long_of_rest o ≡ Some p → 45 ∷ rest ≡ spelled p.0 p.1
    go2 rest None is f = cc
    go2 rest (Some name) is f = ap (λ t. 45 ∷ t) (strip_is rest name is) ∙ spelled_rest name p f

    go : (o : Option Text) → strip_byte 45 word ≡ o → option_and_then long_of_rest (option_and_then (strip_byte 45) o) ≡ Some p → word ≡ spelled p.0 p.1
    go None is f = cc
    go (Some rest) is f = strip_is word rest is ∙ go2 rest (strip_byte 45 rest) refl f

-- ---- a word that is no fault, and not `--`

-- a word is read as one that is no flag, or is `--NAME` or `--NAME=TEXT` where what was pending settles
abbrev pub Reading : Waiting → Text → Held → Type 0
Reading waiting word h = (long_or_other rules waiting word (long_of word) h ≡ plain_word rules waiting word h)
    ⊎ ((s : Setting) × (settle_fault rules false h ≡ []) × ((word ≡ flag s) ⊎ ((text : Text) × (word ≡ flag s ++ 61 ∷ text))))

-- a word that makes no fault is read in one of the ways of the definition
pub word_cases : (waiting : Waiting) (word : Text) (rows : List Row) (pending : Option (Text × List Text))
    → flag_word_fault rules false (long_of word) word (held rows pending) ≡ [] → Reading waiting word (held rows pending)
word_cases waiting word rows pending e = go (long_of word) refl e
  where
    short : (o : Option Text) → option_map_or (λ flags. bundle_fault rules false flags (held rows pending)) o [] ≡ []
        → short_or_plain rules waiting word o (held rows pending) ≡ plain_word rules waiting word (held rows pending)
    short None f = refl
    short (Some flags) f = short_cases flags word waiting rows pending f

    long : (s : Setting) (name : Text) (v : Option Text) → name_of s ≡ name → word ≡ spelled name v → (word ≡ flag s) ⊎ ((text : Text) × (word ≡ flag s ++ 61 ∷ text))
    long s name None is f = inl (f ∙ ap (λ n. 45 ∷ 45 ∷ n) (sym is))
    long s name (Some text) is f = inr (text, f ∙ ap (λ n. 45 ∷ 45 ∷ (n ++ 61 ∷ text)) (sym is))

    go : (o : Option (Text × Option Text)) → long_of word ≡ o → flag_word_fault rules false o word (held rows pending) ≡ [] → Reading waiting word (held rows pending)
    go None is f = inl (ap (λ o. long_or_other rules waiting word o (held rows pending)) is ∙ short (short_of word) f)
    go (Some p) is f =
        let which = long_cases p.0 p.1 (held rows pending) f in
        inr (which.0, which.2, long which.0 p.0 p.1 which.1 (spelled_is word p is))
