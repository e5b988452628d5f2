-- Words that tell what they should are no fault.
use Rattle.std.proofs.Common.{◌≡◌, ◌∙◌, ap, ap₂, refl, sym, subst, true, false, List, [], ◌∷◌, ◌++◌, map, Option, Some, None, Bool, ℕ, cond, ◌&&◌, ◌||◌, ◌==◌, drop, append-nil, append_assoc, arith}
use Rattle.std.specs.Option.{option_map_or}
use Rattle.std.proofs.lemmas.Bool.Decides.{nat_tests}
use Rattle.clap.specs.Faults.{bundle_fault, check_fault, fault_of, flag_word_fault, settle_fault, step_fault, turn_fault, walk_fault}
use Rattle.std.specs.Prelude.{option_and_then}
use Rattle.std.specs.Str.{bytes_eq}
use Rattle.std.specs.Str.Parse.{IsNumeral, without_leading_plus}
use Rattle.std.proofs.lemmas.List.Folds.{list_any-append}
use Rattle.clap.specs.Lexer.{long_of, long_of_rest, short_of, short_of_rest, strip_byte}
use Rattle.clap.specs.Values.{IsUnsignedIn}
use Rattle.clap.specs.Walk.{Held, Row, Step, Text, Waiting, Walk, finished, long_or_other, option, plain_word, settled_rows, short_or_plain, walk_from, walked}
use Rattle.clap.specs.declared.builder.value_parser.ValueParser.TheVariants.{Unsigned}
use Rattle.clap.specs.declared.error.kind.ErrorKind.TheVariants as kind
use Rattle.clap.proofs.OnLiterals.{clap_on_literals}
use Rattle.clap.proofs.ValueTestLemmas.{Accepts-accepts}
use Rattle.ksm_options.specs.CommandLine.{ksmbook}
use Rattle.ksm_options.specs.Settings.{AllFit, Frames, Given, IsOnce, Nodes, Setting, flag, has, is_of, most_of, name_of}
use Rattle.ksm_options.specs.Told.{Gives, Tells, apart, dashes, joined, nothing}
use Rattle.ksm_options.proofs.After.{defaults_pass, fault_is, finished_is, required_fault}
use Rattle.ksm_options.proofs.Rows.{given_is, has_rows, is_of_sym, neither, use_more}
use Rattle.ksm_options.proofs.Steps.{after_use, both_none, held, joined_fault, joined_step, name_fault, name_step, row_for, rules, shape, text_fault, two_hyphens, used_fault, used_rows, waiting_for}
use Rattle.ksm_options.proofs.Turns.{after_hyphens, hyphens_step, met, value_plain, value_step}
use Rattle.ksm_options.proofs.Walks.{end_of}

-- ---- a text that fits is no flag

no_hyphen : (x : ℕ) (xs : Text) → IsNumeral 10 (without_leading_plus (x ∷ xs)) → (x == 45) ≡ false
no_hyphen x xs h = go (x == 45) refl
  where
    at : x ≡ 45 → ⊥
    at is =
        let digits : IsNumeral 10 (without_leading_plus (45 ∷ xs)) = subst (λ y. IsNumeral 10 (without_leading_plus (y ∷ xs))) is h in
        let bad = digits.1.0 in
        absurd (omega arith)

    go : (b : Bool) → (x == 45) ≡ b → b ≡ false
    go true is = absurd (at (grind (arith, nat_tests)))
    go false is = refl

-- the text is read as it stands
record Stands (text : Text) : Type 0 where
  hyphens : bytes_eq text two_hyphens ≡ false
  long : long_of text ≡ None
  short : short_of text ≡ None

stands : (text : Text) → IsNumeral 10 (without_leading_plus text) → Stands text
stands [] h = record { hyphens = refl; long = refl; short = refl }
stands (x ∷ xs) h =
    let first = no_hyphen x xs h in
    record {
      hyphens = ap (λ b. b && bytes_eq xs (45 ∷ [])) first;
      long = ap (λ b. option_and_then long_of_rest (option_and_then (strip_byte 45) (cond b (Some xs) None))) first;
      short = ap (λ b. option_and_then short_of_rest (cond b (Some xs) None)) first;
    }

reads_plain : (waiting : Waiting) (text : Text) (h : Held) → Stands text → long_or_other rules waiting text (long_of text) h ≡ plain_word rules waiting text h
reads_plain waiting text h s = ap (λ o. long_or_other rules waiting text o h) s.long ∙ ap (λ o. short_or_plain rules waiting text o h) s.short

value_passes : (s : Setting) (rows : List Row) (text : Text) → Stands text → turn_fault shape [] (waiting_for s (held rows None)) text ≡ []
unfolding clap_on_literals
value_passes s rows text t =
    let h = held rows (Some (name_of s, [])) in
    both_none _ _ (ap (λ b. cond b [] (flag_word_fault rules false (long_of text) text h)) t.hyphens ∙ (ap (λ o. flag_word_fault rules false o text h) t.long
    ∙ ap (λ o. option_map_or (λ flags. bundle_fault rules false flags h) o []) t.short))
    (ap (λ b. step_fault shape 1 (met b (option (name_of s)) text h).0 (met b (option (name_of s)) text h).1) t.hyphens
    ∙ ap (λ (m : Held × Step). step_fault shape 1 m.0 m.1) (reads_plain (option (name_of s)) text h t ∙ value_plain s rows text))

text_passes : (s : Setting) (text : Text) (before : List Given) → has s before ≡ false → IsUnsignedIn 1 (most_of s) text → text_fault s text (map row_for before) ≡ []
text_passes s text before new fits =
    both_none _ _ (ap (λ b. cond (b && true) (kind.ArgumentConflict ∷ []) []) (has_rows s before ∙ new))
    (both_none _ [] (ap (λ b. cond b [] (kind.ValueValidation ∷ [])) (Accepts-accepts false (Unsigned 1 (most_of s)) text fits)) refl)

new_before : (g : Given) (before rest : List Given) → IsOnce (before ++ g ∷ rest) → has g.0 before ≡ false
new_before g [] rest once = refl
new_before g (b ∷ before) rest once =
    let parts = neither (has b.0 before) (is_of b.0 g || has b.0 rest) (sym (list_any-append (is_of b.0) before (g ∷ rest)) ∙ once.0) in
    let other = neither (is_of b.0 g) (has b.0 rest) parts.1 in
    ap₂ (λ x y. x || y) (is_of_sym (name_of g.0) (name_of b.0) other.0) (new_before g before rest once.1)

-- ---- the walk

-- no fault in the words, and none in what is left at their end, which holds what was given
record Passes (w : Walk) (words : List Text) (given : List Given) : Type 0 where
  walks : walk_fault shape [] w words ≡ []
  settles : settle_fault rules false (end_of w words).held ≡ []
  rows : settled_rows rules (end_of w words).held.pending (end_of w words).held.rows ≡ map row_for given

abbrev PassesFrom : List Text → List Given → Walk → Type 0
PassesFrom words given w = (before : List Given) (rows : List Row) (pending : Option (Text × List Text)) → w ≡ walk_from (held rows pending)
    → settle_fault rules false (held rows pending) ≡ [] → settled_rows rules pending rows ≡ map row_for before → IsOnce (before ++ given) → AllFit given
    → Passes w words (before ++ given)

abbrev PassesAt : List Text → List Given → Type 0
PassesAt words given = (before : List Given) (rows : List Row) (pending : Option (Text × List Text))
    → settle_fault rules false (held rows pending) ≡ [] → settled_rows rules pending rows ≡ map row_for before → IsOnce (before ++ given) → AllFit given
    → Passes (walk_from (held rows pending)) words (before ++ given)

anywhere : (words : List Text) (given : List Given) → PassesAt words given → (w : Walk) → PassesFrom words given w
anywhere words given passes w before rows pending is settles now once fit = subst (λ v. Passes v words (before ++ given)) (sym is) (passes before rows pending settles now once fit)

one_word : (w : Walk) (word : Text) (words : List Text) (given : List Given) → turn_fault shape [] w word ≡ [] → Passes (walked rules [] w word) words given → Passes w (word ∷ words) given
unfolding walk_fault
one_word w word words given turn rest = record { walks = both_none _ _ turn rest.walks; settles = rest.settles; rows = rest.rows }

end_fault : (w : Walk) → walk_fault shape [] w [] ≡ []
unfolding walk_fault
end_fault w = refl

hyphens_pass : (h : Held) → turn_fault shape [] (walk_from h) two_hyphens ≡ []
unfolding clap_on_literals
hyphens_pass h = refl

passes : (words : List Text) (given : List Given) → Gives words given → (w : Walk) → PassesFrom words given w
passes _ _ nothing = anywhere [] [] (λ before rows pending settles now once fit.
    record { walks = end_fault (walk_from (held rows pending)); settles = settles; rows = now ∙ ap (map row_for) (sym (append-nil before)) })
passes _ _ dashes = anywhere (two_hyphens ∷ []) [] (λ before rows pending settles now once fit.
    let w = walk_from (held rows pending) in
    one_word w two_hyphens [] (before ++ []) (hyphens_pass (held rows pending)) (subst (λ v. Passes v [] (before ++ [])) (sym (hyphens_step (held rows pending)))
    (record { walks = end_fault (after_hyphens w); settles = settles; rows = now ∙ ap (map row_for) (sym (append-nil before)) })))
passes _ _ (joined s text words given gives) =
    let next = passes words given gives in
    anywhere _ _ (λ before rows pending settles now once fit.
    let w = walk_from (held rows pending) in
    let word = flag s ++ 61 ∷ text in
    let new = new_before (s, text) before given once in
    let fits : text_fault s text (settled_rows rules pending rows) ≡ [] = ap (text_fault s text) now ∙ text_passes s text before new fit.0 in
    let rows_now = after_use s text (settled_rows rules pending rows) in
    let same = append_assoc before ((s, text) ∷ []) given in
    one_word w word words (before ++ (s, text) ∷ given) (joined_fault s text (held rows pending) ∙ both_none _ [] (both_none _ _ settles fits) refl)
    (subst (Passes (walked rules [] w word) words) same
    (next (walked rules [] w word) (before ++ (s, text) ∷ []) rows_now None (joined_step s text (held rows pending)) refl (ap (after_use s text) now ∙ use_more s text before new)
    (subst IsOnce (sym same) once) fit.1)))
passes _ _ (apart s text words given gives) =
    let next = passes words given gives in
    anywhere _ _ (λ before rows pending settles now once fit.
    let w = walk_from (held rows pending) in
    let rows_now = settled_rows rules pending rows in
    let new = new_before (s, text) before given once in
    let here = stands text fit.0.0 in
    let step = name_step s (held rows pending) in
    let fits : text_fault s text rows_now ≡ [] = ap (text_fault s text) now ∙ text_passes s text before new fit.0 in
    let second = value_step s rows_now text here.hyphens (reads_plain (option (name_of s)) text (held rows_now (Some (name_of s, []))) here) in
    let same = append_assoc before ((s, text) ∷ []) given in
    one_word w (flag s) (text ∷ words) _ (name_fault s (held rows pending) ∙ both_none _ [] settles refl)
    (one_word (walked rules [] w (flag s)) text words _ (ap (λ v. turn_fault shape [] v text) step ∙ value_passes s rows_now text here)
    (subst (Passes (walked rules [] (walked rules [] w (flag s)) text) words) same
    (next _ (before ++ (s, text) ∷ []) rows_now (Some (name_of s, text ∷ [])) (ap (λ v. walked rules [] v text) step ∙ second) (used_fault s text rows_now ∙ fits)
    (used_rows s text rows_now ∙ (ap (after_use s text) now ∙ use_more s text before new)) (subst IsOnce (sym same) once) fit.1))))

-- ---- the whole

-- words that tell settings make no fault
pub no_fault : (words : List Text) (given : List Given) → Tells words given → fault_of ksmbook words ≡ []
no_fault words given t =
    let all = passes (drop 1 words) given t.gives (walk_from (held [] None)) [] [] None refl refl refl t.once t.fit in
    let end = end_of (walk_from (held [] None)) (drop 1 words) in
    let rows : finished rules end.held ≡ map row_for given = finished_is (settled_rows rules end.held.pending end.held.rows) ∙ all.rows in
    let checks : check_fault shape (finished rules end.held) false ≡ [] =
    ap (λ r. check_fault shape r false) rows ∙ ap₂ required_fault (given_is Nodes given ∙ t.nodes) (given_is Frames given ∙ t.frames) in
    fault_is words ∙ both_none _ _ all.walks (both_none _ _ all.settles (both_none _ _ (defaults_pass (settled_rows rules end.held.pending end.held.rows)) checks))
