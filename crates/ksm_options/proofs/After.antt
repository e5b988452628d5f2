-- What clap does after the walk, and what it comes to.
use Rattle.std.proofs.Common.{◌≡◌, ◌∙◌, ap, ap₂, refl, sym, true, false, not, List, [], ◌∷◌, map, Option, Some, None, Bool, cond, ◌||◌, drop, is_some}
use Rattle.std.specs.List.{fold, list_all}
use Rattle.clap.specs.Kinds.{Kinds, or_else}
use Rattle.clap.specs.Faults.{check_fault, default_fault, defaults_fault, entered_fault, fault_of, given_default_fault, level_fault, settle_fault, walk_fault}
use Rattle.clap.specs.Simple.{built, entered, matches_of}
use Rattle.clap.specs.Walk.{Row, Rule, Text, default_rows, finished, has_row, is_empty, nothing_held, reading_by, settled, settled_rows, walk_from, with_default}
use Rattle.clap.specs.declared.error.kind.ErrorKind.TheVariants as kind
use Rattle.clap.proofs.SimpleLemmas.{is_nil}
use Rattle.clap.proofs.WalkLemmas.{both}
use Rattle.ksm_options.specs.CommandLine.{ksmbook}
use Rattle.ksm_options.specs.Settings.{Frames, Given, Nodes, has}
use Rattle.ksm_options.specs.Told.{Tells}
use Rattle.ksm_options.proofs.Rows.{given_is}
use Rattle.ksm_options.proofs.Steps.{both_none, first_none, held, row_for, rules, second_none, shape}
use Rattle.ksm_options.proofs.Walks.{end_of, words_read}

-- ---- no rule has a default

default_stays : (rows : List Row) (a : Rule) → a.defaults ≡ [] → with_default rows a ≡ rows
default_stays rows a e = go (has_row a.id rows)
  where
    go : (b : Bool) → cond b rows (default_rows a.id (reading_by a) a.defaults rows) ≡ rows
    go true = refl
    go false = ap (λ ds. default_rows a.id (reading_by a) ds rows) e

default_passes : (rows : List Row) (a : Rule) → is_empty a.defaults ≡ true → default_fault rows a ≡ []
default_passes rows a e = go (has_row a.id rows) (is_empty a.defaults) e
  where
    go : (b c : Bool) → c ≡ true → cond (b || c) [] (given_default_fault a a.defaults) ≡ []
    go true c f = refl
    go false true f = refl
    go false false f = cc

no_defaults : (rs : List Rule) → list_all (λ a. is_empty a.defaults) rs ≡ true → (rows : List Row) → (fold with_default rows rs ≡ rows) × (defaults_fault rows rs ≡ [])
unfolding defaults_fault
no_defaults [] e rows = (refl, refl)
no_defaults (a ∷ rs) e rows =
    let parts = both _ _ e in
    let stays = default_stays rows a (is_nil _ parts.0) in
    let rest = no_defaults rs parts.1 rows in (
      ap (λ now. fold with_default now rs) stays ∙ rest.0,
      both_none _ _ (default_passes rows a parts.0) (ap (λ now. defaults_fault now rs) stays ∙ rest.1),
    )

-- no option has a default that would add a row
pub finished_is : (rows : List Row) → fold with_default rows rules ≡ rows
finished_is rows = (no_defaults rules refl rows).0

-- the defaults tell no fault
pub defaults_pass : (rows : List Row) → defaults_fault rows rules ≡ []
defaults_pass rows = (no_defaults rules refl rows).1

-- ---- what is required

-- the fault where one of the two options that must be given is not
abbrev pub required_fault : Bool → Bool → Kinds
required_fault nodes frames = cond (not nodes || (not frames || false)) (kind.MissingRequiredArgument ∷ []) []

-- where no required option is missing, both are given
pub both_given : (a b : Bool) → required_fault a b ≡ [] → (a ≡ true) × (b ≡ true)
both_given true true e = (refl, refl)
both_given true false e = absurd (cc)
both_given false b e = absurd (cc)

-- ---- the whole

-- all faults of the words behind the program's name, in the order in which clap finds them
abbrev pub whole : List Text → Kinds
whole words =
    let end = end_of (walk_from (held [] None)) words in
    or_else (walk_fault shape [] (walk_from (held [] None)) words) (or_else (settle_fault rules false end.held)
    (or_else (defaults_fault (settled rules end.held).rows rules) (check_fault shape (finished rules end.held) false)))

-- clap finds the faults of the words behind the program's own name
pub fault_is : (words : List Text) → fault_of ksmbook words ≡ whole (drop 1 words)
fault_is words = go (end_of (walk_from (held [] None)) (drop 1 words)).stopped
  where
    go : (stop : Option (Text × List Text)) → level_fault shape [] nothing_held (drop 1 words) (is_some (entered (built ksmbook) stop)) (entered_fault (built ksmbook) stop) ≡ whole (drop 1 words)
    go None = refl
    go (Some p) = refl

-- where clap finds no fault, the words tell what its rows hold
pub told : (words : List Text) → fault_of ksmbook words ≡ [] → (given : List Given) × Tells words given × (matches_of ksmbook words ≡ map row_for given)
told words e =
    let end = end_of (walk_from (held [] None)) (drop 1 words) in
    let all : whole (drop 1 words) ≡ [] = sym (fault_is words) ∙ e in
    let walks = first_none _ _ all in
    let after = second_none (walk_fault shape [] (walk_from (held [] None)) (drop 1 words)) _ all in
    let settles = first_none _ _ after in
    let last = second_none (settle_fault rules false end.held) _ after in
    let checks = second_none (defaults_fault (settled rules end.held).rows rules) _ last in
    let reads = words_read (drop 1 words) walks settles in
    let rows : finished rules end.held ≡ map row_for reads.given = finished_is (settled_rows rules end.held.pending end.held.rows) ∙ reads.at_end.rows_are in
    let needs : required_fault (has Nodes reads.given) (has Frames reads.given) ≡ [] =
    sym (ap₂ required_fault (given_is Nodes reads.given) (given_is Frames reads.given)) ∙ (sym (ap (λ r. check_fault shape r false) rows) ∙ checks) in
    let given = both_given _ _ needs in
    (reads.given, record { gives = reads.gives; once = reads.at_end.once; fit = reads.at_end.fit; nodes = given.0; frames = given.1 }, rows)
