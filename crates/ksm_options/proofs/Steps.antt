-- The steps of clap's walk over `--NAME` and `--NAME=TEXT`.
use Rattle.std.proofs.Common.{◌≡◌, ◌∙◌, ap, refl, codes, false, List, [], ◌∷◌, ◌++◌, Option, Some, None}
use Rattle.clap.specs.Kinds.{Kinds, or_else, value_kinds}
use Rattle.clap.specs.Faults.{settle_fault, repeat_fault, turn_fault}
use Rattle.clap.specs.Simple.{Shape, built}
use Rattle.clap.specs.Walk.{Held, Row, Rule, Text, Walk, option, settled, settled_rows, walk_from, walked, at_row, with_values}
use Rattle.clap.specs.declared.parser.matches.ValueSource.TheVariants.{CommandLine}
use Rattle.clap.specs.declared.builder.value_parser.Reading.TheVariants.{AsWritten}
use Rattle.clap.specs.declared.builder.value_parser.ValueParser.TheVariants.{Unsigned}
use Rattle.clap.proofs.OnLiterals.{clap_on_literals}
use Rattle.ksm_options.specs.CommandLine.{ksmbook}
use Rattle.ksm_options.specs.Settings.{Setting, Nodes, Frames, Passes, Tries, LastGeneration, Given, flag, most_of, name_of}

-- the shape of the program's command
abbrev pub shape : Shape
shape = (built ksmbook).top

-- the rules of the options of the program's command
abbrev pub rules : List Rule
rules = shape.rules

-- the walk after `--NAME`, before the text that follows
abbrev pub waiting_for : Setting → Held → Walk
waiting_for s h = record (walk_from (record h { pending = Some (name_of s, []) })) { waiting = option (name_of s) }

-- the parser's row for a setting that was given
abbrev pub row_for : Given → Row
row_for g = record {
  id = name_of g.0;
  values = g.1 ∷ [];
  count = None;
  source = Some CommandLine;
  reading = AsWritten;
}

-- ---- `--NAME`

-- a setting's name lets the parser wait for its value
pub name_step : (s : Setting) (h : Held) → walked rules [] (walk_from h) (flag s) ≡ waiting_for s (settled rules h)
unfolding clap_on_literals
name_step Nodes h = refl
name_step Frames h = refl
name_step Passes h = refl
name_step Tries h = refl
name_step LastGeneration h = refl

-- a setting's name makes no fault but that of what was waited for
pub name_fault : (s : Setting) (h : Held) → turn_fault shape [] (walk_from h) (flag s) ≡ or_else (settle_fault rules false h) []
unfolding clap_on_literals
name_fault Nodes h = refl
name_fault Frames h = refl
name_fault Passes h = refl
name_fault Tries h = refl
name_fault LastGeneration h = refl

-- ---- a setting that has its text is used

-- the rows with a setting's text among them
abbrev pub placed : Setting → Text → List Row → List Row
placed s text rows = with_values (name_of s) AsWritten CommandLine (text ∷ []) rows

-- the rows once the setting has the text
abbrev pub after_use : Setting → Text → List Row → List Row
after_use s text rows = placed s text (at_row (name_of s) (λ _. []) [] rows)

-- the faults of a text as the value of a setting
abbrev pub text_fault : Setting → Text → List Row → Kinds
text_fault s text rows = or_else (repeat_fault false (name_of s) rows) (or_else (value_kinds false (Unsigned 1 (most_of s)) text) [])

-- a text that was waited for makes the faults of its setting's value
pub used_fault : (s : Setting) (text : Text) (rows : List Row)
    → settle_fault rules false (record { rows = rows; pending = Some (name_of s, text ∷ []); skip = 0 }) ≡ text_fault s text rows
unfolding clap_on_literals
used_fault Nodes text rows = refl
used_fault Frames text rows = refl
used_fault Passes text rows = refl
used_fault Tries text rows = refl
used_fault LastGeneration text rows = refl

-- a text that was waited for becomes its setting's row
pub used_rows : (s : Setting) (text : Text) (rows : List Row)
    → settled_rows rules (Some (name_of s, text ∷ [])) rows ≡ after_use s text rows
unfolding clap_on_literals
used_rows Nodes text rows = refl
used_rows Frames text rows = refl
used_rows Passes text rows = refl
used_rows Tries text rows = refl
used_rows LastGeneration text rows = refl

-- ---- `--NAME=TEXT`

-- a name with its value in one word adds the setting's row
pub joined_step : (s : Setting) (text : Text) (h : Held)
    → walked rules [] (walk_from h) (flag s ++ 61 ∷ text) ≡ walk_from (record h { rows = after_use s text (settled rules h).rows; pending = None })
unfolding clap_on_literals
joined_step Nodes text h = refl
joined_step Frames text h = refl
joined_step Passes text h = refl
joined_step Tries text h = refl
joined_step LastGeneration text h = refl

-- a name with its value in one word makes the faults of what was waited for, and of that value
pub joined_fault : (s : Setting) (text : Text) (h : Held)
    → turn_fault shape [] (walk_from h) (flag s ++ 61 ∷ text) ≡ or_else (or_else (settle_fault rules false h) (text_fault s text (settled rules h).rows)) []
unfolding clap_on_literals
joined_fault Nodes text h = refl
joined_fault Frames text h = refl
joined_fault Passes text h = refl
joined_fault Tries text h = refl
joined_fault LastGeneration text h = refl

-- ---- a list of faults

-- where no fault is told of two, the first is none
pub first_none : (a b : Kinds) → or_else a b ≡ [] → a ≡ []
first_none [] b e = refl
first_none (k ∷ ks) b e = e

-- where no fault is told of two, the second is none
pub second_none : (a b : Kinds) → or_else a b ≡ [] → b ≡ []
second_none [] b e = e
second_none (k ∷ ks) b e = cc

-- where neither of two tells a fault, no fault is told
pub both_none : (a b : Kinds) → a ≡ [] → b ≡ [] → or_else a b ≡ []
both_none a b e f = ap (λ x. or_else x b) e ∙ f

-- ---- what is held between words

-- what the parser holds: rows, and what it waits for
abbrev pub held : List Row → Option (Text × List Text) → Held
held rows pending = record { rows = rows; pending = pending; skip = 0 }

-- the word of two hyphens
abbrev pub two_hyphens : Text
two_hyphens = codes "--"
