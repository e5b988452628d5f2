-- The settings of the program, and the texts that words give them (own).
use Rattle.std.specs.Prelude.{◌≡◌, ◌++◌, ⊤, ℕ, Bool, true, false, List, [], ◌∷◌, Option, Some, None, codes, find, option_map}
use Rattle.std.specs.List.{list_any}
use Rattle.std.specs.Str.{bytes_eq}
use Rattle.std.specs.Str.Parse.{digits_value, without_leading_plus}
use Rattle.clap.specs.Values.{IsUnsignedIn}
use Rattle.ksm_base.specs.declared.limits.TheConstants.{MOST_FRAMES_PER_NODE, MOST_LIVES, MOST_NODES, MOST_PASSES, MOST_TRIES}
use Rattle.clap.specs.Words.{Text}

-- ---- a setting

-- what can be set, each by an option of its name
pub data Setting : Type 0 where
  Nodes : Setting
  Frames : Setting
  Passes : Setting
  Tries : Setting
  LastGeneration : Setting

-- the name of a setting's option
abbrev pub name_of : Setting → Text
name_of Nodes = codes "nodes"
name_of Frames = codes "frames"
name_of Passes = codes "passes"
name_of Tries = codes "tries"
name_of LastGeneration = codes "last-generation"

-- the range of a setting is 1 to this
abbrev pub most_of : Setting → ℕ
most_of Nodes = MOST_NODES
most_of Frames = MOST_FRAMES_PER_NODE
most_of Passes = MOST_PASSES
most_of Tries = MOST_TRIES
most_of LastGeneration = MOST_LIVES

-- what a setting is where no word gives it; a setting with none of these has to be given
abbrev pub default_of : Setting → Option ℕ
default_of Nodes = None
default_of Frames = None
default_of Passes = Some 2
default_of Tries = Some 8
default_of LastGeneration = Some MOST_LIVES

-- the settings that have to be given
abbrev pub is_required : Setting → Bool
is_required Nodes = true
is_required Frames = true
is_required _ = false

-- the word that names a setting: `--nodes`
abbrev pub flag : Setting → Text
flag s = codes "--" ++ name_of s

-- ---- the texts that settings are given

-- a setting with the text that it is given
abbrev pub Given : Type 0
Given = Setting × Text

-- the text is given to this setting
abbrev pub is_of : Setting → Given → Bool
is_of s g = bytes_eq (name_of g.0) (name_of s)

-- the setting is among those given
abbrev pub has : Setting → List Given → Bool
has s given = list_any (is_of s) given

-- no setting is given twice
abbrev pub IsOnce : List Given → Type 0
IsOnce [] = ⊤
IsOnce (g ∷ rest) = (has g.0 rest ≡ false) × IsOnce rest

-- each text is a decimal number in the setting's range; zeros or a plus sign may stand before it
abbrev pub AllFit : List Given → Type 0
AllFit [] = ⊤
AllFit (g ∷ rest) = IsUnsignedIn 1 (most_of g.0) g.1 × AllFit rest

-- ---- the number that a setting gets

-- the number that a text writes
abbrev pub number : Text → ℕ
number text = digits_value 10 (without_leading_plus text)

-- the first of two, or the second where the first is none
abbrev pub or_default : Option ℕ → Option ℕ → Option ℕ
or_default (Some n) default = Some n
or_default None default = default

-- the text that the setting is given
abbrev pub text_of : Setting → List Given → Option Text
text_of s given = option_map (λ g. g.1) (find (is_of s) given)

-- the number that the setting is given, or else its default
abbrev pub value_of : Setting → List Given → Option ℕ
value_of s given = or_default (option_map number (text_of s given)) (default_of s)
