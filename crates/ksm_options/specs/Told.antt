-- What the program's words say, and the shape that they tell (own).
use Rattle.std.specs.Prelude.{◌≡◌, ◌++◌, Some, true, List, [], ◌∷◌, codes, drop}
use Rattle.clap.specs.Words.{Text}
use Rattle.ksm_base.specs.declared.shape.Shape.{Shape}
use Rattle.ksm_options.specs.Settings.{AllFit, Frames, Given, IsOnce, LastGeneration, Nodes, Passes, Setting, Tries, flag, has, value_of}

-- the words give the settings these texts, in this order, as `--nodes 2` or as `--nodes=2`; a
-- `--` at the end gives nothing
pub data Gives : List Text → List Given → Type 0 where
  nothing : Gives [] []
  dashes : Gives (codes "--" ∷ []) []
  apart : (s : Setting) (text : Text) (words : List Text) (given : List Given) → Gives words given
      → Gives (flag s ∷ text ∷ words) ((s, text) ∷ given)
  joined : (s : Setting) (text : Text) (words : List Text) (given : List Given) → Gives words given
      → Gives ((flag s ++ 61 ∷ text) ∷ words) ((s, text) ∷ given)

-- the words after the program's name give these texts: no setting twice, each text in its range,
-- nodes and frames among them
pub record Tells (words : List Text) (given : List Given) : Type 0 where
  pub gives : Gives (drop 1 words) given
  pub once : IsOnce given
  pub fit : AllFit given
  pub nodes : has Nodes given ≡ true
  pub frames : has Frames given ≡ true

-- the words are as they should be, and each size of the shape is the number that its setting is
-- given, or else its default
pub record IsToldBy (words : List Text) (shape : Shape) : Type 0 where
  pub given : List Given
  pub tells : Tells words given
  pub nodes : value_of Nodes given ≡ Some shape.nodes
  pub frames : value_of Frames given ≡ Some shape.frames_per_node
  pub passes : value_of Passes given ≡ Some shape.passes
  pub tries : value_of Tries given ≡ Some shape.tries
  pub last_generation : value_of LastGeneration given ≡ Some shape.last_generation
