-- The program's command line in the words of `clap` (own).
use Rattle.std.specs.Prelude.{ℕ, Some, codes, true}
use Rattle.clap.specs.Words.{App, Rule, Text, new_app, new_rule, with_rule}
use Rattle.clap.specs.declared.builder.action.ArgAction.TheVariants.{Set}
use Rattle.clap.specs.declared.builder.value_parser.ValueParser.TheVariants.{Unsigned}
use Rattle.ksm_options.specs.Settings.{Frames, LastGeneration, Nodes, Passes, Setting, Tries, is_required, most_of, name_of}

-- the option `--NAME N`, where N is 1 to the most
abbrev pub number_rule : Text → ℕ → Rule
number_rule name most = record (new_rule name) {
  long = Some name;
  action = Some Set;
  parser = Some (Unsigned 1 most);
  value_names = 1;
}

-- the same option, which has to be given
abbrev pub required_rule : Text → ℕ → Rule
required_rule name most = record (number_rule name most) { required = true }

-- the option of a setting
abbrev pub rule_for : Setting → Rule
rule_for s = record (number_rule (name_of s) (most_of s)) { required = is_required s }

-- the command line: the five settings, and clap's own `--help`
abbrev pub ksmbook : App
ksmbook =
    with_rule (with_rule (with_rule (with_rule (with_rule (new_app (codes "ksmbook"))
    (rule_for Nodes)) (rule_for Frames)) (rule_for Passes)) (rule_for Tries))
    (rule_for LastGeneration)
