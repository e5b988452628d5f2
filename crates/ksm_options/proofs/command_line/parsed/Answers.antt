use Rattle.std.proofs.Common.{ap, refl, true, map, string_bytes, ◌≡◌, ◌∙◌, subst, Ok, Err, Result, List, [], IfOk, IfErr, inl, inr}
use Rattle.clap.specs.Words.{FailsBy, HasMatchesOf, fault_of, found_of, is_simple, kind_of, one_text}
use Rattle.clap.specs.Faults.{is_simple_and_free}
use Rattle.clap.specs.Kinds.{HasKind}
use Rattle.clap.specs.Walk.{Text, one_of}
use Rattle.clap.specs.declared.error.Error.{Error}
use Rattle.clap.specs.declared.error.kind.ErrorKind.TheVariants.{OutOfMemory}
use Rattle.clap.specs.declared.parser.matches.ArgMatches.{ArgMatches}
use Rattle.clap.proofs.OnLiterals.{clap_on_literals}
use Rattle.clap.proofs.WalkLemmas.{one_text-rows}
use Rattle.ksm_options.specs.CommandLine.{ksmbook}
use Rattle.ksm_options.specs.Settings.{Given, Setting, name_of, text_of}
use Rattle.ksm_options.specs.Told.{Tells}
use Rattle.ksm_options.proofs.After.{told}
use Rattle.ksm_options.proofs.Rows.{one_is}
use Rattle.ksm_options.proofs.Taken.{no_fault}
use Rattle.ksm_options.proofs.command_line.parsed.Goals as goal

is_simple_app : is_simple ksmbook ≡ true
unfolding clap_on_literals
is_simple_app = refl

is_free_app : is_simple_and_free ksmbook ≡ true
unfolding clap_on_literals
is_free_app = refl

-- what an `Ok` tells, where its rows are clap's and it comes only with no fault
told_by : (words : List Text) (r : Result ArgMatches Error) → IfOk r (HasMatchesOf ksmbook words) → FailsBy (fault_of ksmbook words) r
    → IfOk r (λ m. (given : List Given) × Tells words given × ((s : Setting) → one_text (found_of m) (name_of s) ≡ text_of s given))
told_by words (Ok m) has none =
    let all = told words none in
    (all.0, all.1, λ s. one_text-rows (found_of m) (name_of s) ∙ (ap (one_of (name_of s)) ((has is_simple_app).0 ∙ all.2) ∙ one_is s all.0))
told_by words (Err e) has kinds = tt

memory_by : (words : List Text) (r : Result ArgMatches Error) → FailsBy (fault_of ksmbook words) r
    → IfErr r (λ e. (given : List Given) → Tells words given → kind_of e ≡ OutOfMemory)
memory_by words (Ok m) none = tt
memory_by words (Err e) kinds = λ given tells. only e (subst (λ k. HasKind k e) (no_fault words given tells) kinds)
  where
    only : (e : Error) → HasKind [] e → kind_of e ≡ OutOfMemory
    only e (inl memory) = memory
    only e (inr bad) = absurd bad

pub returns-clause-told : goal.returns-clause-told
returns-clause-told c =
    let is = c.in_ok-command.ensures in
    let words = map string_bytes c.args.words.now in
    told_by words c.try_get_matches_from.result (subst (λ a. IfOk c.try_get_matches_from.result (HasMatchesOf a words)) is c.try_get_matches_from.ensures.matches)
    (subst (λ a. FailsBy (fault_of a words) c.try_get_matches_from.result) is (c.try_get_matches_from.ensures.kinds (ap is_simple_and_free is ∙ is_free_app)))

pub returns-clause-memory : goal.returns-clause-memory
returns-clause-memory c =
    let is = c.in_ok-command.ensures in
    let words = map string_bytes c.args.words.now in
    memory_by words c.try_get_matches_from.result
    (subst (λ a. FailsBy (fault_of a words) c.try_get_matches_from.result) is (c.try_get_matches_from.ensures.kinds (ap is_simple_and_free is ∙ is_free_app)))
