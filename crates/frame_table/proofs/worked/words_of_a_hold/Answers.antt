use Rattle.std.proofs.Common.{◌≡◌, ℕ, [], ◌∷◌, length, Option, Some, None, get_or, ap, sym, ◌∙◌, arith, length-append}
use Rattle.frame_core.specs.declared.event.ReaderStep.TheVariants.{Leave}
use Rattle.frame_table.proofs.worked.words_of_a_hold.Goals as goal

pub returns-clause-known : goal.returns-clause-known
returns-clause-known c = λ v h known looked. let first : ◌≡◌ {A = Option ℕ} (Some 8) None = ap (λ l. get_or l 0 None) (sym known ∙ looked.2) in cc (first)

pub returns-clause-another_word : goal.returns-clause-another_word
returns-clause-another_word c = λ v w known read. let n : 9 ≡ 8 = read.1 8 (ap (λ l. get_or l 1 None) known) in omega (arith, n)

pub returns-clause-left_without_a_step : goal.returns-clause-left_without_a_step
returns-clause-left_without_a_step c = λ v p same left. omega (arith, ap length same, ap length left.1.1, length-append v.log ((Leave, left.1.0) ∷ []))
