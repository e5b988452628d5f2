use Rattle.std.proofs.Common.{◌≡◌, ℕ, List, length, get_or, refl, ap, sym, ◌∙◌, arith}
use Rattle.frame_table.proofs.Names.{PassView, new_pass}
use Rattle.frame_table.proofs.worked.tables_that_were_opened.Goals as goal

pub returns-clause-one_pass : goal.returns-clause-one_pass
returns-clause-one_pass c = λ t e. (e, refl, refl)

pub returns-clause-no_pass : goal.returns-clause-no_pass
returns-clause-no_pass c = λ t k o. let n : ◌≡◌ {A = ℕ} 0 1 = ap length o.2 in omega (arith, n)

pub returns-clause-two_passes : goal.returns-clause-two_passes
returns-clause-two_passes c = λ t k o. let n : ◌≡◌ {A = ℕ} 2 1 = ap length o.2 in omega (arith, n)

pub returns-clause-a_step : goal.returns-clause-a_step
returns-clause-a_step c = λ t k o. let n : ◌≡◌ {A = ℕ} 1 0 = ap (λ (ps : List PassView). length (get_or ps 0 (new_pass t)).log) o.2 in omega (arith, n)

pub returns-clause-another_shape : goal.returns-clause-another_shape
returns-clause-another_shape c = λ t k ps two o. let n : ◌≡◌ {A = ℕ} 2 1 = sym two ∙ ap (λ s. s.passes) o.0 in omega (arith, n)

pub returns-clause-keepers_step : goal.returns-clause-keepers_step
returns-clause-keepers_step c = λ t k ps step o. let n : ◌≡◌ {A = ℕ} 1 0 = ap length (sym step ∙ ap (λ v. v.log) o.1) in omega (arith, n)
