use Rattle.std.proofs.Common.{◌≡◌, ℕ, List, [], ◌∷◌, length, refl, ap, ◌∙◌, arith}
use Rattle.frame_core.specs.Trace.{run_of, log_of}
use Rattle.frame_table.specs.Terms.{Event, Ledger, LoadPlace, Idle}
use Rattle.frame_table.specs.declared.view.View.TheVariants.{Reader}
use Rattle.frame_table.specs.Moments.{one, load, filler, filling, first_keeper, first_pass}
use Rattle.frame_table.specs.Views.{ReaderLog, tally_of}
use Rattle.frame_table.proofs.Unsafe.{none_done, not_idle}
use Rattle.frame_table.proofs.moments.moments_with_other_words_or_seats.Goals as goal

pub returns-clause-keepers : goal.returns-clause-keepers
returns-clause-keepers c = λ safe. (safe.keepers 0 first_pass refl).1 refl

pub returns-clause-ledger : goal.returns-clause-ledger
returns-clause-ledger c = λ safe.
    let none = none_done _ filler first_pass safe refl refl refl in
    let is = (safe.keeper one filling (tally_of 0 1) [] [] refl).1.ledger_is in
    let n : ◌≡◌ {A = ℕ} 0 1 = ap (λ (k : Ledger). length k.places) (is ∙ ap (λ (l : List Event). (run_of one l).state.ledger) none) in omega (arith, n)

pub returns-clause-log : goal.returns-clause-log
returns-clause-log c = λ safe.
    let none = none_done _ first_keeper (Reader one Idle ((LoadPlace 0, 0) ∷ []) []) safe refl refl refl in
    let is = (safe.reader 0 one Idle ((LoadPlace 0, 0) ∷ []) [] refl).2 in
    let n : ◌≡◌ {A = ℕ} 1 0 = ap (λ (l : ReaderLog). length l) (is ∙ ap (λ (l : List Event). log_of 0 (run_of one l).trace) none) in omega (arith, n)

pub returns-clause-order : goal.returns-clause-order
returns-clause-order c = λ safe.
    let is = (safe.orders 1 (Reader one Idle [] (load ∷ [])) refl).1 in
    let n : ◌≡◌ {A = ℕ} 0 1 = ap (λ (l : ReaderLog). length l) is in omega (arith, n)

pub returns-clause-given_back : goal.returns-clause-given_back
returns-clause-given_back c = not_idle
