use Rattle.std.proofs.Common.{◌≡◌, ℕ, List, replicate, Option, Some, None, get_or, ap, sym, ◌∙◌, arith}
use Rattle.std.proofs.lemmas.List.{get_or-replicate}
use Rattle.std.proofs.lemmas.Option.{same_Some}
use Rattle.ksm_base.specs.declared.page.TheConstants.{PAGE_WORDS}
use Rattle.frame_table.proofs.worked.comparisons_of_a_hold.Goals as goal

pub returns-clause-unread : goal.returns-clause-unread
returns-clause-unread c = λ v w known compared.
    let first : ◌≡◌ {A = Option ℕ} None (Some 8) = sym (ap (λ (l : List (Option ℕ)). get_or l 0 None) known) ∙ compared.1 0 (omega arith) in cc (first)

pub returns-clause-another : goal.returns-clause-another
returns-clause-another c = λ v w known compared.
    let first : ◌≡◌ {A = Option ℕ} (Some 9) (Some 8) = sym (ap (λ (l : List (Option ℕ)). get_or l 0 None) known) ∙ compared.1 0 (omega arith) in cc (first)

pub returns-clause-equal : goal.returns-clause-equal
returns-clause-equal c = λ v w known compared.
    let d = compared.1 in
    let there : get_or (replicate PAGE_WORDS (Some 8)) d.0 None ≡ Some 8 = get_or-replicate PAGE_WORDS d.0 (Some 8) None d.2 in
    let word : Some 8 ≡ Some d.1 = sym there ∙ (sym (ap (λ (l : List (Option ℕ)). get_or l d.0 None) known) ∙ d.3) in
    d.4 (sym (same_Some 8 d.1 word) ∙ sym (get_or-replicate PAGE_WORDS d.0 8 0 d.2))
