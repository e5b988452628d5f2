-- What an audit by some passes replies.
use Rattle.ksm_script.proofs.Names.{[], All, All-head, ap, Audit, Audited, AuditedBy, Book, false, length, List, Memory, PassView, Refused, Row, subst, sym, TableName, ℕ, ◌==◌, ◌∙◌, ◌∷◌, ◌≡◌, ◌≢◌}

-- passes that are told not to be none are some
some : (n : ℕ) → false ≡ (n == 0) → n ≢ 0
some n told e = let h : false ≡ (0 == 0) = told ∙ ap (λ (k : ℕ). k == 0) e in absurd cc

-- an audit by some passes of a table
pub audited_all : (t : TableName) (n : ℕ) (passes : List PassView) (rows : List Row) (back : List PassView) → false ≡ (n == 0) → n ≡ length passes
    → All (λ (p : PassView). p.table ≡ t) passes → Audited t.shape passes rows back → AuditedBy passes (Audit rows) back
audited_all t n [] rows back told count own done = absurd (some n told count)
audited_all t n (v ∷ passes) rows back told count own done =
    let head : v.table ≡ t = All-head (λ (p : PassView). p.table ≡ t) v passes own in
    subst (λ (u : TableName). Audited u.shape (v ∷ passes) rows back) (sym head) done

-- want of memory for an audit by some passes
pub refused_all : (n : ℕ) (passes back : List PassView) → false ≡ (n == 0) → n ≡ length passes → back ≡ passes → AuditedBy passes (Refused (Book Memory)) back
refused_all n [] back told count is = absurd (some n told count)
refused_all n (v ∷ passes) back told count is = is
