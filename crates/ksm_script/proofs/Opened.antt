-- What a session opens with.
use Rattle.ksm_script.proofs.Names.{[], All, All-replicate, ap, ap₂, arith, Caller, caller, fresh, get_or, Idle, length, length-append, length-replicate, List, new_pass, PassState, PassView, refl}
use Rattle.ksm_script.proofs.Names.{replicate, subst, sym, table_of, TableName, ℕ, ◌++◌, ◌∙◌, ◌∷◌, ◌≡◌}

-- a book of one caller has one share
pub one_share : (n : ℕ) (shares : List Caller) → n ≡ 1 → shares ≡ fresh n → length shares ≡ 1
one_share n shares one is = ap (λ (l : List Caller). length l) is ∙ ap (λ (k : ℕ). length (fresh k)) one

-- it has seen nothing
pub share_new : (n : ℕ) (shares left : List Caller) (share : Caller) → n ≡ 1 → shares ≡ fresh n → shares ≡ left ++ share ∷ [] → share.seen ≡ []
share_new n shares left share one is split = go left (sym split ∙ is ∙ ap fresh one)
  where
    go : (left : List Caller) → left ++ share ∷ [] ≡ caller 0 [] ∷ [] → share.seen ≡ []
    go [] e = ap (λ (l : List Caller). (get_or l 0 share).seen) e
    go (x ∷ left) e =
        let count = ap (λ (l : List Caller). length l) e in let longer = length-append left (share ∷ []) in absurd (omega (arith, count, longer))

-- the passes of a new table are new
pub are_new : (t u : TableName) (n : ℕ) (passes : List PassView) → passes ≡ replicate n (new_pass t) → u ≡ t → All (λ (p : PassView). p ≡ new_pass u) passes
are_new t u n passes is same =
    subst (All (λ (p : PassView). p ≡ new_pass u)) (sym is) (All-replicate (λ (p : PassView). p ≡ new_pass u) n (new_pass t) (ap new_pass (sym same)))

-- so many passes that hold nothing
pub are_idle : (t u : TableName) (n m : ℕ) (passes : List PassState) → passes ≡ replicate n (Idle (new_pass u)) → u ≡ t → n ≡ m → passes ≡ replicate m (Idle (new_pass t))
are_idle t u n m passes is same count = is ∙ ap₂ (λ (k : ℕ) (v : TableName). replicate k (Idle (new_pass v))) count same

-- they are of the table
pub are_own : (t : TableName) (m : ℕ) (passes : List PassState) → passes ≡ replicate m (Idle (new_pass t))
    → (length passes ≡ m) × All (λ (s : PassState). table_of s ≡ t) passes
are_own t m passes is = (
  ap (λ (l : List PassState). length l) is ∙ length-replicate m (Idle (new_pass t)),
  subst (All (λ (s : PassState). table_of s ≡ t)) (sym is) (All-replicate (λ (s : PassState). table_of s ≡ t) m (Idle (new_pass t)) refl),
)
