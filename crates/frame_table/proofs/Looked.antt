-- Lists read by `slice_get`, by `get_elem?` and by `get_or`.
use Rattle.std.proofs.Common.{◌≡◌, ◌≢◌, ℕ, zero, suc, List, [], ◌∷◌, Option, Some, None, get_or, set, slice_get, ap, sym, subst, ⊎_elim}
use Rattle.std.proofs.lemmas.Option.{get_or_from_slice_get}
use mathlib.Core.Option.{some, some-injective, some-ne-none}
use lib.ListN.{get_elem?}
use Rattle.atomic_table.proofs.Lists.{at_set}

module _ {A : Type 0} where
  -- what `get_elem?` finds, `slice_get` finds
  pub got : (xs : List A) (i : ℕ) (x : A) → get_elem? xs i ≡ some x → slice_get xs i ≡ Some x
  got [] i x e = absurd (some-ne-none x (sym e))
  got (y ∷ ys) zero x e = ap Some (some-injective y x e)
  got (y ∷ ys) (suc i) x e = got ys i x e

  -- an element that is found as `Some`, where the default is None, is in the list
  pub there : (xs : List (Option A)) (i : ℕ) (x : A) → get_or xs i None ≡ Some x → slice_get xs i ≡ Some (Some x)
  there [] i x e = absurd (cc (e))
  there (y ∷ ys) zero x e = ap Some e
  there (y ∷ ys) (suc i) x e = there ys i x e

  -- a property of each element at its place is kept by a write of an element that has the property there
  pub each_put : (P : ℕ → A → Type 0) (xs : List A) (i : ℕ) (a : A) → P i a → ((j : ℕ) (b : A) → j ≢ i → get_elem? xs j ≡ some b → P j b)
      → (j : ℕ) (b : A) → get_elem? (set xs i a) j ≡ some b → P j b
  each_put P xs i a here there j b at = ⊎_elim (λ (k : (j ≡ i) × (a ≡ b)). subst (λ (x : ℕ × A). P x.0 x.1) (λ t. (sym k.0 t, k.1 t)) here)
      (λ (k : (j ≢ i) × (get_elem? xs j ≡ some b)). there j b k.0 k.1) (at_set xs i j a b at)

-- an element that `get_elem?` finds is what is read there with a default
pub found_at : (xs : List ℕ) (i x : ℕ) → get_elem? xs i ≡ some x → x ≡ get_or xs i 0
found_at xs i x e = sym (get_or_from_slice_get xs i x 0 (got xs i x e))
