-- What holds of each element of a list, once the last one is taken or one is put.
use Rattle.std.proofs.Common.{◌≡◌, List, [], ◌∷◌, ◌++◌, Option, Some, sym, subst}
use Rattle.std.specs.Prelude.{All, IfSome, option_to_list}
use Rattle.std.proofs.lemmas.List.Elements.{All-append, All-pop, All-cons, All-nil}

module _ {X : Type 0} (P : X → Type 0) where
  -- what holds of each element, and of one that is put behind them, holds of all
  pub all_put : (xs ys : List X) (x : X) → ys ≡ xs ++ x ∷ [] → All P xs → P x → All P ys
  all_put xs ys x is all one = subst (All P) (sym is) (All-append P xs (x ∷ []) all (All-cons P x [] one (All-nil P)))

  -- what holds of each element holds of those that are left as the last one is taken
  pub all_left : (xs ys : List X) (r : Option X) → xs ≡ ys ++ option_to_list r → All P xs → All P ys
  all_left xs ys r is all = (All-pop P xs ys r is all).0

  -- what holds of each element holds of the one that is taken
  pub one_taken : (xs ys : List X) (r : Option X) (x : X) → xs ≡ ys ++ option_to_list r → r ≡ Some x → All P xs → P x
  one_taken xs ys r x is here all = subst (λ (o : Option X). IfSome o P) here (All-pop P xs ys r is all).1
