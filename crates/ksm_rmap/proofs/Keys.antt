-- The pages of a dup and their keys: what is asked and changed of the pages is asked and changed of the keys. And lists made by a map.
use Rattle.ksm_order.proofs.Names.{[], All, All-head, All-map, All-tail, AllPairs, AllPairs-cons, arith, Bool, comes_before, filter, get_or, List, list_any, map, map-append, nat_lt, nat_tests}
use Rattle.ksm_order.proofs.Names.{pairs_head, pairs_tail, refl, same_page, suc, true, ℕ, ◌<◌, ◌==◌, ◌^◌, ◌∷◌, ◌≡◌}
use Rattle.ksm_base.specs.declared.page.GuestPage.{GuestPage}
use Rattle.ksm_rmap.specs.Items.{AreAscending, has_item, with_item, without_item}
use Rattle.ksm_rmap.specs.Keys.{AreKeys, key_of, page_of, with_key, without_key}

module _ {X Y : Type 0} (g : X → Y) (p : Y → Bool) (q : X → Bool) where
  -- where two tests agree across a map, those kept of the mapped list are the images of those kept before
  pub filter_mapped : (xs : List X) → All (λ x. p (g x) ≡ q x) xs → filter p (map g xs) ≡ map g (filter q xs)
  filter_mapped [] same = refl
  filter_mapped (x ∷ xs) same =
      let rest = filter_mapped xs (λ k d lt. same (suc k) d (omega arith)) in grind (arith, same 0 x)

-- a map that takes related elements to related ones makes a list in order of a list in order
pub pairs_mapped : {X Y : Type 0} (S : X → X → Type 0) (R : Y → Y → Type 0) (P : X → Type 0) (g : X → Y) → ((a b : X) → P a → P b → S a b → R (g a) (g b)) → (xs : List X) → All P xs → AllPairs S xs → AllPairs R (map g xs)
pairs_mapped S R P g step [] all rise = λ i j d less lt. absurd (omega arith)
pairs_mapped S R P g step (x ∷ xs) all rise =
    AllPairs-cons R _ _
    (All-map (R (g x)) g xs (λ k d lt. step x (get_or xs k d) (All-head P x xs all) (all (suc k) d (omega arith))
    (pairs_head S x xs rise k d lt)))
    (pairs_mapped S R P g step xs (All-tail P x xs all) (pairs_tail S x xs rise))

-- where keys ascend, their pages do
pub pages_rise : (keys : List ℕ) → AreKeys keys → AreAscending (map page_of keys)
pages_rise keys are = pairs_mapped (λ k l. k < l) (λ p q. comes_before p q ≡ true) (λ k. k < 2 ^ 48) page_of
    (λ k l low high less. grind (arith, nat_tests)) keys are.small are.ascending

module _ (page : GuestPage) (few : page.page < 2 ^ 32) where
  -- the page of a key is a page exactly where the key is its key
  pub same_as_key : (k : ℕ) → same_page (page_of k) page ≡ (k == key_of page)
  same_as_key k = grind arith

  -- pages come before one another as their keys do
  pub before_as_key : (k : ℕ) → comes_before (page_of k) page ≡ nat_lt k (key_of page)
  before_as_key k = grind arith

  pub behind_as_key : (k : ℕ) → comes_before page (page_of k) ≡ nat_lt (key_of page) k
  behind_as_key k = grind arith

  -- a page is among the pages exactly where its key is among the keys
  pub has_by_key : (keys : List ℕ) → has_item page (map page_of keys) ≡ list_any (λ k. k == key_of page) keys
  has_by_key [] = refl
  has_by_key (k ∷ keys) = grind (arith, same_as_key k, has_by_key keys)

  -- with the key put in among the keys, they are of the pages with the page put in
  pub with_by_key : (keys : List ℕ) → map page_of (with_key (key_of page) keys) ≡ with_item page (map page_of keys)
  with_by_key keys = grind (arith, filter_mapped, before_as_key, behind_as_key, map-append)

  -- without the key, they are of the pages without the page
  pub without_by_key : (keys : List ℕ) → map page_of (without_key (key_of page) keys) ≡ without_item page (map page_of keys)
  without_by_key keys = grind (arith, filter_mapped, same_as_key)
