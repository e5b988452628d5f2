-- The place of a key in a list whose keys do not fall: what stands in front of it and behind, what an insert and a removal there
-- leave, and how the others move for these.
use Rattle.ksm_order.proofs.Names.{[], add-one, All, AllPairs, ap, append-nil, append_assoc, AreInOrder, arith, Bool, copy_within, drop, drop-drop, drop-take, drop_all, drop_more, false, filter}
use Rattle.ksm_order.proofs.Names.{filter-append, filter_all, filter_none, find, find-append, find_nothing, get_or, get_or-drop, get_or-take, get_or_default, insert, IsHere, IsPlace, length}
use Rattle.ksm_order.proofs.Names.{length-append, length-drop, length-take-le, List, list_any, list_any_at, list_any_none, ltb-true, nat_lt, nat_tests, not, refl, remove, set, set_at, Some, sym, take}
use Rattle.ksm_order.proofs.Names.{take-append-drop, take-append-le, take-append_seam, take-suc, ℕ, ◌++◌, ◌+◌, ◌-◌, ◌<◌, ◌==◌, ◌∙◌, ◌∷◌, ◌≡◌, ◌≤◌}
use Rattle.ksm_order.proofs.Ordered.{numbers_ordered, with_rises, without_between}

-- whether an element comes before a key, comes behind it, or is of it
abbrev pub low : {X : Type 0} → (X → ℕ) → ℕ → X → Bool
low key_of key y = nat_lt (key_of y) key

abbrev pub high : {X : Type 0} → (X → ℕ) → ℕ → X → Bool
high key_of key y = nat_lt key (key_of y)

abbrev pub is_it : {X : Type 0} → (X → ℕ) → ℕ → X → Bool
is_it key_of key y = key_of y == key

module _ {X : Type 0} {key_of : X → ℕ} {key : ℕ} {xs : List X} {at : ℕ} where
  module _ (place : IsPlace key_of key xs at) where
    -- all in front of the place come before the key, and no other does
    pub in_front : All (λ x. key_of x < key) (take at xs)
    in_front k d lt = grind (arith, place.within, place.ahead k d, get_or-take at xs k d, length-take-le at xs)

    pub from_there : All (λ x. key ≤ key_of x) (drop at xs)
    from_there k d lt = grind (arith, place.behind (at + k) d, get_or-drop at xs k d, length-drop at xs)

    -- where the element there is not of the key, none is
    pub none_there : AreInOrder key_of xs → ((d : X) → at < length xs → is_it key_of key (get_or xs at d) ≡ false) → All (λ x. is_it key_of key x ≡ false) xs
    none_there rise differs k d lt =
        grind (arith, nat_tests, place.ahead k d, place.behind k d, place.behind at d, rise at k d, differs d)

    -- the element there tells whether there is one of the key
    pub told_there : AreInOrder key_of xs → (d : X) → at < length xs → is_it key_of key (get_or xs at d) ≡ list_any (is_it key_of key) xs
    told_there rise d within = grind (arith, list_any_at, list_any_none, none_there, get_or_default)

    -- an element of a key that is not there is put in between those that come before the key and those that come behind it
    pub insert_here : (x : X) → All (λ y. is_it key_of key y ≡ false) xs → insert xs at x ≡ filter (low key_of key) xs ++ x ∷ filter (high key_of key) xs
    insert_here x absent =
        let whole = take-append-drop at xs in
        grind (
          arith,
          append-nil,
          filter-append,
          ap (filter (low key_of key)) whole,
          ap (filter (high key_of key)) whole,
          filter_all (low key_of key) (take at xs) (λ k d lt. grind (arith, nat_tests, in_front k d)),
          filter_none (low key_of key) (drop at xs) (λ k d lt. grind (arith, nat_tests, from_there k d)),
          filter_none (high key_of key) (take at xs) (λ k d lt. grind (arith, nat_tests, in_front k d)),
          filter_all (high key_of key) (drop at xs)
              (λ k d lt. grind (arith, nat_tests, from_there k d, absent (at + k) d, get_or-drop at xs k d, length-drop at xs)),
        )

  -- keys ascend, and an element of the key stands at the index
  module _ (rise : AllPairs (λ x y. key_of x < key_of y) xs) (here : IsHere key_of key xs at) (d : X) where
    abbrev it : X
    it = get_or xs at d

    pub cut_here : take at xs ++ it ∷ drop (at + 1) xs ≡ xs
    cut_here = grind (arith, here.within, drop_more xs at d, take-append-drop at xs)

    pub before_here : All (λ x. key_of x < key) (take at xs)
    before_here k e lt = grind (arith, here.within, here.is e, rise k at e, get_or-take at xs k e, length-take-le at xs)

    pub behind_here : All (λ x. key < key_of x) (drop (at + 1) xs)
    behind_here k e lt =
        grind (arith, here.is e, rise at (at + 1 + k) e, get_or-drop (at + 1) xs k e, length-drop (at + 1) xs)

    -- it is found, and taken out, there
    pub find_here : find (is_it key_of key) xs ≡ Some it
    find_here = grind (arith, nat_tests, cut_here, find-append, find_nothing, before_here)

    pub remove_here : remove xs at ≡ filter (λ y. not (is_it key_of key y)) xs
    remove_here = grind (
      arith,
      nat_tests,
      here.is d,
      ap (filter (λ y. not (is_it key_of key y))) cut_here,
      without_between numbers_ordered key_of key (take at xs) (it ∷ []) (drop (at + 1) xs)
          (λ k e lt. grind (arith, nat_tests, before_here k e)) (λ k e lt. grind (arith, nat_tests, behind_here k e)),
    )

-- a list whose keys ascend keeps them so with an element at its place
pub with_ascends : {X : Type 0} (key_of : X → ℕ) (x : X) (xs : List X) → AllPairs (λ y z. key_of y < key_of z) xs
    → AllPairs (λ y z. key_of y < key_of z) (filter (low key_of (key_of x)) xs ++ x ∷ filter (high key_of (key_of x)) xs)
with_ascends key_of x xs rise i j d less lt =
    ltb-true _ _ (with_rises numbers_ordered key_of (key_of x) x xs refl (λ k l e lower le. grind (arith, nat_tests, rise k l e)) i j d less lt)

-- one more behind a list, the elements from an index on moved up by one, and that one written there: it is put in
pub moved_up : {X : Type 0} (xs : List X) (at : ℕ) (x : X) → at ≤ length xs → set (copy_within (xs ++ x ∷ []) at (length xs) (at + 1)) at x ≡ insert xs at x
moved_up xs at x within =
    let l = xs ++ x ∷ [] in
    let many = length-append xs (x ∷ []) in
    let back : take (length xs - at) (drop at l) ≡ drop at xs =
    sym (drop-take at _ l) ∙ ap (λ n. drop at (take n l)) (omega arith) ∙ ap (drop at) (take-append_seam xs (x ∷ [])) in
    grind (arith, back, add-one at, take-suc l at x, take-append-le at xs (x ∷ []), drop_all, append-nil, append_assoc, set_at (take at xs) (get_or l at x) (drop at xs) x at (length-take-le at xs within))

-- the elements from one on turned by it, without the last: the element is taken out
pub turned_down : {X : Type 0} (xs : List X) (at : ℕ) → at < length xs
    → take (length xs - 1) (take at xs ++ (drop 1 (drop at xs) ++ take 1 (drop at xs))) ≡ remove xs at
turned_down xs at within =
    let kept = take at xs ++ drop (at + 1) xs in
    let long : length xs - 1 ≡ length kept = grind (arith, length-append (take at xs) (drop (at + 1) xs), length-take-le at xs, length-drop (at + 1) xs) in
    grind (arith, drop-drop 1 at xs, append_assoc, take-append_seam kept (take 1 (drop at xs)), add-one at)
