-- Lists in the order of their pages: what a search finds once one came, went or changed, and what a write at a page's place leaves.
use Rattle.ksm_pages.proofs.Names.{[], absent_parts, All, All-cons, AllPairs, ap, arith, before_irrefl, Bool, comes_before, cond, false, filter, filter_passes, find, find-append, find_mapped}
use Rattle.ksm_pages.proofs.Names.{find_nothing, find_over, find_passes, get_or, GuestPage, if◌then◌else◌, length, length-append, List, map, map_alike, None, not, Option, option_map, pages_ordered}
use Rattle.ksm_pages.proofs.Names.{pairs_head, pairs_mapped, pairs_tail, rules, same_page, same_page_eq, same_page_refl, same_page_sym, same_Some, Some, suc, sym, true, zero, ◌++◌, ◌+◌, ◌∙◌, ◌∷◌, ◌≡◌}

-- what a search finds among all it finds among those that are kept, where the one found is kept
pub find_kept : {X : Type 0} (test keep : X → Bool) (xs : List X) (o : Option X) → find test xs ≡ o
    → ((x : X) → o ≡ Some x → keep x ≡ true) → find test (filter keep xs) ≡ o
find_kept test keep [] o is kept = is
find_kept test keep (x ∷ xs) o is kept = grind (arith, find_kept test keep xs o, kept x)

-- the first that passes a test is the first that passes a narrower one, if it does
pub find_narrower : {X : Type 0} (p q : X → Bool) → ((x : X) → q x ≡ true → p x ≡ true) → (xs : List X) (x : X) → find p xs ≡ Some x
    → q x ≡ true → find q xs ≡ Some x
find_narrower p q less [] x is passes = is
find_narrower p q less (y ∷ ys) x is passes = grind (arith, less y, find_narrower p q less ys x)

module _ {X : Type 0} (key : X → GuestPage) where
  abbrev Before : X → X → Type 0
  Before a b = comes_before (key a) (key b) ≡ true

  abbrev is_of_page : GuestPage → X → Bool
  is_of_page page y = same_page (key y) page

  -- in a list in order, a search for the page of an element finds that element
  pub each_found : (xs : List X) → AllPairs Before xs → All (λ x. find (is_of_page (key x)) xs ≡ Some x) xs
  each_found [] rise = grind arith
  each_found (x ∷ xs) rise =
      All-cons (λ z. find (is_of_page (key z)) (x ∷ xs) ≡ Some z) x _
      (grind (arith, same_page_refl))
      (λ k d lt.
      let z = get_or xs k d in
      let apart = pages_ordered.apart (key x) (key z) (pairs_head Before x _ rise k d lt) in
      ap (λ b. cond b (Some x) (find (is_of_page (key z)) xs)) apart ∙ each_found xs (pairs_tail Before x _ rise) k d lt)

  -- no element that passes a test comes before the one that a search finds first
  pub first_found : (p : X → Bool) (xs : List X) (x : X) → AllPairs Before xs → find p xs ≡ Some x
      → All (λ y. p y ≡ true → comes_before (key y) (key x) ≡ false) xs
  first_found p [] x rise found k d lt = absurd (omega arith)
  first_found p (y ∷ ys) x rise found zero d lt = grind (arith, before_irrefl)
  first_found p (y ∷ ys) x rise found (suc k) d lt =
      grind (arith, first_found p ys x (pairs_tail Before y ys rise), pairs_head Before y ys rise k d, pages_ordered.asym)

  module _ (page : GuestPage) where
    abbrev low : X → Bool
    low y = comes_before (key y) page

    abbrev high : X → Bool
    high y = comes_before page (key y)

    abbrev is_it : X → Bool
    is_it y = same_page (key y) page

    -- a list in order stays in order where the element of a page is changed, but for its page
    pub write_rises : (f : X → X) → ((y : X) → key (f y) ≡ key y) → (xs : List X) → AllPairs Before xs → AllPairs Before (map (λ y. if is_it y then f y else y) xs)
    write_rises f same xs rise =
        search (rules, pairs_mapped Before Before (λ y. key (if is_it y then f y else y) ≡ key y))

    -- a change of the element of a page writes there what it makes of that one
    pub change_one : (f : X → X) (xs : List X) {x : X} → AllPairs Before xs → find is_it xs ≡ Some x
        → map (λ y. if is_it y then f y else y) xs ≡ map (λ y. if is_it y then f x else y) xs
    change_one f xs {x} rise found = map_alike _ _ xs (λ k d lt.
        let z = get_or xs k d in
        let one : is_it z ≡ true → z ≡ x = λ at.
        same_Some _ _ (sym (each_found xs rise k d lt) ∙ ap (λ q. find (is_of_page q) xs) (same_page_eq _ _ at) ∙ found) in
        grind (arith, one))

    -- with an element of a page that was not there, a list is one longer
    pub length_with : (x : X) (xs : List X) → AllPairs Before xs → find is_it xs ≡ None → length (filter low xs ++ x ∷ filter high xs) ≡ length xs + 1
    length_with x xs rise absent =
        omega (arith, ap length (absent_parts pages_ordered key page xs rise absent), length-append (filter low xs) (filter high xs), length-append (filter low xs) (x ∷ filter high xs))

    -- in a list with one more element of the page, a search for the page finds that element
    pub find_put : (x : X) (xs : List X) → key x ≡ page → find is_it (filter low xs ++ x ∷ filter high xs) ≡ Some x
    find_put x xs at = grind (arith, find_nothing, filter_passes, find-append, same_page_refl)

    -- with one more element of a page, a search for another page finds what it found before
    pub find_put_other : (other : GuestPage) (x : X) (xs : List X) → key x ≡ page → AllPairs Before xs → find is_it xs ≡ None → same_page page other ≡ false → find (is_of_page other) (filter low xs ++ x ∷ filter high xs) ≡ find (is_of_page other) xs
    find_put_other other x xs at rise absent differ =
        find_over (is_of_page other) (filter low xs) (filter high xs) x (grind arith)
        ∙ ap (find (is_of_page other)) (sym (absent_parts pages_ordered key page _ rise absent))

    -- without the elements of the page, a search for the page finds nothing
    pub find_gone : (xs : List X) → find is_it (filter (λ y. not (is_it y)) xs) ≡ None
    find_gone xs = grind (arith, find_nothing, filter_passes)

    -- an element that a search for another page finds is not of the page
    not_it : (other : GuestPage) (xs : List X) → same_page page other ≡ false → {y : X} → find (is_of_page other) xs ≡ Some y → is_it y ≡ false
    not_it other xs differ {y} is = grind (arith, same_page_eq, find_passes, same_page_sym)

    -- without the elements of a page, a search for another page finds what it found before
    pub find_gone_other : (other : GuestPage) (xs : List X) → same_page page other ≡ false → find (is_of_page other) (filter (λ y. not (is_it y)) xs) ≡ find (is_of_page other) xs
    find_gone_other other xs differ = grind (arith, find_kept, not_it)

    -- the element of the page is changed, but for its page
    module _ (f : X → X) (same : (y : X) → key (f y) ≡ key y) where
      abbrev change : X → X
      change y = if is_it y then f y else y

      -- a search finds what it found, changed
      pub find_change : (other : GuestPage) (xs : List X) → find (is_of_page other) (map change xs) ≡ option_map change (find (is_of_page other) xs)
      find_change other xs = grind (arith, find_mapped)

      -- a search for the page finds the changed element
      pub find_changed : (xs : List X) (x : X) → find is_it xs ≡ Some x → find is_it (map change xs) ≡ Some (f x)
      find_changed xs x found = grind (arith, find_change, find_passes)

      -- a search for another page finds what it found before
      pub find_changed_other : (other : GuestPage) (xs : List X) → same_page page other ≡ false → find (is_of_page other) (map change xs) ≡ find (is_of_page other) xs
      find_changed_other other xs differ = grind (arith, find_change, not_it)
