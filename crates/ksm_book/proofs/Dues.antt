-- The pages that are due, as they are kept: which there are once one came or went, and the first behind a cursor.
use Rattle.ksm_book.proofs.Names.{added, after_cursor, All, All-map, any-filter_same, any_found, append-nil, arith, Bool, comes_before, false, filter, find, find_all, find_none, find_passes}
use Rattle.ksm_book.proofs.Names.{FindsFirst, found_first, GuestPage, has_item, is_some, length, List, list_any, list_any-append, list_any_at, map, Named, None, not, Option, option_map, pages_of}
use Rattle.ksm_book.proofs.Names.{refl, same_page, same_page_refl, Some, true, [], ◌&&◌, ◌++◌, ◌==◌, ◌||◌, ◌∙◌, ◌∷◌, ◌≡◌}
use Rattle.ksm_pages.specs.declared.row.Spot.{Spot}
use Rattle.ksm_pages.specs.Ordered.{AreAscending, is_of, with_named, without_named}

-- the pages that are kept
abbrev pub pages_in : List Named → List GuestPage
pages_in order = map (λ n. n.page) order

any_named : (x : GuestPage) (order : List Named)
    → has_item x (pages_in order) ≡ list_any (λ m. same_page m.page x) order
any_named x [] = refl
any_named x (m ∷ order) = rw (any_named x order)

-- a page is there exactly where a search finds it
pub has_found : (x : GuestPage) (order : List Named) → has_item x (pages_in order) ≡ is_some (find (is_of x) order)
has_found x order = any_named x order ∙ any_found (is_of x) order

picked : (u : GuestPage → Bool) (x : GuestPage) (order : List Named)
    → has_item x (pages_in (filter (λ m. u m.page) order)) ≡ (u x && has_item x (pages_in order))
picked u x order = grind (arith, any_named, any-filter_same)

-- a page that is put in is there, and the others as before
pub has_put : (n : Named) (order : List Named) (x : GuestPage)
    → has_item x (pages_in (with_named n order)) ≡ (same_page n.page x || has_item x (pages_in order))
has_put n order x =
    let parts = λ (u : GuestPage → Bool). picked u x order in
    grind (arith, parts (λ p. comes_before p n.page), parts (λ p. comes_before n.page p), any_named x, list_any-append)

-- a page that is taken out is there no more, and the others as before
pub has_taken : (page : GuestPage) (order : List Named) (x : GuestPage)
    → has_item x (pages_in (without_named page order)) ≡ (has_item x (pages_in order) && not (same_page page x))
has_taken page order x = picked (λ p. not (same_page p page)) x order ∙ (grind arith)

-- where all is ready no page was added that does not stand in order
pub none_added : (known : Bool) (order : List Named) (added : List Spot) → (known && length added == 0) ≡ true
    → pages_in order ++ pages_of added ≡ pages_in order
none_added known order [] is = append-nil (pages_in order)
none_added known order (s ∷ added) is = absurd (grind arith)

-- a search in pages in order finds the first page behind the cursor, if there is one
pub first_found : (cursor : Option GuestPage) (order : List Named) → AreAscending order
    → FindsFirst cursor (pages_in order) (option_map (λ n. n.page) (find (λ n. after_cursor cursor n.page) order))
first_found cursor order rise = by _ refl
  where
    behind : Named → Bool
    behind n = after_cursor cursor n.page

    there : All (λ m. has_item m.page (pages_in order) ≡ true) order
    there k d lt = grind (arith, any_named, list_any_at, same_page_refl)

    by : (o : Option Named) → find behind order ≡ o → FindsFirst cursor (pages_in order) (option_map (λ n. n.page) o)
    by None none = All-map (λ p. after_cursor cursor p ≡ false) (λ n. n.page) order (find_none behind order none)
    by (Some n) found = (
      find_all behind (λ m. has_item m.page (pages_in order) ≡ true) order n found there,
      find_passes behind order n found,
      All-map (λ p. after_cursor cursor p ≡ true → comes_before p n.page ≡ false) (λ m. m.page) order
          (found_first (λ (m : Named). m.page) behind order n rise found),
    )
