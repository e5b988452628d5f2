-- The items of a dup: guest pages in ascending order, each page once (mm/ksm: reverse mapping).
use Rattle.std.specs.Prelude.{◌≡◌, Bool, true, not, List, ◌∷◌, ◌++◌, filter, AllPairs}
use Rattle.std.specs.List.{list_any}
use Rattle.ksm_base.specs.declared.page.GuestPage.{GuestPage}
use Rattle.ksm_base.specs.Rows.{comes_before, same_page}

-- the pages ascend, so no page stands twice
abbrev pub AreAscending : List GuestPage → Type 0
AreAscending pages = AllPairs (λ p q. comes_before p q ≡ true) pages

-- whether the page is there
abbrev pub has_item : GuestPage → List GuestPage → Bool
has_item page pages = list_any (λ p. same_page p page) pages

-- the pages with this one among them, at its place in the order
abbrev pub with_item : GuestPage → List GuestPage → List GuestPage
with_item page pages = filter (λ p. comes_before p page) pages ++ page ∷ filter (λ p. comes_before page p) pages

-- the other pages, in their order
abbrev pub without_item : GuestPage → List GuestPage → List GuestPage
without_item page pages = filter (λ p. not (same_page p page)) pages
