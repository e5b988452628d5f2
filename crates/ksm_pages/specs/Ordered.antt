-- Pages in order, each with the key of its row, and whether a scan visits it; and the items that are kept for it. (own)
use Rattle.std.specs.Prelude.{◌≡◌, ℕ, ◌^◌, ◌<◌, Bool, true, not, List, ◌∷◌, ◌++◌, All, AllPairs, filter, length, map, if◌then◌else◌}
use Rattle.ksm_pages.specs.Terms.{AreItemsAscending, comes_before, GuestPage, Item, page_of, same_page}
use Rattle.ksm_pages.specs.declared.named.Named.{Named}

-- the pages ascend, so none stands twice
abbrev pub AreAscending : List Named → Type 0
AreAscending named = AllPairs (λ m n. comes_before m.page n.page ≡ true) named

-- whether it stands for the page
abbrev pub is_of : GuestPage → Named → Bool
is_of page n = same_page n.page page

-- with a page at its place in the order
abbrev pub with_named : Named → List Named → List Named
with_named n named =
    filter (λ m. comes_before m.page n.page) named ++ n ∷ filter (λ m. comes_before n.page m.page) named

-- the other pages, in their order
abbrev pub without_named : GuestPage → List Named → List Named
without_named page named = filter (λ m. not (is_of page m)) named

-- with the page visited by a scan, or not
abbrev pub marked : GuestPage → Bool → List Named → List Named
marked page mergeable named = map (λ m. if is_of page m then record m { mergeable = mergeable } else m) named

-- the pages that a scan visits, in their order
abbrev pub visited : List Named → List GuestPage
visited named = map (λ n. n.page) (filter (λ n. n.mergeable) named)

-- what stands for a page, as an item of the order that is kept
abbrev pub named_by : Item → Named
named_by x = record { page = page_of x.key; key = x.value; mergeable = x.marked }

-- items in order, of which there are so many, each with the key of a page
pub record IsOrder (items : List Item) (len : ℕ) : Type 0 where
  pub ascending : AreItemsAscending items
  pub long : len ≡ length items
  pub small : All (λ x. x.key < 2 ^ 48) items
