-- The numbers of pages: a page and its key tell each other, and keys are in the order of their pages. (own)
use Rattle.std.specs.Prelude.{ℕ, ◌+◌, ◌*◌, ◌/◌, ◌%◌, ◌^◌, ◌<◌, ◌≤◌, ◌==◌, not, List, ◌∷◌, ◌++◌, All, AllPairs, filter, length, nat_lt}
use Rattle.ksm_base.specs.declared.limits.TheConstants.{MOST_REFERENCES}
use Rattle.ksm_base.specs.declared.page.GuestPage.{GuestPage}

-- the key of a page: its guest, then its number
abbrev pub key_of : GuestPage → ℕ
key_of page = page.guest * 2 ^ 32 + page.page

-- the page of a key
abbrev pub page_of : ℕ → GuestPage
page_of key = record { guest = key / 2 ^ 32; page = key % 2 ^ 32 }

-- the keys with this one among them, at its place in the order
abbrev pub with_key : ℕ → List ℕ → List ℕ
with_key key keys = filter (λ k. nat_lt k key) keys ++ key ∷ filter (λ k. nat_lt key k) keys

-- the other keys, in their order
abbrev pub without_key : ℕ → List ℕ → List ℕ
without_key key keys = filter (λ k. not (k == key)) keys

-- the keys of the items of a dup: they ascend, so none stands twice
pub record AreKeys (keys : List ℕ) : Type 0 where
  pub ascending : AllPairs (λ k l. k < l) keys
  pub small : All (λ k. k < 2 ^ 48) keys
  pub few : length keys ≤ MOST_REFERENCES
