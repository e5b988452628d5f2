-- What shares have seen of the journal: the rule of a table whose seats are the book's and the shares', and what its
-- steps tell (own).
use Rattle.std.specs.Prelude.{◌≡◌, ◌==◌, ℕ, ◌+◌, ◌<◌, ◌≤◌, Bool, true, false, if◌then◌else◌, List, [], ◌∷◌, ◌++◌, map, Option, Some, None}
use mathlib.Core.Option.{some}
use lib.ListN.{get_elem?}
use Rattle.atomic_table.specs.Table.{State, Me, Step}
use Rattle.ksm_base.specs.Journal.{Entry}
use Rattle.ksm_shared.specs.declared.seen.Owned.{Owned}
use Rattle.ksm_shared.specs.declared.seen.Caller.{Caller}
use Rattle.ksm_shared.specs.declared.seen.View.{View}

-- the entries, whoever owns them
abbrev pub entries : List Owned → List Entry
entries [] = []
entries (o ∷ os) = o.entry ∷ entries os

-- the entries that the share with this number owns, in order
abbrev pub entries_by : ℕ → List Owned → List Entry
entries_by number [] = []
entries_by number (o ∷ os) = if o.owner == number then o.entry ∷ entries_by number os else entries_by number os

-- the journal begins with what was seen, and after that comes no entry of this share
abbrev pub Begins : ℕ → List Owned → List Owned → Type 0
Begins number seen log = (rest : List Owned) × (log ≡ seen ++ rest) × (entries_by number rest ≡ [])

-- the share is one of so many, and what it has seen begins the journal
abbrev pub CallerFits : List Owned → ℕ → Caller → Type 0
CallerFits log count c = (c.number < count) × Begins c.number c.seen log

abbrev pub CallersFit : List Owned → ℕ → List Caller → Type 0
CallersFit log count [] = Unit {0}
CallersFit log count (c ∷ cs) = CallerFits log count c × CallersFit log count cs

-- how often a share with this number is among these
abbrev pub times : ℕ → List Caller → ℕ
times number [] = 0
times number (c ∷ cs) = (if c.number == number then 1 else 0) + times number cs

abbrev pub total : (View → ℕ) → List View → ℕ
total f [] = 0
total f (v ∷ vs) = f v + total f vs

-- each entry's owner is one of so many shares
abbrev pub OwnersBelow : ℕ → List Owned → Type 0
OwnersBelow count [] = Unit {0}
OwnersBelow count (o ∷ os) = (o.owner < count) × OwnersBelow count os

-- the book's seat knows the whole journal and the number of shares, and each share at a seat fits
abbrev pub Fits : ℕ → List Owned → ℕ → ℕ → View → Type 0
Fits book log count by v =
    (v.is_book ≡ true → (by ≡ book) × (v.log ≡ log) × (v.shares ≡ count)) × CallersFit log count v.callers

-- There is one journal, known to one seat. What each share has seen begins it, and after that comes no entry that the
-- share owns. No two shares have one number.
pub record IsKept (views : List View) : Type 0 where
  pub book : ℕ
  pub log : List Owned
  pub count : ℕ
  pub fits : (by : ℕ) (v : View) → get_elem? views by ≡ some v → Fits book log count by v
  pub once : (number : ℕ) → total (λ v. times number v.callers) views ≤ 1
  pub owners : OwnersBelow count log

abbrev pub Kept : {S : Type 0} → State S View → Type 0
Kept s = IsKept s.views

abbrev pub view_of : Bool → List Owned → ℕ → List Caller → View
view_of is_book log shares callers = record { is_book = is_book; log = log; shares = shares; callers = callers }

abbrev pub caller : ℕ → List Owned → Caller
caller number seen = record { number = number; seen = seen }

-- a seat that knows nothing
abbrev pub nobody : View
nobody = view_of false [] 0 []

-- the seat of one share
abbrev pub share_view : ℕ → List Owned → View
share_view number seen = view_of false [] 0 (caller number seen ∷ [])

-- the book's seat
abbrev pub book_view : List Owned → ℕ → View
book_view log count = view_of true log count []

-- the book's seat with a share's
abbrev pub joined_view : List Owned → ℕ → ℕ → List Owned → View
joined_view log count number seen = view_of true log count (caller number seen ∷ [])

abbrev pub owned : ℕ → Entry → Owned
owned number e = record { owner = number; entry = e }

-- the entry that the first of these shares adds, if there is one to add
abbrev pub added : List Caller → Option Entry → List Owned
added [] e = []
added (c ∷ cs) None = []
added (c ∷ cs) (Some e) = owned c.number e ∷ []

-- the journal with the entry, which each share at the seat then has seen
abbrev pub after : View → Option Entry → View
after v e =
    let log = v.log ++ added v.callers e in
    view_of v.is_book log v.shares (map (λ c. caller c.number log) v.callers)

-- the seat of all these shares, which have seen this journal
abbrev pub all_at : {S : Type 0} → List Caller → List Owned → Me S View
all_at cs log = (view_of false [] 0 (map (λ c. caller c.number log) cs), [])

-- what the rule tells of the book's seat: the shares joined to it fit the journal that it knows
pub record Knows (v : View) : Type 0 where
  pub callers : CallersFit v.log v.shares v.callers
  pub once : (number : ℕ) → times number v.callers ≤ 1
  pub owners : OwnersBelow v.shares v.log

-- what a step of the book's seat tells: the entry was added, or there was none to add
abbrev pub Writes : Step (Option Entry) → Me (Option Entry) View → ℕ → Me (Option Entry) View → Type 0
Writes s m found w = (e : Option Entry) → s.said ≡ some e → (w.0 ≡ after m.0 e) × (w.1 ≡ m.1) × Knows m.0

-- what a look of the book's seat tells: each share joined to it has then seen the journal
abbrev pub Looks : Step (Option Entry) → Me (Option Entry) View → ℕ → Me (Option Entry) View → Type 0
Looks s m found w = (w.0 ≡ after m.0 None) × (w.1 ≡ m.1) × Knows m.0

-- the first of these shares
abbrev pub first : List Caller → Caller
first [] = caller 0 []
first (c ∷ cs) = c

-- the seat is a share's
abbrev pub IsShareSeat : {S : Type 0} → Me S View → Type 0
IsShareSeat m = let c = first m.0.callers in m ≡ (share_view c.number c.seen, [])

-- the seat is the book's
abbrev pub IsBookSeat : {S : Type 0} → Me S View → Type 0
IsBookSeat m = m ≡ (book_view m.0.log m.0.shares, [])

-- the book's seat and a share's added an entry, or none: the share has then seen the journal with it
pub record Wrote (book share book' share' : View) (e : Option Entry) : Type 0 where
  pub begins : Begins (first share.callers).number (first share.callers).seen book.log
  pub number : (first share.callers).number < book.shares
  pub owners : OwnersBelow book.shares book.log
  pub book_is : book' ≡ book_view (book.log ++ added share.callers e) book.shares
  pub share_is : share' ≡ share_view (first share.callers).number (book.log ++ added share.callers e)
