-- The steps that cut a pen, and that add a link by one, keep the rule of the logbook.
use Rattle.std.proofs.Common.{◌≡◌, ◌≢◌, ℕ, zero, suc, ◌<◌, ◌==◌, Bool, true, false, List, [], ◌∷◌, ◌++◌, length, slice_set, refl, ap, sym, subst, ◌∙◌, arith, inl, length-append, None}
use Rattle.std.proofs.lemmas.List.{append-nil}
use Rattle.std.proofs.lemmas.Bool.Decides.{nat_tests}
use mathlib.Core.List.{IsPrefix}
use prog.Atomic.{either}
use Rattle.logbook.specs.Pages.{Cell, Nib, cell, gives, adds, no_nib, may_write, step, Moves}
use Rattle.ksm_base.specs.Journal.{Entry}
use Rattle.ksm_shared.specs.declared.beginning.Link.{Link}
use Rattle.ksm_shared.specs.Chained.{Adds, AreSpent, Cuts, IsChained, first_key, linked, next_key, no_link}

-- the entries that a log shows: none
abbrev pub shown : List Link → List Link
shown links = []

-- what a move from one list of links to another asks: nothing
abbrev pub moved : List Link → List Link → ℕ → Type 0
moved xs ys n = Unit {0}

-- the cell is at home
abbrev Home : List Cell → ℕ → Type 0
Home cells key = (cell cells key).1 ≡ true

-- a cell at home stays there where a word changes
home_set : (cells : List Cell) (at key n : ℕ) → Home cells key → Home (slice_set cells at (n, true)) key
home_set [] at key n home = absurd (cc home)
home_set (c ∷ cs) zero zero n home = refl
home_set (c ∷ cs) zero (suc key) n home = home
home_set (c ∷ cs) (suc at) zero n home = home
home_set (c ∷ cs) (suc at) (suc key) n home = home_set cs at key n home

-- a cell at home stays there where one is added
home_more : (cells : List Cell) (key : ℕ) (new : Cell) → Home cells key → Home (cells ++ new ∷ []) key
home_more [] key new home = absurd (cc home)
home_more (c ∷ cs) zero new home = home
home_more (c ∷ cs) (suc key) new home = home_more cs key new home

-- the word that changed is at home
home_now : (cells : List Cell) (at n : ℕ) → at < length cells → Home (slice_set cells at (n, true)) at
home_now [] at n lt = absurd (omega (arith, lt))
home_now (c ∷ cs) zero n lt = refl
home_now (c ∷ cs) (suc at) n lt = home_now cs at n (omega (arith, lt))

as_long : (cells : List Cell) (at : ℕ) (new : Cell) → length (slice_set cells at new) ≡ length cells
as_long [] at new = refl
as_long (c ∷ cs) zero new = refl
as_long (c ∷ cs) (suc at) new = ap suc (as_long cs at new)

still_spent : (cells after : List Cell) → ((key : ℕ) → Home cells key → Home after key) → (key : ℕ) (links : List Link) → AreSpent key cells links → AreSpent key after links
still_spent cells after up key [] spent = tt
still_spent cells after up key (l ∷ ls) spent = (up key spent.0, still_spent cells after up l.key ls spent.1)

spent_more : (cells : List Cell) (key : ℕ) (links : List Link) (new : Link) → AreSpent key cells links → Home cells (next_key key links) → AreSpent key cells (links ++ new ∷ [])
spent_more cells key [] new spent home = (home, tt)
spent_more cells key (l ∷ ls) new spent home = (spent.0, spent_more cells l.key ls new spent.1 home)

-- whoever has the pen that the last link seen names has seen all of them
none_behind : (cells : List Cell) (key : ℕ) (seen rest : List Link) → AreSpent key cells (seen ++ rest) → (cell cells (next_key key seen)).1 ≡ false → rest ≡ []
none_behind cells key [] [] spent away = refl
none_behind cells key [] (l ∷ ls) spent away = absurd (cc (spent.0, away))
none_behind cells key (s ∷ seen) rest spent away = none_behind cells s.key seen rest spent.1 away

-- the first word is not 0 after an exchange of 0 for 1
abbrev pub used : ℕ → ℕ
used n = either (n == 0) 1 n

not_zero_by : (n : ℕ) (b : Bool) → (n == 0) ≡ b → either b 1 n ≢ 0
not_zero_by n true is e = absurd (omega (arith, e))
not_zero_by n false is e = let some : 0 < n = grind (arith, nat_tests) in absurd (omega (arith, e, some))

not_zero : (n : ℕ) → used n ≢ 0
not_zero n = not_zero_by n (n == 0) refl

first_value : (cells : List Cell) (key n m : ℕ) → 0 < length cells → Home cells 0 → (cell cells key).1 ≡ false → (cell (slice_set (slice_set cells 0 (n, true)) key (m, true)) 0).0 ≡ n
first_value [] key n m some home away = absurd (omega (arith, some))
first_value (c ∷ cs) zero n m some home away = absurd (cc (home, away))
first_value (c ∷ cs) (suc key) n m some home away = refl

first_now : (cells : List Cell) (n : ℕ) (new : Cell) → 0 < length cells → (cell (slice_set cells 0 (n, true) ++ new ∷ []) 0).0 ≡ n
first_now [] n new some = absurd (omega (arith, some))
first_now (c ∷ cs) n new some = refl

-- two words at home and no link keep the rule
pub opens : IsChained ((0, true) ∷ (0, true) ∷ []) []
opens = record { word = (omega arith, refl); unused = λ _. refl; spent = tt }

-- the exchange that cuts a pen
pub cuts_moves : (seen : List Link) → Moves IsChained shown moved 0 (seen, (no_nib, None)) used (Cuts (step 0 0 1 no_link) (seen, (no_nib, None)))
cuts_moves seen cells log kept pre away =
    let n = used (cell cells 0).0 in
    let after = slice_set cells 0 (n, true) in
    let all = slice_set cells 0 (n, true) ++ (0, false) ∷ [] in
    let up : (key : ℕ) → Home cells key → Home all key = λ key home. home_more after key (0, false) (home_set cells 0 key n home) in
    let rule : IsChained all log = record {
      word = (omega (arith, length-append after ((0, false) ∷ [])), up 0 kept.word.1);
      unused = λ e. absurd (not_zero (cell cells 0).0 (sym (first_now cells n (0, false) kept.word.0) ∙ e));
      spent = still_spent cells all up first_key log kept.spent;
    } in (
      kept.word.0,
      kept.word.1,
      (adds, [], None, tt, subst (IsChained all) (sym (append-nil log)) rule, inl (refl, refl), (refl, kept.unused)),
    )

-- the exchange that adds a link
pub adds_moves : (seen : List Link) (p : Nib) (new : Link) → p.right ≡ may_write → p.key ≡ next_key first_key seen
    → Moves IsChained shown moved 0 (seen, (p, None)) used (Adds (step 0 0 1 new) (seen, (p, None)))
adds_moves seen p new right is cells log kept pre away =
    let key = p.key in
    let value = p.value in
    let gone = away right in
    let none : pre.0 ≡ [] = none_behind cells first_key seen pre.0 (subst (AreSpent first_key cells) (sym pre.1) kept.spent) (subst (λ (k : ℕ). (cell cells k).1 ≡ false) is gone.1) in
    let same : log ≡ seen = sym pre.1 ∙ ap (λ (rest : List Link). seen ++ rest) none ∙ append-nil seen in
    let n = used (cell cells 0).0 in
    let after = slice_set cells 0 (n, true) in
    let all = slice_set after key (value, true) in
    let up : (k : ℕ) → Home cells k → Home all k = λ k home. home_set after key k value (home_set cells 0 k n home) in
    let here : Home all key = home_now after key value (omega (arith, gone.0, as_long cells 0 (n, true))) in
    let last : Home all (next_key first_key log) = subst (Home all) (is ∙ ap (next_key first_key) (sym same)) here in (
      kept.word.0,
      kept.word.1,
      (
        gives,
        new ∷ [],
        None,
        right,
        record {
          word = (omega (arith, kept.word.0, as_long cells 0 (n, true), as_long after key (value, true)), up 0 kept.word.1);
          unused = λ e. absurd (not_zero (cell cells 0).0 (sym (first_value cells key n value kept.word.0 kept.word.1 gone.1) ∙ e));
          spent = spent_more all first_key log new (still_spent cells all up first_key log kept.spent) last;
        },
        inl (refl, refl),
        ap (λ (links : List Link). links ++ new ∷ []) same,
      ),
    )

-- a link behind the others is the last
pub last_key : (key : ℕ) (links : List Link) (new : Link) → next_key key (links ++ new ∷ []) ≡ new.key
last_key key [] new = refl
last_key key (l ∷ ls) new = last_key l.key ls new

pub linked_more : (links : List Link) (new : Link) → linked (links ++ new ∷ []) ≡ linked links ++ new.entry ∷ []
linked_more [] new = refl
linked_more (l ∷ ls) new = ap (λ (es : List Entry). l.entry ∷ es) (linked_more ls new)

pub linked_length : (links : List Link) → length (linked links) ≡ length links
linked_length [] = refl
linked_length (l ∷ ls) = ap suc (linked_length ls)

-- the entries of a beginning of some links begin their entries
pub linked_prefix : (xs ys : List Link) → IsPrefix xs ys → IsPrefix (linked xs) (linked ys)
linked_prefix [] ys p = (linked ys, refl)
linked_prefix (x ∷ xs) [] p = absurd (cc (p.1))
linked_prefix (x ∷ xs) (y ∷ ys) p =
    let rest = linked_prefix xs ys (p.0, cc (p.1)) in (rest.0, cc (p.1, rest.1))
