-- What a call on the table asks, by the operation on the word and by what the step tells its seat.
use Rattle.std.proofs.Common.{◌≡◌, ℕ, ◌+◌, ◌-◌, ◌%◌, ◌^◌, ◌<◌, ◌≤◌, eqb, sym, subst, arith}
use mathlib.Core.Option.{none}
use prog.Atomic.{either}
use Rattle.atomic_table.specs.Table.{State, Step, step, Allows}
use Rattle.frame_table.proofs.CoreNames.{Shape, count_in}
use Rattle.frame_table.proofs.Names.{View, Sat, Holds}

-- what a step tells its seat: of the step, the seat before, the word found and the seat after
abbrev pub Tells : Type 1
Tells = Step (Unit {0}) → Sat → ℕ → Sat → Type 0

module _ (then : Tells) (slots id : ℕ) where
  -- the seat may load the word i of the table, and is told so
  abbrev pub MayLoad : Shape → ℕ → Sat → Type 0
  MayLoad key i me = Allows (Holds key) slots id me i (λ n. n) (then (step slots i 0 0 none) me)

  -- the seat may store w to the word i
  abbrev pub MayStore : ℕ → Shape → ℕ → Sat → Type 0
  MayStore w key i me = Allows (Holds key) slots id me i (λ _. w) (λ _. then (step slots i w 0 none) me w)

  -- the seat may exchange the word i, if it is `old`, for `new`
  abbrev pub MayExchange : ℕ → ℕ → Shape → ℕ → Sat → Type 0
  MayExchange old new key i me = Allows (Holds key) slots id me i (λ n. either (eqb n old) new n) (then (step slots i old new none) me)

  -- the seat may add d to the word i
  abbrev pub MayAdd : ℕ → Shape → ℕ → Sat → Type 0
  MayAdd d key i me = Allows (Holds key) slots id me i (λ n. (n + d) % 2 ^ 64) (then (step slots i d 0 none) me)

  -- the seat may take one from the word i
  abbrev pub MaySubOne : Shape → ℕ → Sat → Type 0
  MaySubOne key i me = Allows (Holds key) slots id me i (λ n. (n + (2 ^ 64 - 1)) % 2 ^ 64) (then (step slots i 1 0 none) me)

-- what is allowed at a key, a word and a seat written out, is allowed where they are given by equations
pub turned : (Q : Shape → ℕ → Sat → Type 0) (key sh : Shape) (i j : ℕ) (me at : Sat) → key ≡ sh → i ≡ j → me ≡ at → Q sh j at → Q key i me
turned Q key sh i j me at e f h q = subst (λ (x : Shape × ℕ × Sat). Q x.0 x.1 x.2) (λ t. (sym e t, sym f t, sym h t)) q

-- an operation that is allowed with what its step tells is allowed with whatever follows from that
pub weaker : {holds : State (Unit {0}) View → Type 0} {slots id i : ℕ} {me : Sat} (f : ℕ → ℕ) (P Q : ℕ → Sat → Type 0) → ((n : ℕ) (m : Sat) → P n m → Q n m)
    → Allows holds slots id me i f P → Allows holds slots id me i f Q
weaker f P Q follows may t h size at small = let r = may t h size at small in (r.0, r.1, r.2, r.3, follows _ _ r.4)

-- taking one from a frame word with a reference, modulo 2 ^ 64, leaves the word less 1
pub one_less_word : (n : ℕ) → 1 ≤ count_in n → n < 18446744073709551616 → (n + 18446744073709551615) % 18446744073709551616 ≡ n - 1
one_less_word n low small = omega arith
