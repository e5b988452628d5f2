-- Journals: the commands that a book was given with its answers; which are legal, and what was stored last. Own.
use Rattle.std.specs.Prelude.{◌≡◌, ℕ, Bool, true, false, List, [], ◌∷◌, ◌++◌, fold, take, Option, Some, None, Ok, Err, All, if◌then◌else◌}
use Rattle.ksm_base.specs.declared.page.GuestPage.{GuestPage}
use Rattle.ksm_base.specs.declared.row.Row.{Row}
use Rattle.ksm_base.specs.declared.command.Command.{Command}
use Rattle.ksm_base.specs.declared.command.Command.TheVariants.{Register, Store}
use Rattle.ksm_base.specs.declared.fault.Fault.{Fault}
use Rattle.ksm_base.specs.declared.fault.Fault.TheVariants.{Memory}
use Rattle.ksm_base.specs.declared.shape.Shape.{Shape}
use Rattle.ksm_base.specs.declared.counters.Counters.{Counters}
use Rattle.ksm_base.specs.Counting.{counters_of}
use Rattle.ksm_base.specs.Rows.{same_page}
use Rattle.ksm_base.specs.State.{BookState, opening}
use Rattle.ksm_base.specs.Answers.{Answer, IsAnswer}
use Rattle.ksm_base.specs.Apply.{after}

-- an entry is a command with its answer
abbrev pub Entry : Type 0
Entry = Command × Answer

-- the state after the entries
abbrev pub replay : BookState → List Entry → BookState
replay b [] = b
replay b (e ∷ es) = replay (after b e.0 e.1) es

-- each entry's answer is one that its command may have there
abbrev pub AreAnswers : BookState → List Entry → Type 0
AreAnswers b [] = Unit {0}
AreAnswers b (e ∷ es) = IsAnswer b e.0 e.1 × AreAnswers (after b e.0 e.1) es

-- a legal journal leads from the opening state to the state as it is
pub record IsLegal (shape : Shape) (journal : List Entry) (state : BookState) : Type 0 where
  pub answers : AreAnswers (opening shape) journal
  pub leads : state ≡ replay (opening shape) journal

-- the fault is want of memory
abbrev pub memory_fault : Fault → Bool
memory_fault Memory = true
memory_fault fault = false

-- the command was refused for memory
abbrev pub is_memory : Answer → Bool
is_memory (Ok reply) = false
is_memory (Err fault) = memory_fault fault

-- the journal after a command: one entry more, but none for want of memory
abbrev pub journal_after : List Entry → Command → Answer → List Entry
journal_after journal command answer = if is_memory answer then journal else journal ++ (command, answer) ∷ []

-- the bytes that an entry stores to a page, if it is an accepted registering or store of it
abbrev pub stored_by : GuestPage → Entry → Option (List ℕ)
stored_by page (Register other node bytes, Ok reply) = if same_page other page then Some bytes else None
stored_by page (Store other bytes, Ok reply) = if same_page other page then Some bytes else None
stored_by page _ = None

-- the first bytes if there are some, else the second ones
abbrev pub or_else : Option (List ℕ) → Option (List ℕ) → Option (List ℕ)
or_else (Some bytes) earlier = Some bytes
or_else None earlier = earlier

-- the bytes stored last to a page
abbrev pub last_stored : GuestPage → List Entry → Option (List ℕ)
last_stored page journal = fold (λ earlier e. or_else (stored_by page e) earlier) None journal

-- each row has the bytes stored last to its page
abbrev pub ReadsLastStored : List Entry → List Row → Type 0
ReadsLastStored journal rows = All (λ r. last_stored r.page journal ≡ Some r.bytes) rows

-- the counters after the first n entries, as a reader without the lock is shown them
abbrev pub published : Shape → List Entry → ℕ → Counters
published shape journal n = counters_of (replay (opening shape) (take n journal))
