-- The locked book, and what a call under the lock tells its share (own).
use Rattle.std.specs.Prelude.{◌≡◌, ℕ, zero, suc, ◌+◌, ◌<◌, ◌≤◌, false, if◌then◌else◌, List, [], ◌∷◌, ◌++◌, length, Option, Some, None}
use Rattle.atomic_table.specs.Table.{Me}
use Rattle.ksm_base.specs.declared.command.Command.{Command}
use Rattle.ksm_base.specs.Answers.{Answer}
use Rattle.ksm_base.specs.Apply.{IsAnswerOrMemory, after}
use Rattle.ksm_base.specs.Journal.{Entry, AreAnswers, IsLegal, is_memory, replay}
use Rattle.ksm_base.specs.State.{BookState, opening}
use Rattle.frame_table.specs.Named.{ClosedView}
use Rattle.frame_table.specs.Seats.{Ends}
use Rattle.ksm_book.specs.Carried.{JournaledBook, unjournaled}
use Rattle.ksm_book.specs.Promised.{LieOn}
use Rattle.ksm_shared.specs.declared.seen.Owned.{Owned}
use Rattle.ksm_shared.specs.declared.seen.Caller.{Caller}
use Rattle.ksm_shared.specs.declared.seen.View.{View}
use Rattle.ksm_shared.specs.Named.{PartsId}
use Rattle.ksm_shared.specs.Seen.{entries, entries_by, CallersFit, times, caller, first, owned, view_of, OwnersBelow}

-- the book, the entries of its journal with their owners, and the entries after which the counters stand that readers
-- are shown
pub record Locked : Type 0 where
  pub book : JournaledBook
  pub log : List Owned
  pub shown : List Entry

-- what contracts see of an answer: what the book answered, and the entries after which the counters stand that it
-- published
pub record Answered : Type 0 where
  pub result : Answer
  pub shown : List Entry

-- the entries that a share owns, in order, of what it has seen
abbrev pub part_of : Caller → List Entry
part_of c = entries_by c.number c.seen

-- the state of the book after the journal that a share has seen
abbrev pub state_seen : PartsId → Caller → BookState
state_seen parts c = replay (opening parts.frames.shape) (entries c.seen)

-- the entry that a command adds; none where it is refused for memory
abbrev pub made : Command → Answer → List Entry
made c r = if is_memory r then [] else (c, r) ∷ []

-- the same, owned by the share with this number
abbrev pub made_by : ℕ → Command → Answer → List Owned
made_by number c r = if is_memory r then [] else owned number (c, r) ∷ []

-- the same as an option
abbrev pub said_of : Command → Answer → Option Entry
said_of c r = if is_memory r then None else Some (c, r)

-- The share has seen on: a legal journal, which begins with what it had seen; then come entries of others, and then
-- those added. With one share there are no others, and the journal is its part.
pub record SeesOn (parts : PartsId) (old new : Caller) (more : List Owned) : Type 0 where
  pub number : new.number ≡ old.number
  pub between : List Owned
  pub seen : new.seen ≡ (old.seen ++ between) ++ more
  pub others : entries_by old.number between ≡ []
  pub legal : AreAnswers (opening parts.frames.shape) (entries new.seen)
  pub alone : parts.callers ≡ 1 → between ≡ []
  pub whole : parts.callers ≡ 1 → part_of new ≡ entries new.seen

-- The share has seen on, and no entry is its own: its part of the journal stays. With one share all is as it was.
pub record IsShown (parts : PartsId) (old new : Caller) : Type 0 where
  pub seen : SeesOn parts old new []
  pub part : part_of new ≡ part_of old
  pub alone : parts.callers ≡ 1 → new ≡ old

-- with one share the command is a step of the book from the state that the share had seen to the state that it then has
-- seen
abbrev pub StepsAlone : PartsId → Caller → Caller → Command → Answer → Type 0
StepsAlone parts old new c r = parts.callers ≡ 1 → IsAnswerOrMemory (state_seen parts old) c r
    × (state_seen parts new ≡ after (state_seen parts old) c r)

-- so many shares that have seen nothing
abbrev pub fresh : ℕ → List Caller
fresh zero = []
fresh (suc n) = fresh n ++ caller n [] ∷ []

-- how many entries these shares own
abbrev pub owned_total : List Caller → ℕ
owned_total [] = 0
owned_total (c ∷ cs) = length (part_of c) + owned_total cs

-- All shares are here, each once, and each entry of the journal is in the part of one. What each had seen begins the
-- journal.
pub record Gathered (callers : ℕ) (log : List Owned) (cs : List Caller) : Type 0 where
  pub begins : CallersFit log callers cs
  pub once : (number : ℕ) → number < callers → times number cs ≡ 1
  pub owners : OwnersBelow callers log
  pub sum : owned_total cs ≡ length log

-- so many shares sit at the seat, all that there are, and own all that the first of them has seen
pub record IsAll {S : Type 0} (callers : ℕ) (m : Me S View) : Type 0 where
  pub seat : m ≡ (view_of false [] 0 m.0.callers, [])
  pub enough : callers ≤ length m.0.callers
  pub gathered : Gathered callers (first m.0.callers).seen m.0.callers

-- one of so many shares is not among these
abbrev pub LacksOne : ℕ → List Caller → Type 0
LacksOne callers cs = (number : ℕ) × (number < callers) × (times number cs ≡ 0)

-- the table was closed with the keeper of a book that lay lawfully in its frames, with this journal, which is legal
pub record EndsAfter (parts : PartsId) (journal : List Entry) (closed : ClosedView) : Type 0 where
  pub book : JournaledBook
  pub own : book.keeper.table ≡ parts.frames
  pub journal_is : book.journal ≡ journal
  pub legal : IsLegal parts.frames.shape journal book.state
  pub placed : LieOn book.state (unjournaled book).frame book.keeper.ledger
  pub ends : Ends book.keeper.ledger closed

-- the same with some journal
abbrev pub EndsLawfully : PartsId → ClosedView → Type 0
EndsLawfully parts closed = (journal : List Entry) × EndsAfter parts journal closed
