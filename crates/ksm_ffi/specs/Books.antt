-- What the calls of a book say: those of ksm_book, with their answers as numbers (own).
use Rattle.std.specs.Prelude.{◌≡◌, ◌<◌, ◌≤◌, ◌+◌, ◌*◌, ◌^◌, ℕ, Bool, [], List, length, take, drop, map, Option, Some, None, Result, Ok, Err}
use Rattle.ksm_base.specs.declared.command.Command.{Command}
use Rattle.ksm_base.specs.declared.counters.Counters.{Counters}
use Rattle.ksm_base.specs.declared.fault.Fault.{Fault}
use Rattle.ksm_base.specs.declared.page.GuestPage.{GuestPage}
use Rattle.ksm_base.specs.declared.reply.Reply.{Reply}
use Rattle.ksm_base.specs.declared.shape.Shape.{Shape}
use Rattle.ksm_base.specs.Answers.{IsAnswerOrMemory}
use Rattle.ksm_base.specs.Apply.{after}
use Rattle.ksm_base.specs.Journal.{Entry, journal_after}
use Rattle.ksm_base.specs.Reading.{bytes_of}
use Rattle.ksm_base.specs.State.{opening}
use Rattle.ksm_base.specs.Values.{IsShape}
use Rattle.frame_table.specs.Named.{KeeperView}
use Rattle.ksm_book.specs.Carried.{CarriedOut, JournaledBook, unjournaled}
use Rattle.ksm_book.specs.Laid.{LoadsIf}
use Rattle.ksm_pages.specs.Paged.{nowhere}
use Rattle.ksm_ffi.specs.Homes.{HomeView, all_back}
use Rattle.ksm_ffi.specs.Opening.{IsNewOf, OpensNot}
use Rattle.ksm_ffi.specs.Answers.{number_of}
use Rattle.ksm_ffi.specs.Requests.{TellsMade, answered, commanded}
use Rattle.ksm_ffi.specs.declared.answer.Answer.{Answer}
use Rattle.ksm_ffi.specs.declared.answer.Answer.TheVariants as answer
use Rattle.ksm_ffi.specs.declared.request.Made.{Made}
use Rattle.ksm_ffi.specs.declared.request.Request.{Request}

-- the opening book, in the frames of a keeper that has made no step, with an empty journal, which is kept or counted
abbrev pub IsOpening : Shape → Bool → JournaledBook → Type 0
IsOpening sh keeps b = (v : KeeperView) × IsNewOf sh v
    × (unjournaled b ≡ record { state = opening sh; frame = nowhere; keeper = v }) × (b.journal ≡ []) × (b.is_kept ≡ keeps)

-- a book on a table of this shape and number, of which no pass is out
abbrev pub OpensBook : Shape → Bool → ℕ → Result (JournaledBook × HomeView) Answer → Type 0
OpensBook sh keeps number (Ok r) = IsShape sh × IsOpening sh keeps r.0 × (r.1 ≡ all_back r.0.keeper.table number)
OpensBook sh keeps number (Err a) = OpensNot sh a

-- a command is done as the book does it, and this is answered and told of it
abbrev pub Applies : JournaledBook → Command → Answer → Made → JournaledBook → Type 0
Applies b c a made after_b = (given : Result Reply Fault) × IsAnswerOrMemory b.state c given
    × (after_b.state ≡ after b.state c given) × CarriedOut (unjournaled b) (unjournaled after_b) c given
    × (after_b.journal ≡ journal_after b.journal c given) × (after_b.is_kept ≡ b.is_kept)
    × (a ≡ answered given) × TellsMade given made

-- the bytes that were read, if there are any
abbrev pub TellsBytes : Option (List ℕ) → Answer → List ℕ → Type 0
TellsBytes (Some read) a bytes = (a ≡ answer.Done) × (bytes ≡ read)
TellsBytes None a bytes = a ≡ answer.Nothing

-- the bytes of a page are loaded from its frame; the state, where each page lies, and the journal are as they were
abbrev pub ReadsBook : JournaledBook → GuestPage → Answer → List ℕ → JournaledBook → Type 0
ReadsBook b page a bytes w = TellsBytes (bytes_of page b.state) a bytes
    × (w.state ≡ b.state) × ((unjournaled w).frame ≡ (unjournaled b).frame)
    × (w.journal ≡ b.journal) × (w.is_kept ≡ b.is_kept)
    × LoadsIf ((unjournaled b).frame page) (bytes_of page b.state) b.keeper w.keeper

-- the place of a dup, if there is one
abbrev pub TellsTicket : Option ℕ → Answer → ℕ → Type 0
TellsTicket (Some found) a place = (a ≡ answer.Done) × (place ≡ found)
TellsTicket None a place = a ≡ answer.Nothing

-- how many entries there are, always
abbrev pub TellsEntries : List Entry → Answer → ℕ → Type 0
TellsEntries journal a count = (a ≡ answer.Done) × (count ≡ length journal)

-- an entry, if it can be read: the command, how it was answered, and what it did
abbrev pub TellsEntry : Option Entry → Answer → Request → ℕ → Made → Type 0
TellsEntry (Some e) a request told made = (a ≡ answer.Done) × (commanded request ≡ Some e.0)
    × (told ≡ number_of (answered e.1)) × TellsMade e.1 made
TellsEntry None a request told made = a ≡ answer.Nothing

-- the counters, always
abbrev pub TellsCounters : Counters → Answer → Counters → Type 0
TellsCounters c a counted = (a ≡ answer.Done) × (counted ≡ c)

-- a page as one number
abbrev pub packed : GuestPage → ℕ
packed p = p.guest * 2 ^ 32 + p.page

-- these pages stand at the head of the numbers, and the numbers behind them are as they were
abbrev pub AreTold : List GuestPage → List ℕ → List ℕ → Type 0
AreTold pages before told =
    (take (length pages) told ≡ map packed pages) × (drop (length pages) told ≡ drop (length pages) before)

-- the pages merged into a dup, if there is room for them
abbrev pub TellsMappers : Option (List GuestPage) → List ℕ → Answer → List ℕ → Type 0
TellsMappers None numbers a told = (a ≡ answer.Nothing) × (told ≡ numbers)
TellsMappers (Some pages) numbers answer.Memory told = told ≡ numbers
TellsMappers (Some pages) numbers answer.Range told = (length numbers < length pages) × (told ≡ numbers)
TellsMappers (Some pages) numbers answer.Done told = (length pages ≤ length numbers) × AreTold pages numbers told
TellsMappers (Some pages) numbers a told = ⊥

-- how many they are, also where there is no room for them
abbrev pub TellsCount : Option (List GuestPage) → ℕ → Answer → ℕ → Type 0
TellsCount (Some pages) before answer.Done count = count ≡ length pages
TellsCount (Some pages) before answer.Range count = count ≡ length pages
TellsCount _ before a count = count ≡ before
