-- What a line is answered, and the state after it (own).
use Rattle.std.specs.Prelude.{◌≡◌, ℕ, Bool, true, false, List, [], Option, Some, None, IsSome, Ok, Err}
use Rattle.std.specs.List.{AllZip}
use Rattle.ksm_base.specs.declared.command.Command.{Command}
use Rattle.ksm_base.specs.declared.command.Command.TheVariants as commands
use Rattle.ksm_base.specs.declared.reply.Reply.TheVariants as replies
use Rattle.ksm_base.specs.declared.fault.Fault.TheVariants.{Memory, UnknownPage, UnknownPlace}
use Rattle.ksm_base.specs.Journal.{journal_after}
use Rattle.ksm_base.specs.State.{BookState}
use Rattle.ksm_base.specs.Answers.{Answer, IsAnswerOrMemory}
use Rattle.ksm_base.specs.Apply.{after}
use Rattle.ksm_base.specs.Counting.{counters_of}
use Rattle.ksm_base.specs.Knobs.{setting}
use Rattle.ksm_base.specs.Reading.{bytes_of, ticket_of, mappers_of}
use Rattle.ksm_base.specs.declared.page.GuestPage.{GuestPage}
use Rattle.ksm_base.specs.Refusals.{is_known}
use Rattle.ksm_lines.specs.declared.line.Line.{Line}
use Rattle.ksm_lines.specs.declared.line.Line.TheVariants as lines
use Rattle.ksm_lines.specs.declared.line.PageLine.TheVariants as pages
use Rattle.ksm_lines.specs.declared.line.RareLine.TheVariants as rares
use Rattle.ksm_lines.specs.declared.line.ShortLine.TheVariants as shorts
use Rattle.ksm_script.specs.declared.pass_state.PassState.{PassState}
use Rattle.ksm_script.specs.declared.refusal.Refusal.TheVariants.{Book}
use Rattle.ksm_script.specs.declared.reply.LineReply.{LineReply}
use Rattle.ksm_script.specs.declared.reply.LineReply.TheVariants as told
use Rattle.ksm_lines.specs.Knobs.{shown_in}
use Rattle.ksm_script.specs.State.{ScriptState}
use Rattle.ksm_script.specs.Lookups.{Finds, Equals, LooksAt, GivesUp, AtPass, Audits, EndsIdle}
use Rattle.ksm_script.specs.Replies.{text_of}

-- the reply to the answer of a command
abbrev pub reply_to : Answer → LineReply
reply_to (Ok replies.Done) = told.Done
reply_to (Ok (replies.Scanned visits stop)) = told.Scanned visits stop
reply_to (Ok (replies.Pruned count)) = told.Pruned count
reply_to (Ok (replies.Unmerged pages stop)) = told.Unmerged pages stop
reply_to (Err fault) = told.Refused (Book fault)

-- the state after a command with its answer
abbrev pub commanded : ScriptState → Command → Answer → ScriptState
commanded s command answer =
    record { book = after s.book command answer; journal = journal_after s.journal command answer; passes = s.passes }

-- A command is a step of the book, and an entry of its journal; refused for memory it is left out.
abbrev pub Commands : Command → ScriptState → Option LineReply → ScriptState → Type 0
Commands command s reply next =
    (answer : Answer) × IsAnswerOrMemory s.book command answer × (reply ≡ Some (reply_to answer))
    × (next ≡ commanded s command answer)

-- what a line reads is a function of the book state, and nothing changes
abbrev pub Reads : (BookState → Option LineReply) → ScriptState → Option LineReply → ScriptState → Type 0
Reads told s reply next = (reply ≡ told s.book) × (next ≡ s)

-- the content of a page, if it has a row
abbrev pub content_reply : Option (List ℕ) → LineReply
content_reply None = told.Refused (Book UnknownPage)
content_reply (Some content) = told.Content content

-- the place of a page, if it has a row and is merged
abbrev pub ticket_reply : Bool → Option ℕ → LineReply
ticket_reply false place = told.Refused (Book UnknownPage)
ticket_reply true None = told.Private
ticket_reply true (Some place) = told.Place place

-- the pages that are merged at a place, or that none are; want of memory only where some are
abbrev pub IsMappers : Option (List GuestPage) → LineReply → Type 0
IsMappers pages (told.Mappers items) = pages ≡ Some items.items
IsMappers pages (told.Refused (Book UnknownPlace)) = pages ≡ None
IsMappers pages (told.Refused (Book Memory)) = IsSome pages
IsMappers pages _ = ⊥

-- what is merged at a place is listed, and nothing changes
abbrev pub Lists : ℕ → ScriptState → Option LineReply → ScriptState → Type 0
Lists place s None next = ⊥
Lists place s (Some reply) next = IsMappers (mappers_of place s.book) reply × (next ≡ s)

-- the book and its journal are as they were
abbrev pub KeepsBook : ScriptState → ScriptState → Type 0
KeepsBook s next = (next.book ≡ s.book) × (next.journal ≡ s.journal)

-- a line of the passes leaves the book as it is
abbrev pub OnPasses : (List PassState → LineReply → List PassState → Type 0) → ScriptState → Option LineReply
    → ScriptState → Type 0
OnPasses Does s None next = ⊥
OnPasses Does s (Some reply) next = Does s.passes reply next.passes × KeepsBook s next

-- a line is answered so in a state, and leaves the other one
abbrev pub Answers : Line → ScriptState → Option LineReply → ScriptState → Type 0
Answers lines.Empty = Reads (λ b. None)
Answers (lines.Page (pages.Register page node) bytes) = Commands (commands.Register page node bytes)
Answers (lines.Rare (rares.Drop page)) = Commands (commands.Drop page)
Answers (lines.Page (pages.Store page) bytes) = Commands (commands.Store page bytes)
Answers (lines.Short (shorts.Get page)) = Reads (λ b. Some (content_reply (bytes_of page b)))
Answers (lines.Short (shorts.Ticket page)) = Reads (λ b. Some (ticket_reply (is_known b page) (ticket_of page b)))
Answers (lines.Rare (rares.Mappers place)) = Lists place
Answers (lines.Rare rares.ScanPages) = λ s. Commands (commands.Scan s.book.knobs.pages_to_scan) s
Answers (lines.Short (shorts.Scan visits)) = Commands (commands.Scan visits)
Answers (lines.Rare rares.Prune) = Commands commands.Prune
Answers (lines.Rare (rares.Unmerge guest)) = Commands (commands.Unmerge guest)
Answers (lines.Rare (rares.Mergeable guest)) = Commands (commands.Mergeable guest)
Answers (lines.Rare (rares.MovePage page node)) = Commands (commands.MovePage page node)
Answers (lines.Rare (rares.MoveDup place node)) = Commands (commands.MoveDup place node)
Answers (lines.Rare (rares.Set knob value)) = Commands (setting knob value)
Answers (lines.Short (shorts.Show shown)) = Reads (λ b. Some (told.Value (shown_in shown b)))
Answers (lines.Short shorts.Stat) = Reads (λ b. Some (told.Counters (counters_of b)))
Answers (lines.Short (shorts.Find number place)) = OnPasses (AtPass number (Finds place))
Answers (lines.Page (pages.Equal number place) bytes) = OnPasses (AtPass number (Equals place bytes))
Answers (lines.Short (shorts.Look number)) = OnPasses (AtPass number LooksAt)
Answers (lines.Short (shorts.Leave number)) = OnPasses (AtPass number GivesUp)
Answers (lines.Rare rares.Audit) = OnPasses Audits

-- all holds are given back
abbrev pub AllGivenBack : ScriptState → ScriptState → Type 0
AllGivenBack s next = AllZip EndsIdle s.passes next.passes × KeepsBook s next

-- a line of no bytes has no reply
abbrev pub reply_text : Option LineReply → List ℕ
reply_text None = []
reply_text (Some reply) = text_of reply
